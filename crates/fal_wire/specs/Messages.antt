-- Records: a kind, the version 1, the length of the body in four bytes, and the body.
use Rattle.std.specs.Prelude.{ℕ, ◌+◌, ◌<◌, ◌^◌, Bool, ◌&&◌, ◌||◌, List, [], ◌∷◌, ◌++◌, length, drop, Result, Ok, Err, nat_lt, ◌==◌, if◌then◌else◌}
use Rattle.byteorder.specs.Endian.{big_number}
use Rattle.fal_base.specs.declared.call.CallId.{CallId}
use Rattle.fal_base.specs.declared.key.Key.{Key}
use Rattle.fal_base.specs.declared.reply.Reply.{Reply}
use Rattle.fal_base.specs.declared.row.NamedRow.{NamedRow}
use Rattle.fal_base.specs.declared.row.Update.{Update}
use Rattle.fal_base.specs.declared.rule.Rule.{Rule}
use Rattle.fal_base.specs.declared.rule.RuleChange.{RuleChange}
use Rattle.fal_wire.specs.declared.fault.WireFault.{WireFault}
use Rattle.fal_wire.specs.declared.fault.WireFault.TheVariants as fault
use Rattle.fal_wire.specs.declared.message.Found.{Found}
use Rattle.fal_wire.specs.declared.message.Message.{Message}
use Rattle.fal_wire.specs.declared.message.Message.TheVariants as message
use Rattle.fal_wire.specs.Format.{◌>>=◌, Format, number, number_spelling, ◌⊗◌, ◌▷◌, made, place, Layout, layout, content_spelling, ContentFits, Branch, chosen_at}
use Rattle.fal_wire.specs.Numbers.{node_field, asker_field, operation_field, version_field, version_above, id_field}
use Rattle.fal_wire.specs.Names.{name_field, key_field, names_field}
use Rattle.fal_wire.specs.Rows.{reply_field, changes_field, found_field, keys_field, updates_field, rows_field, rule_field}
use Rattle.fal_wire.specs.Ops.{call_field}

-- the fields of each kind of record, in their order

unfoldable pub reply_body : Format (CallId × Reply)
reply_body = id_field ⊗ reply_field

unfoldable pub stale_body : Format (CallId × (ℕ × (ℕ × List RuleChange)))
stale_body = id_field ⊗ number 4 ▷ λ old. version_above old ⊗ changes_field

unfoldable pub opened_body : Format (CallId × ℕ)
opened_body = id_field ⊗ number 8

unfoldable pub list_ask_body : Format (CallId × (ℕ × ℕ))
list_ask_body = id_field ⊗ number 4 ⊗ number 8

unfoldable pub list_part_body : Format (CallId × (ℕ × List (List ℕ)))
list_part_body = id_field ⊗ node_field ⊗ names_field

unfoldable pub fetch_ask_body : Format (ℕ × (ℕ × Key))
fetch_ask_body = asker_field ⊗ number 8 ⊗ key_field

unfoldable pub fetch_got_body : Format (ℕ × (Key × Found))
fetch_got_body = number 8 ⊗ key_field ⊗ found_field

unfoldable pub lock_body : Format (ℕ × List Key)
lock_body = operation_field ⊗ keys_field

unfoldable pub locked_body : Format (ℕ × (ℕ × List Update))
locked_body = operation_field ⊗ node_field ⊗ updates_field

unfoldable pub count_body : Format (ℕ × ℕ)
count_body = operation_field ⊗ number 8

unfoldable pub counted_body : Format (ℕ × (ℕ × ℕ))
counted_body = operation_field ⊗ node_field ⊗ number 8

unfoldable pub commit_body : Format (ℕ × List Update)
commit_body = operation_field ⊗ updates_field

-- done and installed
unfoldable pub done_body : Format (ℕ × ℕ)
done_body = operation_field ⊗ node_field

unfoldable pub block_body : Format (ℕ × List ℕ)
block_body = operation_field ⊗ name_field

unfoldable pub blocked_body : Format (ℕ × (ℕ × List NamedRow))
blocked_body = operation_field ⊗ node_field ⊗ rows_field

unfoldable pub install_body : Format (ℕ × (ℕ × (Rule × List NamedRow)))
install_body = operation_field ⊗ version_field ⊗ rule_field ⊗ rows_field

-- a message's kind, and its fields
abbrev pub message_layout : Message → Layout
message_layout (message.Call call) = layout 1 call_field call
message_layout (message.Reply id reply) = layout 2 reply_body (id, reply)
message_layout (message.Stale id old new changes) = layout 3 stale_body (id, (old, (new, changes)))
message_layout (message.Opened id dir) = layout 4 opened_body (id, dir)
message_layout (message.ListAsk id version dir) = layout 5 list_ask_body (id, (version, dir))
message_layout (message.ListPart id node names) = layout 6 list_part_body (id, (node, names))
message_layout (message.FetchAsk asker number key) = layout 7 fetch_ask_body (asker, (number, key))
message_layout (message.FetchGot number key found) = layout 8 fetch_got_body (number, (key, found))
message_layout (message.Lock op keys) = layout 9 lock_body (op, keys)
message_layout (message.Locked op node rows) = layout 10 locked_body (op, (node, rows))
message_layout (message.Count op dir) = layout 11 count_body (op, dir)
message_layout (message.Counted op node number) = layout 12 counted_body (op, (node, number))
message_layout (message.Commit op updates) = layout 13 commit_body (op, updates)
message_layout (message.Done op node) = layout 14 done_body (op, node)
message_layout (message.Block op name) = layout 15 block_body (op, name)
message_layout (message.Blocked op node rows) = layout 16 blocked_body (op, (node, rows))
message_layout (message.Install op version rule rows) = layout 17 install_body (op, (version, (rule, rows)))
message_layout (message.Installed op node) = layout 18 done_body (op, node)

abbrev pub message_branches : List (Branch Message)
message_branches =
    (1, made (λ call. message.Call call) call_field)
    ∷ (2, made (λ f. message.Reply f.0 f.1) reply_body)
    ∷ (3, made (λ f. message.Stale f.0 f.1.0 f.1.1.0 f.1.1.1) stale_body)
    ∷ (4, made (λ f. message.Opened f.0 f.1) opened_body)
    ∷ (5, made (λ f. message.ListAsk f.0 f.1.0 f.1.1) list_ask_body)
    ∷ (6, made (λ f. message.ListPart f.0 f.1.0 f.1.1) list_part_body)
    ∷ (7, made (λ f. message.FetchAsk f.0 f.1.0 f.1.1) fetch_ask_body)
    ∷ (8, made (λ f. message.FetchGot f.0 f.1.0 f.1.1) fetch_got_body)
    ∷ (9, made (λ f. message.Lock f.0 f.1) lock_body)
    ∷ (10, made (λ f. message.Locked f.0 f.1.0 f.1.1) locked_body)
    ∷ (11, made (λ f. message.Count f.0 f.1) count_body)
    ∷ (12, made (λ f. message.Counted f.0 f.1.0 f.1.1) counted_body)
    ∷ (13, made (λ f. message.Commit f.0 f.1) commit_body)
    ∷ (14, made (λ f. message.Done f.0 f.1) done_body)
    ∷ (15, made (λ f. message.Block f.0 f.1) block_body)
    ∷ (16, made (λ f. message.Blocked f.0 f.1.0 f.1.1) blocked_body)
    ∷ (17, made (λ f. message.Install f.0 f.1.0 f.1.1.0 f.1.1.1) install_body)
    ∷ (18, made (λ f. message.Installed f.0 f.1) done_body)
    ∷ []

-- a message's body
unfoldable pub body_spelling : Message → List ℕ
body_spelling m = content_spelling (message_layout m)

unfoldable pub kind_of : Message → ℕ
kind_of m = (message_layout m).tag

-- the bytes of a message
abbrev pub spelling : Message → List ℕ
spelling m = kind_of m ∷ 1 ∷ (number_spelling 4 (length (body_spelling m)) ++ body_spelling m)

-- each field of the message is in its range
unfoldable pub FieldsFit : Message → Type 0
FieldsFit m = ContentFits (message_layout m)

-- the message is within the ranges of the format: what has a spelling
pub record Fits (m : Message) : Type 0 where
  pub fields : FieldsFit m
  pub short : length (body_spelling m) < 2 ^ 32

-- the fields of a record of this kind, from the left
unfoldable pub body_at : ℕ → ℕ → List ℕ → Result (Message × List ℕ) WireFault
body_at kind end bytes = chosen_at message_branches (fault.Kind 0) kind end bytes

-- the fields have to end where the body does
abbrev pub whole : ℕ → Message × List ℕ → Result Message WireFault
whole end x = if length x.1 == 0 then Ok x.0 else Err (fault.Length (place end x.1))

-- what stands behind the version: the length and so many bytes, no fewer and no more; then the body
abbrev pub framed : ℕ → List ℕ → Result Message WireFault
framed kind bytes =
    if nat_lt (length bytes) 4 || nat_lt (length bytes) (4 + big_number 4 bytes) then Err (fault.Short (2 + length bytes))
    else (if nat_lt (4 + big_number 4 bytes) (length bytes) then Err (fault.Trailing (6 + big_number 4 bytes))
    else body_at kind (2 + length bytes) (drop 4 bytes) >>= whole (2 + length bytes))

-- the kinds are 1 to 18
abbrev pub is_kind : ℕ → Bool
is_kind kind = nat_lt 0 kind && nat_lt kind 19

-- the message whose bytes these are, or the first fault from the left
unfoldable pub reading : List ℕ → Result Message WireFault
reading [] = Err (fault.Short 0)
reading (kind ∷ []) = if is_kind kind then Err (fault.Short 1) else Err (fault.Kind 0)
reading (kind ∷ version ∷ bytes) = if is_kind kind then (if version == 1 then framed kind bytes else Err (fault.Value 1)) else Err (fault.Kind 0)
