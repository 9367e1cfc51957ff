-- Calls that are printed are read back.
use Rattle.std.proofs.Common.{◌≡◌, ℕ, ◌<◌, ◌≤◌, ◌^◌, true, false, nat_lt, List, [], ◌∷◌, ◌++◌, length, Some, Ok, refl, sym, ap, subst, ◌∙◌, arith, append_assoc}
use Rattle.std.specs.Prelude.{◌==◌, codes}
use Rattle.std.specs.Fmt.{decimal}
use Rattle.std.specs.List.{All, AllByRecursion, list_all, slice_split}
use Rattle.std.proofs.lemmas.Bool.{and_parts}
use Rattle.std.proofs.lemmas.Bool.Decides.{nat_tests}
use Rattle.std.proofs.lemmas.List.Elements.{All-nil, All-cons}
use Rattle.std.proofs.lemmas.List.Splits.{slice_split_none, slice_split_at}
use Rattle.fal_base.specs.declared.op.Op.{Op}
use Rattle.fal_base.specs.declared.op.Op.TheVariants as op
use Rattle.fal_base.specs.declared.rule.Rule.{Rule}
use Rattle.fal_base.specs.declared.rule.Rule.TheVariants.{Hash, ByParent, Node}
use Rattle.fal_report.specs.Calls.{path_text, path_op, spaced_number, spaced_mode, spaced_path, rule_text, place_op, op_text, call_text}
use Rattle.fal_report.specs.Escapes.{escaped}
use Rattle.fal_report.specs.Inodes.{mode_text, owner_text}
use Rattle.fal_script.specs.declared.script.ScriptCall.{ScriptCall}
use Rattle.fal_script.specs.declared.verbs.Verb.{Verb}
use Rattle.fal_script.specs.declared.verbs.Verb.TheVariants as verb
use Rattle.fal_script.specs.Arguments.{cred_parts, cred_word, node_parts, spelled_rule, rule_word}
use Rattle.fal_script.specs.Calls.{path_words, path_number_words, path_owner_words, two_path_words, name_rule_words, op_words, call_words}
use Rattle.fal_script.specs.Printed.{IsPrintablePath, IsPrintableName, call_line}
use Rattle.fal_script.specs.Ranges.{IsSpelledRule, IsOpOf, IsLineOf}
use Rattle.fal_script.specs.Verbs.{verb_word}
use Rattle.fal_script.specs.Words.{is_word}
use Rattle.fal_script.proofs.ReadBack.Numbers.{number_read, number_word_read, counted_read, decimal_digits, decimal_is_word, mode_read, mode_is_word}
use Rattle.fal_script.proofs.ReadBack.Paths.{path_read, path_is_word, name_read, name_is_word}
use Rattle.fal_script.proofs.ReadBack.Words.{IsWord, each_append, spaced}

-- ---- callers and rules

no_colons : (digits : List ℕ) → AllByRecursion (λ b. (47 < b) × (b < 58)) digits → All (λ b. (b == 58) ≡ false) digits
no_colons [] are = All-nil (λ b. (b == 58) ≡ false)
no_colons (d ∷ digits) are = All-cons (λ b. (b == 58) ≡ false) d digits (other d are.0.1) (no_colons digits are.1)
  where
    other : (b : ℕ) → b < 58 → (b == 58) ≡ false
    other b low = grind (arith, nat_tests)

owner_is : (uid gid : ℕ) → owner_text uid gid ≡ decimal uid ++ 58 ∷ decimal gid
owner_is uid gid = append_assoc (decimal uid) (58 ∷ []) (decimal gid)

parts_read : (uid gid : ℕ) → uid < 2 ^ 64 → gid < 2 ^ 64 → slice_split (λ b. b == 58) (owner_text uid gid) ≡ decimal uid ∷ decimal gid ∷ []
parts_read uid gid small few =
    ap (slice_split (λ b. b == 58)) (owner_is uid gid)
    ∙ slice_split_at (λ b. b == 58) (decimal uid) 58 (decimal gid) (no_colons (decimal uid) (decimal_digits uid small)) refl
    ∙ ap (λ parts. decimal uid ∷ parts) (slice_split_none (λ b. b == 58) (decimal gid) (no_colons (decimal gid) (decimal_digits gid few)))

cred_read : (uid gid : ℕ) → uid < 2 ^ 32 → gid < 2 ^ 32 → cred_word (owner_text uid gid) ≡ Some (record { uid = uid; gid = gid })
unfolding cred_word
cred_read uid gid small few =
    ap cred_parts (parts_read uid gid (omega (arith, small)) (omega (arith, few)))
    ∙ rw (number_read 4294967295 uid (omega (arith, small)) (omega (arith, small)), number_read 4294967295 gid (omega (arith, few)) (omega (arith, few))) refl

owner_is_word : (uid gid : ℕ) → uid < 2 ^ 64 → gid < 2 ^ 64 → IsWord (owner_text uid gid)
owner_is_word uid gid small few =
    let first = decimal_is_word uid small in
    let second = decimal_is_word gid few in
    subst IsWord (sym (owner_is uid gid))
    (record { some = front (decimal uid) (58 ∷ decimal gid) first.some; dark = each_append (λ b. 32 < b) (decimal uid) (58 ∷ decimal gid) first.dark (omega arith, second.dark) })
  where
    front : (a b : List ℕ) → 0 < length a → 0 < length (a ++ b)
    front [] b some = absurd (omega arith)
    front (x ∷ a) b some = omega arith

node_read : (node : ℕ) → node < 65536 → spelled_rule (rule_text (Node node)) ≡ Some (Node node)
unfolding spelled_rule is_word rule_text
node_read node small =
    ap node_parts (
    slice_split_at (λ b. b == 58) (codes "node") 58 (decimal node) (no_colons_in_node) refl
    ∙ ap (λ parts. codes "node" ∷ parts) (slice_split_none (λ b. b == 58) (decimal node) (no_colons (decimal node) (decimal_digits node (omega (arith, small)))))
    )
    ∙ rw (number_read 65535 node (omega (arith, small)) (omega (arith, small))) refl
  where
    no_colons_in_node : All (λ b. (b == 58) ≡ false) (codes "node")
    no_colons_in_node =
        All-cons (λ b. (b == 58) ≡ false) 110 (codes "ode") refl (All-cons (λ b. (b == 58) ≡ false) 111 (codes "de") refl (All-cons (λ b. (b == 58) ≡ false) 100 (codes "e") refl
        (All-cons (λ b. (b == 58) ≡ false) 101 [] refl (All-nil (λ b. (b == 58) ≡ false)))))

rule_read : (rule : Rule) → IsSpelledRule rule → rule_word (rule_text rule) ≡ Ok rule
unfolding rule_word spelled_rule is_word rule_text
rule_read Hash is = refl
rule_read ByParent is = refl
rule_read (Node node) is = rw (node_read node is) refl

pub each_dark : (word : List ℕ) → list_all (λ b. nat_lt 32 b) word ≡ true → AllByRecursion (λ b. 32 < b) word
each_dark [] are = tt
each_dark (b ∷ word) are = let p = and_parts (nat_lt 32 b) (list_all (λ c. nat_lt 32 c) word) are in (below p.0, each_dark word p.1)
  where
    below : nat_lt 32 b ≡ true → 32 < b
    below is = grind (arith, nat_tests)

rule_is_word : (rule : Rule) → IsSpelledRule rule → IsWord (rule_text rule)
unfolding rule_text
rule_is_word Hash is = record { some = omega arith; dark = each_dark (codes "hash") refl }
rule_is_word ByParent is = record { some = omega arith; dark = each_dark (codes "parent") refl }
rule_is_word (Node node) is = record { some = omega arith; dark = each_append (λ b. 32 < b) (codes "node:") (decimal node) (each_dark (codes "node:") refl) (decimal_is_word node (omega (arith, is))).dark }

-- ---- operations

-- the name of an operation
abbrev verb_of : Op → Verb
verb_of (op.Mkdir path mode) = verb.Mkdir
verb_of (op.Create path mode) = verb.Create
verb_of (op.Stat path) = verb.Stat
verb_of (op.Access path want) = verb.Access
verb_of (op.Chmod path mode) = verb.Chmod
verb_of (op.Chown path uid gid) = verb.Chown
verb_of (op.Truncate path size) = verb.Truncate
verb_of (op.Unlink path) = verb.Unlink
verb_of (op.Rmdir path) = verb.Rmdir
verb_of (op.Rename old new) = verb.Rename
verb_of (op.List path) = verb.List
verb_of (op.Place name rule) = verb.Place

-- the word of an operation
abbrev verb_text : Verb → List ℕ
verb_text verb.Mkdir = codes "mkdir"
verb_text verb.Create = codes "create"
verb_text verb.Stat = codes "stat"
verb_text verb.Access = codes "access"
verb_text verb.Chmod = codes "chmod"
verb_text verb.Chown = codes "chown"
verb_text verb.Truncate = codes "truncate"
verb_text verb.Unlink = codes "unlink"
verb_text verb.Rmdir = codes "rmdir"
verb_text verb.Rename = codes "rename"
verb_text verb.List = codes "list"
verb_text verb.Place = codes "place"

verb_read : (v : Verb) → verb_word (verb_text v) ≡ Some v
unfolding verb_word is_word
verb_read verb.Mkdir = refl
verb_read verb.Create = refl
verb_read verb.Stat = refl
verb_read verb.Access = refl
verb_read verb.Chmod = refl
verb_read verb.Chown = refl
verb_read verb.Truncate = refl
verb_read verb.Unlink = refl
verb_read verb.Rmdir = refl
verb_read verb.Rename = refl
verb_read verb.List = refl
verb_read verb.Place = refl

verb_is_word : (v : Verb) → IsWord (verb_text v)
verb_is_word verb.Mkdir = record { some = omega arith; dark = each_dark (codes "mkdir") refl }
verb_is_word verb.Create = record { some = omega arith; dark = each_dark (codes "create") refl }
verb_is_word verb.Stat = record { some = omega arith; dark = each_dark (codes "stat") refl }
verb_is_word verb.Access = record { some = omega arith; dark = each_dark (codes "access") refl }
verb_is_word verb.Chmod = record { some = omega arith; dark = each_dark (codes "chmod") refl }
verb_is_word verb.Chown = record { some = omega arith; dark = each_dark (codes "chown") refl }
verb_is_word verb.Truncate = record { some = omega arith; dark = each_dark (codes "truncate") refl }
verb_is_word verb.Unlink = record { some = omega arith; dark = each_dark (codes "unlink") refl }
verb_is_word verb.Rmdir = record { some = omega arith; dark = each_dark (codes "rmdir") refl }
verb_is_word verb.Rename = record { some = omega arith; dark = each_dark (codes "rename") refl }
verb_is_word verb.List = record { some = omega arith; dark = each_dark (codes "list") refl }
verb_is_word verb.Place = record { some = omega arith; dark = each_dark (codes "place") refl }

-- the words of an operation's arguments
abbrev arguments_of : Op → List (List ℕ)
arguments_of (op.Mkdir path mode) = path_text path ∷ mode_text mode ∷ []
arguments_of (op.Create path mode) = path_text path ∷ mode_text mode ∷ []
arguments_of (op.Stat path) = path_text path ∷ []
arguments_of (op.Access path want) = path_text path ∷ decimal want ∷ []
arguments_of (op.Chmod path mode) = path_text path ∷ mode_text mode ∷ []
arguments_of (op.Chown path uid gid) = path_text path ∷ decimal uid ∷ decimal gid ∷ []
arguments_of (op.Truncate path size) = path_text path ∷ decimal size ∷ []
arguments_of (op.Unlink path) = path_text path ∷ []
arguments_of (op.Rmdir path) = path_text path ∷ []
arguments_of (op.Rename old new) = path_text old ∷ path_text new ∷ []
arguments_of (op.List path) = path_text path ∷ []
arguments_of (op.Place name rule) = escaped name ∷ rule_text rule ∷ []

op_spaced : (o : Op) → op_text o ≡ spaced (verb_text (verb_of o) ∷ arguments_of o)
unfolding path_op spaced_number spaced_mode spaced_path place_op
op_spaced (op.Mkdir path mode) = refl
op_spaced (op.Create path mode) = refl
op_spaced (op.Stat path) = refl
op_spaced (op.Access path want) = refl
op_spaced (op.Chmod path mode) = refl
op_spaced (op.Chown path uid gid) = ap (λ text. codes "chown " ++ text) (append_assoc (path_text path) (32 ∷ decimal uid) (32 ∷ decimal gid))
op_spaced (op.Truncate path size) = refl
op_spaced (op.Unlink path) = refl
op_spaced (op.Rmdir path) = refl
op_spaced (op.Rename old new) = refl
op_spaced (op.List path) = refl
op_spaced (op.Place name rule) = ap (λ text. codes "place " ++ text) (append_assoc (escaped name) (32 ∷ []) (rule_text rule))

op_read : (o : Op) → IsOpOf IsPrintablePath IsPrintableName o → op_words (verb_of o) (arguments_of o) ≡ Ok o
unfolding path_words path_number_words path_owner_words two_path_words name_rule_words
op_read (op.Mkdir path mode) is = rw (path_read path is.0, mode_read mode is.1) refl
op_read (op.Create path mode) is = rw (path_read path is.0, mode_read mode is.1) refl
op_read (op.Stat path) is = rw (path_read path is) refl
op_read (op.Access path want) is = let few = is.1 in rw (path_read path is.0, number_word_read 7 want (omega (arith, few)) (omega (arith, few))) refl
op_read (op.Chmod path mode) is = rw (path_read path is.0, mode_read mode is.1) refl
op_read (op.Chown path uid gid) is =
    let low = is.1 in
    let high = is.2 in
    rw (path_read path is.0, number_word_read 4294967295 uid (omega (arith, low)) (omega (arith, low)), number_word_read 4294967295 gid (omega (arith, high)) (omega (arith, high))) refl
op_read (op.Truncate path size) is = let few = is.1 in rw (path_read path is.0, number_word_read 9223372036854775807 size (omega (arith, few)) (omega (arith, few))) refl
op_read (op.Unlink path) is = rw (path_read path is) refl
op_read (op.Rmdir path) is = rw (path_read path is) refl
op_read (op.Rename old new) is = rw (path_read old is.0, path_read new is.1) refl
op_read (op.List path) is = rw (path_read path is) refl
op_read (op.Place name rule) is = rw (name_read name is.0, rule_read rule is.1) refl

arguments_are_words : (o : Op) → IsOpOf IsPrintablePath IsPrintableName o → AllByRecursion IsWord (arguments_of o)
arguments_are_words (op.Mkdir path mode) is = (path_is_word path is.0, (mode_is_word mode, tt))
arguments_are_words (op.Create path mode) is = (path_is_word path is.0, (mode_is_word mode, tt))
arguments_are_words (op.Stat path) is = (path_is_word path is, tt)
arguments_are_words (op.Access path want) is = let few = is.1 in (path_is_word path is.0, (decimal_is_word want (omega (arith, few)), tt))
arguments_are_words (op.Chmod path mode) is = (path_is_word path is.0, (mode_is_word mode, tt))
arguments_are_words (op.Chown path uid gid) is =
    let low = is.1 in
    let high = is.2 in
    (path_is_word path is.0, (decimal_is_word uid (omega (arith, low)), (decimal_is_word gid (omega (arith, high)), tt)))
arguments_are_words (op.Truncate path size) is = let few = is.1 in (path_is_word path is.0, (decimal_is_word size (omega (arith, few)), tt))
arguments_are_words (op.Unlink path) is = (path_is_word path is, tt)
arguments_are_words (op.Rmdir path) is = (path_is_word path is, tt)
arguments_are_words (op.Rename old new) is = (path_is_word old is.0, (path_is_word new is.1, tt))
arguments_are_words (op.List path) is = (path_is_word path is, tt)
arguments_are_words (op.Place name rule) is = (name_is_word name is.0, (rule_is_word rule is.1, tt))

-- ---- lines

-- the words of a call's line
abbrev pub words_in : ScriptCall → List (List ℕ)
words_in line = decimal line.lane ∷ owner_text line.call.cred.uid line.call.cred.gid ∷ verb_text (verb_of line.call.op) ∷ arguments_of line.call.op

abbrev pub IsPrintableLine : ℕ → ScriptCall → Type 0
IsPrintableLine = IsLineOf IsPrintablePath IsPrintableName

pub line_spaced : (line : ScriptCall) → call_line line ≡ spaced (words_in line)
line_spaced line =
    let owner = owner_text line.call.cred.uid line.call.cred.gid in
    append_assoc (decimal line.lane) (32 ∷ []) (call_text line.call)
    ∙ ap (λ text. decimal line.lane ++ 32 ∷ text) (append_assoc owner (32 ∷ []) (op_text line.call.op) ∙ ap (λ text. owner ++ 32 ∷ text) (op_spaced line.call.op))

pub are_words : (lanes : ℕ) (line : ScriptCall) → lanes ≤ 16 → IsPrintableLine lanes line → AllByRecursion IsWord (words_in line)
are_words lanes line few is =
    let within = is.within in
    let uid = is.call.uid in
    let gid = is.call.gid in (
      decimal_is_word line.lane (omega (arith, within, few)),
      (owner_is_word line.call.cred.uid line.call.cred.gid (omega (arith, uid)) (omega (arith, gid)), (verb_is_word (verb_of line.call.op), arguments_are_words line.call.op is.call.op)),
    )

pub call_read : (lanes : ℕ) (line : ScriptCall) → lanes ≤ 16 → IsPrintableLine lanes line → call_words lanes (words_in line) ≡ Ok line
unfolding call_words
call_read lanes line few is =
    let within = is.within in
    rw (counted_read lanes line.lane is.from_one is.within (omega (arith, within, few)), cred_read line.call.cred.uid line.call.cred.gid is.call.uid is.call.gid, verb_read (verb_of line.call.op), op_read line.call.op is.call.op) refl
