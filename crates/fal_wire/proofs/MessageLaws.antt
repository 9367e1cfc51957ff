-- Operations and messages are lawful.
use Rattle.std.proofs.Common.{◌≡◌, ◌++◌, ℕ, List, Ok, refl}
use Rattle.fal_base.specs.declared.call.CallId.{CallId}
use Rattle.fal_base.specs.declared.call.CallRec.{CallRec}
use Rattle.fal_base.specs.declared.call.Cred.{Cred}
use Rattle.fal_base.specs.declared.key.Key.{Key}
use Rattle.fal_base.specs.declared.op.Op.{Op}
use Rattle.fal_base.specs.declared.op.Op.TheVariants as op
use Rattle.fal_base.specs.declared.path.PathArg.{PathArg}
use Rattle.fal_base.specs.declared.reply.Reply.{Reply}
use Rattle.fal_base.specs.declared.row.NamedRow.{NamedRow}
use Rattle.fal_base.specs.declared.row.Update.{Update}
use Rattle.fal_base.specs.declared.rule.Rule.{Rule}
use Rattle.fal_base.specs.declared.rule.RuleChange.{RuleChange}
use Rattle.fal_wire.specs.declared.fault.WireFault.{WireFault}
use Rattle.fal_wire.specs.declared.message.Found.{Found}
use Rattle.fal_wire.specs.declared.message.Message.{Message}
use Rattle.fal_wire.specs.declared.message.Message.TheVariants as message
use Rattle.fal_wire.specs.Format.{number, ◌⊗◌, content_spelling, ContentFits, chosen_at}
use Rattle.fal_wire.specs.Numbers.{cred_field, id_field, version_above}
use Rattle.fal_wire.specs.Names.{path_arg_field}
use Rattle.fal_wire.specs.Rows.{changes_field}
use Rattle.fal_wire.specs.Ops.{path_and_mode, path_and_want, path_and_owner, path_and_size, two_paths, name_and_rule, op_layout, op_branches, op_field, call_field}
use Rattle.fal_wire.specs.Messages.{reply_body, stale_body, opened_body, list_ask_body, list_part_body, fetch_ask_body, fetch_got_body, lock_body, locked_body, count_body, counted_body, commit_body, done_body, block_body, blocked_body, install_body, message_layout, message_branches}
use Rattle.std.specs.List.{AllByRecursion}
use Rattle.fal_wire.proofs.Laws.{Laws, next_laws, both_laws, shaped_laws}
use Rattle.fal_wire.proofs.NumberLaws.{number_laws}
use Rattle.fal_wire.proofs.ListLaws.{IsBranch, branch_law, made_again, tagged_laws}
use Rattle.fal_wire.proofs.FieldLaws.{node_laws, asker_laws, operation_laws, version_laws, version_above_laws, mode_laws, want_laws, size_laws, cred_laws, id_laws, name_laws, key_laws, path_arg_laws, names_laws}
use Rattle.fal_wire.proofs.RowLaws.{rule_laws, reply_laws, changes_laws, found_laws, keys_laws, updates_laws, rows_laws}

path_and_mode_laws : Laws (PathArg × ℕ) path_and_mode
unfolding path_and_mode
path_and_mode_laws = both_laws path_arg_laws mode_laws

path_and_want_laws : Laws (PathArg × ℕ) path_and_want
unfolding path_and_want
path_and_want_laws = both_laws path_arg_laws want_laws

path_and_owner_laws : Laws (PathArg × (ℕ × ℕ)) path_and_owner
unfolding path_and_owner
path_and_owner_laws = both_laws path_arg_laws (both_laws (number_laws 4) (number_laws 4))

path_and_size_laws : Laws (PathArg × ℕ) path_and_size
unfolding path_and_size
path_and_size_laws = both_laws path_arg_laws size_laws

two_paths_laws : Laws (PathArg × PathArg) two_paths
unfolding two_paths
two_paths_laws = both_laws path_arg_laws path_arg_laws

name_and_rule_laws : Laws (List ℕ × Rule) name_and_rule
unfolding name_and_rule
name_and_rule_laws = both_laws name_laws rule_laws

op_again : (end : ℕ) (x : Op) (rest : List ℕ) → op_field.Fits x → op_field.read end (op_field.spell x ++ rest) ≡ Ok (x, rest)
unfolding op_field
op_again end (op.Mkdir path mode) rest fits = made_again Op (PathArg × ℕ) (λ f. op.Mkdir f.0 f.1) path_and_mode path_and_mode_laws (path, mode) end rest fits
op_again end (op.Create path mode) rest fits = made_again Op (PathArg × ℕ) (λ f. op.Create f.0 f.1) path_and_mode path_and_mode_laws (path, mode) end rest fits
op_again end (op.Stat path) rest fits = made_again Op PathArg (λ path. op.Stat path) path_arg_field path_arg_laws path end rest fits
op_again end (op.Access path want) rest fits = made_again Op (PathArg × ℕ) (λ f. op.Access f.0 f.1) path_and_want path_and_want_laws (path, want) end rest fits
op_again end (op.Chmod path mode) rest fits = made_again Op (PathArg × ℕ) (λ f. op.Chmod f.0 f.1) path_and_mode path_and_mode_laws (path, mode) end rest fits
op_again end (op.Chown path uid gid) rest fits = made_again Op (PathArg × (ℕ × ℕ)) (λ f. op.Chown f.0 f.1.0 f.1.1) path_and_owner path_and_owner_laws (path, (uid, gid)) end rest fits
op_again end (op.Truncate path size) rest fits = made_again Op (PathArg × ℕ) (λ f. op.Truncate f.0 f.1) path_and_size path_and_size_laws (path, size) end rest fits
op_again end (op.Unlink path) rest fits = made_again Op PathArg (λ path. op.Unlink path) path_arg_field path_arg_laws path end rest fits
op_again end (op.Rmdir path) rest fits = made_again Op PathArg (λ path. op.Rmdir path) path_arg_field path_arg_laws path end rest fits
op_again end (op.Rename old new) rest fits = made_again Op (PathArg × PathArg) (λ f. op.Rename f.0 f.1) two_paths two_paths_laws (old, new) end rest fits
op_again end (op.List path) rest fits = made_again Op PathArg (λ path. op.List path) path_arg_field path_arg_laws path end rest fits
op_again end (op.Place name rule) rest fits = made_again Op (List ℕ × Rule) (λ f. op.Place f.0 f.1) name_and_rule name_and_rule_laws (name, rule) end rest fits

op_forms : AllByRecursion (IsBranch op_layout) op_branches
op_forms = (
  branch_law Op (PathArg × ℕ) op_layout 1 (λ f. op.Mkdir f.0 f.1) path_and_mode path_and_mode_laws (λ _. refl) (λ _ fits. fits) (λ _. refl),
  (
    branch_law Op (PathArg × ℕ) op_layout 2 (λ f. op.Create f.0 f.1) path_and_mode path_and_mode_laws (λ _. refl) (λ _ fits. fits) (λ _. refl),
    (
      branch_law Op PathArg op_layout 3 (λ path. op.Stat path) path_arg_field path_arg_laws (λ _. refl) (λ _ fits. fits) (λ _. refl),
      (
        branch_law Op (PathArg × ℕ) op_layout 4 (λ f. op.Access f.0 f.1) path_and_want path_and_want_laws (λ _. refl) (λ _ fits. fits) (λ _. refl),
        (
          branch_law Op (PathArg × ℕ) op_layout 5 (λ f. op.Chmod f.0 f.1) path_and_mode path_and_mode_laws (λ _. refl) (λ _ fits. fits) (λ _. refl),
          (
            branch_law Op (PathArg × (ℕ × ℕ)) op_layout 6 (λ f. op.Chown f.0 f.1.0 f.1.1) path_and_owner path_and_owner_laws (λ _. refl) (λ _ fits. fits) (λ _. refl),
            (
              branch_law Op (PathArg × ℕ) op_layout 7 (λ f. op.Truncate f.0 f.1) path_and_size path_and_size_laws (λ _. refl) (λ _ fits. fits) (λ _. refl),
              (
                branch_law Op PathArg op_layout 8 (λ path. op.Unlink path) path_arg_field path_arg_laws (λ _. refl) (λ _ fits. fits) (λ _. refl),
                (
                  branch_law Op PathArg op_layout 9 (λ path. op.Rmdir path) path_arg_field path_arg_laws (λ _. refl) (λ _ fits. fits) (λ _. refl),
                  (
                    branch_law Op (PathArg × PathArg) op_layout 10 (λ f. op.Rename f.0 f.1) two_paths two_paths_laws (λ _. refl) (λ _ fits. fits) (λ _. refl),
                    (
                      branch_law Op PathArg op_layout 11 (λ path. op.List path) path_arg_field path_arg_laws (λ _. refl) (λ _ fits. fits) (λ _. refl),
                      (
                        branch_law Op (List ℕ × Rule) op_layout 12 (λ f. op.Place f.0 f.1) name_and_rule name_and_rule_laws (λ _. refl) (λ _ fits. fits) (λ _. refl),
                        tt,
                      ),
                    ),
                  ),
                ),
              ),
            ),
          ),
        ),
      ),
    ),
  ),
)

op_laws : Laws Op op_field
unfolding op_field
op_laws = tagged_laws Op op_layout op_branches op_forms op_again

call_laws : Laws CallRec call_field
unfolding call_field
call_laws = shaped_laws CallRec (CallId × (Cred × (ℕ × Op))) _ _ (id_field ⊗ cred_field ⊗ number 4 ⊗ op_field) (both_laws id_laws (both_laws cred_laws (both_laws (number_laws 4) op_laws))) (λ c. refl) (λ f fits. refl)

reply_body_laws : Laws (CallId × Reply) reply_body
unfolding reply_body
reply_body_laws = both_laws id_laws reply_laws

stale_body_laws : Laws (CallId × (ℕ × (ℕ × List RuleChange))) stale_body
unfolding stale_body
stale_body_laws = both_laws id_laws (next_laws ℕ (ℕ × List RuleChange) (number 4) (λ old. version_above old ⊗ changes_field) (number_laws 4) (λ old. both_laws (version_above_laws old) changes_laws))

opened_body_laws : Laws (CallId × ℕ) opened_body
unfolding opened_body
opened_body_laws = both_laws id_laws (number_laws 8)

list_ask_body_laws : Laws (CallId × (ℕ × ℕ)) list_ask_body
unfolding list_ask_body
list_ask_body_laws = both_laws id_laws (both_laws (number_laws 4) (number_laws 8))

list_part_body_laws : Laws (CallId × (ℕ × List (List ℕ))) list_part_body
unfolding list_part_body
list_part_body_laws = both_laws id_laws (both_laws node_laws names_laws)

fetch_ask_body_laws : Laws (ℕ × (ℕ × Key)) fetch_ask_body
unfolding fetch_ask_body
fetch_ask_body_laws = both_laws asker_laws (both_laws (number_laws 8) key_laws)

fetch_got_body_laws : Laws (ℕ × (Key × Found)) fetch_got_body
unfolding fetch_got_body
fetch_got_body_laws = both_laws (number_laws 8) (both_laws key_laws found_laws)

lock_body_laws : Laws (ℕ × List Key) lock_body
unfolding lock_body
lock_body_laws = both_laws operation_laws keys_laws

locked_body_laws : Laws (ℕ × (ℕ × List Update)) locked_body
unfolding locked_body
locked_body_laws = both_laws operation_laws (both_laws node_laws updates_laws)

count_body_laws : Laws (ℕ × ℕ) count_body
unfolding count_body
count_body_laws = both_laws operation_laws (number_laws 8)

counted_body_laws : Laws (ℕ × (ℕ × ℕ)) counted_body
unfolding counted_body
counted_body_laws = both_laws operation_laws (both_laws node_laws (number_laws 8))

commit_body_laws : Laws (ℕ × List Update) commit_body
unfolding commit_body
commit_body_laws = both_laws operation_laws updates_laws

done_body_laws : Laws (ℕ × ℕ) done_body
unfolding done_body
done_body_laws = both_laws operation_laws node_laws

block_body_laws : Laws (ℕ × List ℕ) block_body
unfolding block_body
block_body_laws = both_laws operation_laws name_laws

blocked_body_laws : Laws (ℕ × (ℕ × List NamedRow)) blocked_body
unfolding blocked_body
blocked_body_laws = both_laws operation_laws (both_laws node_laws rows_laws)

install_body_laws : Laws (ℕ × (ℕ × (Rule × List NamedRow))) install_body
unfolding install_body
install_body_laws = both_laws operation_laws (both_laws version_laws (both_laws rule_laws rows_laws))

-- what is spelled is read by its kind's branch
pub message_again : (end : ℕ) (fault : WireFault) (x : Message) (rest : List ℕ) → ContentFits (message_layout x) → chosen_at message_branches fault (message_layout x).tag end (content_spelling (message_layout x) ++ rest) ≡ Ok (x, rest)
message_again end fault (message.Call call) rest fits = made_again Message CallRec (λ call. message.Call call) call_field call_laws call end rest fits
message_again end fault (message.Reply id reply) rest fits = made_again Message (CallId × Reply) (λ f. message.Reply f.0 f.1) reply_body reply_body_laws (id, reply) end rest fits
message_again end fault (message.Stale id old new changes) rest fits = made_again Message (CallId × (ℕ × (ℕ × List RuleChange))) (λ f. message.Stale f.0 f.1.0 f.1.1.0 f.1.1.1) stale_body stale_body_laws (id, (old, (new, changes))) end rest fits
message_again end fault (message.Opened id dir) rest fits = made_again Message (CallId × ℕ) (λ f. message.Opened f.0 f.1) opened_body opened_body_laws (id, dir) end rest fits
message_again end fault (message.ListAsk id version dir) rest fits = made_again Message (CallId × (ℕ × ℕ)) (λ f. message.ListAsk f.0 f.1.0 f.1.1) list_ask_body list_ask_body_laws (id, (version, dir)) end rest fits
message_again end fault (message.ListPart id node names) rest fits = made_again Message (CallId × (ℕ × List (List ℕ))) (λ f. message.ListPart f.0 f.1.0 f.1.1) list_part_body list_part_body_laws (id, (node, names)) end rest fits
message_again end fault (message.FetchAsk asker number key) rest fits = made_again Message (ℕ × (ℕ × Key)) (λ f. message.FetchAsk f.0 f.1.0 f.1.1) fetch_ask_body fetch_ask_body_laws (asker, (number, key)) end rest fits
message_again end fault (message.FetchGot number key found) rest fits = made_again Message (ℕ × (Key × Found)) (λ f. message.FetchGot f.0 f.1.0 f.1.1) fetch_got_body fetch_got_body_laws (number, (key, found)) end rest fits
message_again end fault (message.Lock op keys) rest fits = made_again Message (ℕ × List Key) (λ f. message.Lock f.0 f.1) lock_body lock_body_laws (op, keys) end rest fits
message_again end fault (message.Locked op node rows) rest fits = made_again Message (ℕ × (ℕ × List Update)) (λ f. message.Locked f.0 f.1.0 f.1.1) locked_body locked_body_laws (op, (node, rows)) end rest fits
message_again end fault (message.Count op dir) rest fits = made_again Message (ℕ × ℕ) (λ f. message.Count f.0 f.1) count_body count_body_laws (op, dir) end rest fits
message_again end fault (message.Counted op node number) rest fits = made_again Message (ℕ × (ℕ × ℕ)) (λ f. message.Counted f.0 f.1.0 f.1.1) counted_body counted_body_laws (op, (node, number)) end rest fits
message_again end fault (message.Commit op updates) rest fits = made_again Message (ℕ × List Update) (λ f. message.Commit f.0 f.1) commit_body commit_body_laws (op, updates) end rest fits
message_again end fault (message.Done op node) rest fits = made_again Message (ℕ × ℕ) (λ f. message.Done f.0 f.1) done_body done_body_laws (op, node) end rest fits
message_again end fault (message.Block op name) rest fits = made_again Message (ℕ × List ℕ) (λ f. message.Block f.0 f.1) block_body block_body_laws (op, name) end rest fits
message_again end fault (message.Blocked op node rows) rest fits = made_again Message (ℕ × (ℕ × List NamedRow)) (λ f. message.Blocked f.0 f.1.0 f.1.1) blocked_body blocked_body_laws (op, (node, rows)) end rest fits
message_again end fault (message.Install op version rule rows) rest fits = made_again Message (ℕ × (ℕ × (Rule × List NamedRow))) (λ f. message.Install f.0 f.1.0 f.1.1.0 f.1.1.1) install_body install_body_laws (op, (version, (rule, rows))) end rest fits
message_again end fault (message.Installed op node) rest fits = made_again Message (ℕ × ℕ) (λ f. message.Installed f.0 f.1) done_body done_body_laws (op, node) end rest fits

pub message_forms : AllByRecursion (IsBranch message_layout) message_branches
message_forms = (
  branch_law Message CallRec message_layout 1 (λ call. message.Call call) call_field call_laws (λ _. refl) (λ _ fits. fits) (λ _. refl),
  (
    branch_law Message (CallId × Reply) message_layout 2 (λ f. message.Reply f.0 f.1) reply_body reply_body_laws (λ _. refl) (λ _ fits. fits) (λ _. refl),
    (
      branch_law Message (CallId × (ℕ × (ℕ × List RuleChange))) message_layout 3 (λ f. message.Stale f.0 f.1.0 f.1.1.0 f.1.1.1) stale_body stale_body_laws (λ _. refl) (λ _ fits. fits) (λ _. refl),
      (
        branch_law Message (CallId × ℕ) message_layout 4 (λ f. message.Opened f.0 f.1) opened_body opened_body_laws (λ _. refl) (λ _ fits. fits) (λ _. refl),
        (
          branch_law Message (CallId × (ℕ × ℕ)) message_layout 5 (λ f. message.ListAsk f.0 f.1.0 f.1.1) list_ask_body list_ask_body_laws (λ _. refl) (λ _ fits. fits) (λ _. refl),
          (
            branch_law Message (CallId × (ℕ × List (List ℕ))) message_layout 6 (λ f. message.ListPart f.0 f.1.0 f.1.1) list_part_body list_part_body_laws (λ _. refl) (λ _ fits. fits) (λ _. refl),
            (
              branch_law Message (ℕ × (ℕ × Key)) message_layout 7 (λ f. message.FetchAsk f.0 f.1.0 f.1.1) fetch_ask_body fetch_ask_body_laws (λ _. refl) (λ _ fits. fits) (λ _. refl),
              (
                branch_law Message (ℕ × (Key × Found)) message_layout 8 (λ f. message.FetchGot f.0 f.1.0 f.1.1) fetch_got_body fetch_got_body_laws (λ _. refl) (λ _ fits. fits) (λ _. refl),
                (
                  branch_law Message (ℕ × List Key) message_layout 9 (λ f. message.Lock f.0 f.1) lock_body lock_body_laws (λ _. refl) (λ _ fits. fits) (λ _. refl),
                  (
                    branch_law Message (ℕ × (ℕ × List Update)) message_layout 10 (λ f. message.Locked f.0 f.1.0 f.1.1) locked_body locked_body_laws (λ _. refl) (λ _ fits. fits) (λ _. refl),
                    (
                      branch_law Message (ℕ × ℕ) message_layout 11 (λ f. message.Count f.0 f.1) count_body count_body_laws (λ _. refl) (λ _ fits. fits) (λ _. refl),
                      (
                        branch_law Message (ℕ × (ℕ × ℕ)) message_layout 12 (λ f. message.Counted f.0 f.1.0 f.1.1) counted_body counted_body_laws (λ _. refl) (λ _ fits. fits) (λ _. refl),
                        (
                          branch_law Message (ℕ × List Update) message_layout 13 (λ f. message.Commit f.0 f.1) commit_body commit_body_laws (λ _. refl) (λ _ fits. fits) (λ _. refl),
                          (
                            branch_law Message (ℕ × ℕ) message_layout 14 (λ f. message.Done f.0 f.1) done_body done_body_laws (λ _. refl) (λ _ fits. fits) (λ _. refl),
                            (
                              branch_law Message (ℕ × List ℕ) message_layout 15 (λ f. message.Block f.0 f.1) block_body block_body_laws (λ _. refl) (λ _ fits. fits) (λ _. refl),
                              (
                                branch_law Message (ℕ × (ℕ × List NamedRow)) message_layout 16 (λ f. message.Blocked f.0 f.1.0 f.1.1) blocked_body blocked_body_laws (λ _. refl) (λ _ fits. fits) (λ _. refl),
                                (
                                  branch_law Message (ℕ × (ℕ × (Rule × List NamedRow))) message_layout 17 (λ f. message.Install f.0 f.1.0 f.1.1.0 f.1.1.1) install_body install_body_laws (λ _. refl) (λ _ fits. fits) (λ _. refl),
                                  (
                                    branch_law Message (ℕ × ℕ) message_layout 18 (λ f. message.Installed f.0 f.1) done_body done_body_laws (λ _. refl) (λ _ fits. fits) (λ _. refl),
                                    tt,
                                  ),
                                ),
                              ),
                            ),
                          ),
                        ),
                      ),
                    ),
                  ),
                ),
              ),
            ),
          ),
        ),
      ),
    ),
  ),
)
