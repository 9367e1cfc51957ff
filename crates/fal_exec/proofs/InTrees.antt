-- What comes of a call by its row and its directory is what the tree says of the call.
use Rattle.std.proofs.Common.{◌≡◌, ℕ, Bool, true, false, not, ◌&&◌, ◌||◌, ◌==◌, List, [], ◌∷◌, Option, Some, None, is_some, IsSomeAnd, refl, sym, ap, ◌∙◌, subst, cond}
use Rattle.std.specs.Option.{option_map}
use Rattle.fal_base.specs.declared.call.Cred.{Cred}
use Rattle.fal_base.specs.declared.inode.Dentry.{Dentry}
use Rattle.fal_base.specs.declared.inode.Inode.{Inode}
use Rattle.fal_base.specs.declared.inode.Kind.TheVariants.{Dir, File}
use Rattle.fal_base.specs.declared.key.Key.{Key}
use Rattle.fal_base.specs.declared.op.Op.{Op}
use Rattle.fal_base.specs.declared.op.Op.TheVariants as op
use Rattle.fal_base.specs.declared.path.PathArg.TheVariants.{Good, Bad}
use Rattle.fal_base.specs.declared.reply.Errno.{Errno}
use Rattle.fal_base.specs.declared.reply.Errno.TheVariants.{Eacces, Eexist, Eisdir, Enoent, Enotdir, Eperm}
use Rattle.fal_base.specs.declared.reply.Reply.{Reply}
use Rattle.fal_base.specs.declared.reply.Reply.TheVariants.{Fine, Fail, Stat, Names}
use Rattle.fal_base.specs.Tree.{Tree, row_at, with_row, without_row, names_under, root_key}
use Rattle.fal_base.specs.Walk.{Stop, Ready, walk, is_dir, dentry_of, grants, kept_grants}
use Rattle.fal_base.specs.Answer as tells
use Rattle.fal_base.specs.Answer.{answer, walked, reached}
use Rattle.fal_base.specs.Change.{makes, change, is_fine, changes, new_row, last_key_of, update}
use Rattle.fal_exec.specs.declared.outcome.Change.TheVariants.{Put, Remove}
use Rattle.fal_exec.specs.declared.outcome.ExecOut.{ExecOut}
use Rattle.fal_exec.specs.declared.outcome.ExecOut.TheVariants.{Finish, Opened, PassOn}
use Rattle.fal_exec.specs.Outcome.{outcome_of, unless_refused, where_found, without_change, changed, make_outcome, access_outcome, chmod_outcome, chown_outcome, truncate_outcome, unlink_outcome, list_outcome}
use Rattle.fal_exec.specs.RowCall.{row_names}
use Rattle.fal_exec.specs.Executed.{IsExecuted, IsExecutedInTrees, passes_on, is_of_owner, is_directory}
use Rattle.fal_base.specs.Transcript.{is_list, is_names}

and_none : (b : Bool) → (b && false) ≡ false
and_none true = refl
and_none false = refl

module _ (tree : Tree) (cred : Cred) (call : Op) (fresh : ℕ) (key : Key) where
  -- a call that fails changes nothing
  fails : (errno : Errno) → answer tree cred call ≡ Fail errno → IsExecuted tree cred call fresh key (without_change (Fail errno))
  fails errno is = record {
    answered = sym is;
    part = ap (λ reply. changes tree cred call && is_fine reply) is ∙ and_none (changes tree cred call);
    not_opened = ap (λ reply. is_list call && is_names reply) is ∙ and_none (is_list call);
    not_passed_on = ap (λ reply. is_of_owner call && is_fine reply && is_directory (row_at tree key)) is ∙ ap (λ b. b && is_directory (row_at tree key)) (and_none (is_of_owner call));
  }

  -- the first check that fails is the answer, and the rest is as after them all
  judges : (checks : List (Bool × Errno)) (reply : Reply) (out : ExecOut) → answer tree cred call ≡ tells.checked checks reply
      → (answer tree cred call ≡ reply → IsExecuted tree cred call fresh key out) → IsExecuted tree cred call fresh key (unless_refused checks out)
  judges [] reply out is after = after is
  judges (check ∷ checks) reply out is after =
      elim check.0 as (λ b. answer tree cred call ≡ cond b (Fail check.1) (tells.checked checks reply) → IsExecuted tree cred call fresh key (cond b (without_change (Fail check.1)) (unless_refused checks out))) [
        | true ↦ λ failed. fails check.1 failed
        | false ↦ λ passed. judges checks reply out passed after
      ] is

  -- no row is ENOENT
  finds : (row : Option Inode) (go : Inode → Reply) (out : Inode → ExecOut) → answer tree cred call ≡ tells.found row go
      → ((inode : Inode) → row ≡ Some inode → answer tree cred call ≡ go inode → IsExecuted tree cred call fresh key (out inode)) → IsExecuted tree cred call fresh key (where_found row out)
  finds None go out is after = fails Enoent is
  finds (Some inode) go out is after = after inode refl is

  -- a call that changes nothing, and is answered otherwise than with names
  stays : (reply : Reply) → is_names reply ≡ false → is_of_owner call ≡ false → changes tree cred call ≡ false → answer tree cred call ≡ reply → IsExecuted tree cred call fresh key (without_change reply)
  stays reply unlisted not_owner changeless is = record {
    answered = sym is;
    part = ap (λ b. b && is_fine (answer tree cred call)) changeless;
    not_opened = ap (λ r. is_list call && is_names r) is ∙ ap (λ b. is_list call && b) unlisted ∙ and_none (is_list call);
    not_passed_on = ap (λ b. b && is_fine (answer tree cred call) && is_directory (row_at tree key)) not_owner;
  }

  makes_one : changes tree cred call ≡ true → answer tree cred call ≡ Fine → makes tree cred call ≡ true
  makes_one changing is = ap (λ reply. changes tree cred call && is_fine reply) is ∙ ap (λ b. b && true) changing

  -- a call that is answered ok and changes its row
  puts : (now : Inode) → changes tree cred call ≡ true → answer tree cred call ≡ Fine → change tree cred call fresh ≡ with_row tree key now → passes_on tree cred call key ≡ false
      → IsExecuted tree cred call fresh key (Finish Fine (Put now))
  puts now changing is after here = record {
    answered = sym is;
    part = (makes_one changing is, after);
    not_opened = ap (λ reply. is_list call && is_names reply) is ∙ and_none (is_list call);
    not_passed_on = here;
  }

  removes : changes tree cred call ≡ true → answer tree cred call ≡ Fine → change tree cred call fresh ≡ without_row tree key → passes_on tree cred call key ≡ false
      → IsExecuted tree cred call fresh key (Finish Fine Remove)
  removes changing is after here = record {
    answered = sym is;
    part = (makes_one changing is, after);
    not_opened = ap (λ reply. is_list call && is_names reply) is ∙ and_none (is_list call);
    not_passed_on = here;
  }

  -- a chmod or chown that is answered ok
  owner_changes : (inode now : Inode) → is_of_owner call ≡ true → changes tree cred call ≡ true → row_at tree key ≡ Some inode → answer tree cred call ≡ Fine → change tree cred call fresh ≡ with_row tree key now
      → IsExecuted tree cred call fresh key (changed inode now)
  owner_changes inode now owner changing row is after =
      let passing : (b : Bool) → is_dir inode ≡ b → passes_on tree cred call key ≡ b =
      λ (b : Bool) (kind : is_dir inode ≡ b). ap (λ o. o && is_fine (answer tree cred call) && is_directory (row_at tree key)) owner ∙ ap (λ reply. true && is_fine reply && is_directory (row_at tree key)) is
      ∙ ap (λ r. true && true && is_directory r) row ∙ kind in
      elim (is_dir inode) as (λ b. is_dir inode ≡ b → IsExecuted tree cred call fresh key (cond b PassOn (Finish Fine (Put now)))) [
        | true ↦ λ kind. record { passed_on = passing true kind; answered = is }
        | false ↦ λ kind. puts now changing is after (passing false kind)
      ] refl

-- the directory and its dentry grant the same
same_grants : (cred : Cred) (above : Option Inode) → tells.parent_grants cred 2 above ≡ kept_grants cred 2 (option_map dentry_of above)
same_grants cred None = refl
same_grants cred (Some dir) = refl

is_directory_of : (inode : Inode) → is_dir inode ≡ true → inode.kind ≡ Dir
is_directory_of inode is = elim inode.kind as (λ k. elim k as (λ _. Bool) [ Dir ↦ true | File ↦ false ] ≡ true → k ≡ Dir) [ Dir ↦ λ _. refl | File ↦ λ no. cc ] is

not_false : (b : Bool) → not b ≡ false → b ≡ true
not_false true is = refl
not_false false is = cc

module _ (tree : Tree) (cred : Cred) (names : List (List ℕ)) (above : Option Inode) (passed : List ℕ) (key : Key) (fresh : ℕ) (ready : walk tree cred names ≡ Ready above passed key) where
  -- what is answered after the walk
  after_walk : (go : Option Inode → Key → Option Inode → Reply) → reached tree cred (Good names) go ≡ go above key (row_at tree key)
  after_walk go = ap (λ w. walked w (λ parent passed last. go parent last (row_at tree last))) ready

  last_is : last_key_of tree cred (Good names) ≡ key
  last_is = ap (λ w. elim w as (λ _. Key) [ Stop errno ↦ root_key | Ready parent passed last ↦ last ]) ready

  -- the row under the last key, changed
  updated : (f : Inode → Inode) (inode : Inode) → row_at tree key ≡ Some inode → update tree (last_key_of tree cred (Good names)) f ≡ with_row tree key (f inode)
  updated f inode row = ap (λ k. update tree k f) last_is ∙ ap (λ r. elim r as (λ _. Tree) [ None ↦ tree | Some i ↦ with_row tree key (f i) ]) row

  abbrev IsCase : Op → Type 0
  IsCase call = IsExecuted tree cred call fresh key (outcome_of (row_at tree key) (option_map dentry_of above) cred call fresh)

  make_case : (call : Op) (made : Inode) → answer tree cred call ≡ tells.make_answer tree cred (Good names) → changes tree cred call ≡ true → is_of_owner call ≡ false
      → change tree cred call fresh ≡ with_row tree (last_key_of tree cred (Good names)) made → IsExecuted tree cred call fresh key (make_outcome (row_at tree key) (option_map dentry_of above) cred made)
  make_case call made told changing not_owner after =
      let grants_it : Bool = kept_grants cred 2 (option_map dentry_of above) in
      judges tree cred call fresh key ((is_some (row_at tree key), Eexist) ∷ (not grants_it, Eacces) ∷ []) Fine (Finish Fine (Put made))
      (told ∙ after_walk (λ parent last row. tells.checked ((is_some row, Eexist) ∷ (not (tells.parent_grants cred 2 parent), Eacces) ∷ []) Fine)
      ∙ ap (λ b. tells.checked ((is_some (row_at tree key), Eexist) ∷ (not b, Eacces) ∷ []) Fine) (same_grants cred above))
      (λ is. puts tree cred call fresh key made changing is (after ∙ ap (λ k. with_row tree k made) last_is) (ap (λ b. b && is_fine (answer tree cred call) && is_directory (row_at tree key)) not_owner))

  -- a call on the inode that the path names
  inode_case : (call : Op) (go : Inode → Reply) (out : Inode → ExecOut) → answer tree cred call ≡ tells.inode_answer tree cred (Good names) go
      → ((inode : Inode) → row_at tree key ≡ Some inode → answer tree cred call ≡ go inode → IsExecuted tree cred call fresh key (out inode)) → IsExecuted tree cred call fresh key (where_found (row_at tree key) out)
  inode_case call go out told after = finds tree cred call fresh key (row_at tree key) go out (told ∙ after_walk (λ parent last row. tells.found row go)) after

  stat_case : IsCase (op.Stat (Good names))
  stat_case = inode_case (op.Stat (Good names)) (λ inode. Stat inode) (λ inode. without_change (Stat inode)) refl (λ inode row is. stays tree cred _ fresh key (Stat inode) refl refl refl is)

  access_case : (want : ℕ) → IsCase (op.Access (Good names) want)
  access_case want =
      let call : Op = op.Access (Good names) want in
      let checks : Inode → List (Bool × Errno) = λ inode. (not (grants cred want inode), Eacces) ∷ [] in
      inode_case call (λ inode. tells.checked (checks inode) Fine) (access_outcome cred want) refl (λ inode row is.
      judges tree cred call fresh key (checks inode) Fine (without_change Fine) is (stays tree cred call fresh key Fine refl refl refl))

  chmod_case : (mode : ℕ) → IsCase (op.Chmod (Good names) mode)
  chmod_case mode =
      let call : Op = op.Chmod (Good names) mode in
      let checks : Inode → List (Bool × Errno) = λ inode. (not (cred.uid == 0 || cred.uid == inode.uid), Eperm) ∷ [] in
      let now : Inode → Inode = λ inode. record inode { mode = mode } in
      inode_case call (λ inode. tells.checked (checks inode) Fine) (chmod_outcome cred mode) refl (λ inode row is.
      judges tree cred call fresh key (checks inode) Fine (changed inode (now inode)) is (λ fine. owner_changes tree cred call fresh key inode (now inode) refl refl row fine (updated now inode row)))

  chown_case : (uid gid : ℕ) → IsCase (op.Chown (Good names) uid gid)
  chown_case uid gid =
      let call : Op = op.Chown (Good names) uid gid in
      let checks : List (Bool × Errno) = (not (cred.uid == 0), Eperm) ∷ [] in
      let now : Inode → Inode = λ inode. record inode { uid = uid; gid = gid } in
      inode_case call (λ inode. tells.checked checks Fine) (chown_outcome cred uid gid) refl (λ inode row is.
      judges tree cred call fresh key checks Fine (changed inode (now inode)) is (λ fine. owner_changes tree cred call fresh key inode (now inode) refl refl row fine (updated now inode row)))

  truncate_case : (size : ℕ) → IsCase (op.Truncate (Good names) size)
  truncate_case size =
      let call : Op = op.Truncate (Good names) size in
      let checks : Inode → List (Bool × Errno) = λ inode. (is_dir inode, Eisdir) ∷ (not (grants cred 2 inode), Eacces) ∷ [] in
      let now : Inode → Inode = λ inode. record inode { size = size } in
      inode_case call (λ inode. tells.checked (checks inode) Fine) (truncate_outcome cred size) refl (λ inode row is.
      judges tree cred call fresh key (checks inode) Fine (Finish Fine (Put (now inode))) is (λ fine. puts tree cred call fresh key (now inode) refl fine (updated now inode row) refl))

  unlink_case : IsCase (op.Unlink (Good names))
  unlink_case =
      let call : Op = op.Unlink (Good names) in
      let checks : Bool → Inode → List (Bool × Errno) = λ granted inode. (not granted, Eacces) ∷ (is_dir inode, Eperm) ∷ [] in
      finds tree cred call fresh key (row_at tree key) (λ inode. tells.checked (checks (tells.parent_grants cred 2 above) inode) Fine) (unlink_outcome (option_map dentry_of above) cred)
      (after_walk (λ parent last row. tells.found row (λ inode. tells.checked (checks (tells.parent_grants cred 2 parent) inode) Fine))) (λ inode row is.
      judges tree cred call fresh key (checks (kept_grants cred 2 (option_map dentry_of above)) inode) Fine (Finish Fine Remove)
      (is ∙ ap (λ b. tells.checked (checks b inode) Fine) (same_grants cred above)) (λ fine.
      removes tree cred call fresh key refl fine (ap (λ k. without_row tree k) last_is) refl))

  list_case : IsCase (op.List (Good names))
  list_case =
      let call : Op = op.List (Good names) in
      let checks : Inode → List (Bool × Errno) = λ inode. (not (is_dir inode), Enotdir) ∷ (not (grants cred 4 inode), Eacces) ∷ [] in
      let listed : Inode → Reply = λ inode. Names (names_under tree inode.ino) in
      inode_case call (λ inode. tells.checked (checks inode) (listed inode)) (list_outcome cred) refl (λ inode row is.
      elim (is_dir inode) as (λ b. is_dir inode ≡ b → answer tree cred call ≡ tells.checked ((not b, Enotdir) ∷ (not (grants cred 4 inode), Eacces) ∷ []) (listed inode)
      → IsExecuted tree cred call fresh key (unless_refused ((not b, Enotdir) ∷ (not (grants cred 4 inode), Eacces) ∷ []) (Opened inode.ino))) [
        | true ↦ λ kind told. judges tree cred call fresh key ((not (grants cred 4 inode), Eacces) ∷ []) (listed inode) (Opened inode.ino) told (λ names. record {
          opened = ap is_names names;
          answered = names;
          directory = subst (λ r. IsSomeAnd r (λ dir. (dir.kind ≡ Dir) × (dir.ino ≡ inode.ino))) (sym row) (is_directory_of inode kind, refl);
        })
        | false ↦ λ kind told. fails tree cred call fresh key Enotdir told
      ] refl is)

same_names : (a b : List (List ℕ)) → Some a ≡ Some b → a ≡ b
same_names a b is = cc

-- the law for each call that one row decides
at_row : (tree : Tree) (cred : Cred) (call : Op) (names : List (List ℕ)) (above : Option Inode) (passed : List ℕ) (key : Key) (fresh : ℕ) → row_names call ≡ Some names → walk tree cred names ≡ Ready above passed key
    → IsExecuted tree cred call fresh key (outcome_of (row_at tree key) (option_map dentry_of above) cred call fresh)
at_row tree cred (op.Mkdir (Good here) mode) names above passed key fresh is ready = make_case tree cred here above passed key fresh (ap (walk tree cred) (same_names here names is) ∙ ready) (op.Mkdir (Good here) mode) (new_row cred Dir mode fresh) refl refl refl refl
at_row tree cred (op.Mkdir (Bad fault raw) mode) names above passed key fresh is ready = cc
at_row tree cred (op.Create (Good here) mode) names above passed key fresh is ready = make_case tree cred here above passed key fresh (ap (walk tree cred) (same_names here names is) ∙ ready) (op.Create (Good here) mode) (new_row cred File mode fresh) refl refl refl refl
at_row tree cred (op.Create (Bad fault raw) mode) names above passed key fresh is ready = cc
at_row tree cred (op.Stat (Good here)) names above passed key fresh is ready = stat_case tree cred here above passed key fresh (ap (walk tree cred) (same_names here names is) ∙ ready)
at_row tree cred (op.Stat (Bad fault raw)) names above passed key fresh is ready = cc
at_row tree cred (op.Access (Good here) want) names above passed key fresh is ready = access_case tree cred here above passed key fresh (ap (walk tree cred) (same_names here names is) ∙ ready) want
at_row tree cred (op.Access (Bad fault raw) want) names above passed key fresh is ready = cc
at_row tree cred (op.Chmod (Good here) mode) names above passed key fresh is ready = chmod_case tree cred here above passed key fresh (ap (walk tree cred) (same_names here names is) ∙ ready) mode
at_row tree cred (op.Chmod (Bad fault raw) mode) names above passed key fresh is ready = cc
at_row tree cred (op.Chown (Good here) uid gid) names above passed key fresh is ready = chown_case tree cred here above passed key fresh (ap (walk tree cred) (same_names here names is) ∙ ready) uid gid
at_row tree cred (op.Chown (Bad fault raw) uid gid) names above passed key fresh is ready = cc
at_row tree cred (op.Truncate (Good here) size) names above passed key fresh is ready = truncate_case tree cred here above passed key fresh (ap (walk tree cred) (same_names here names is) ∙ ready) size
at_row tree cred (op.Truncate (Bad fault raw) size) names above passed key fresh is ready = cc
at_row tree cred (op.Unlink (Good here)) names above passed key fresh is ready = unlink_case tree cred here above passed key fresh (ap (walk tree cred) (same_names here names is) ∙ ready)
at_row tree cred (op.Unlink (Bad fault raw)) names above passed key fresh is ready = cc
at_row tree cred (op.List (Good here)) names above passed key fresh is ready = list_case tree cred here above passed key fresh (ap (walk tree cred) (same_names here names is) ∙ ready)
at_row tree cred (op.List (Bad fault raw)) names above passed key fresh is ready = cc
at_row tree cred (op.Rmdir path) names above passed key fresh is ready = cc
at_row tree cred (op.Rename old new) names above passed key fresh is ready = cc
at_row tree cred (op.Place name rule) names above passed key fresh is ready = cc

pub in_trees : (row : Option Inode) (parent : Option Dentry) (cred : Cred) (call : Op) (fresh : ℕ) → IsExecutedInTrees row parent cred call fresh (outcome_of row parent cred call fresh)
in_trees row parent cred call fresh tree names above passed key named ready is_row is_parent = rw (is_row, is_parent) (at_row tree cred call names above passed key fresh named ready)
