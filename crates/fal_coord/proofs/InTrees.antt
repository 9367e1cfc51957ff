-- What an operation comes to is what the tree says of it, in every tree in which what was kept is so.
use Rattle.std.proofs.Common.{◌≡◌, ℕ, Bool, true, false, not, ◌&&◌, ◌||◌, ◌==◌, List, [], ◌∷◌, Option, Some, None, nat_lt, refl, sym, ap, ◌∙◌, subst, cond, arith, if◌then◌else◌, Result, Ok, Err, IfOk, IsTrue}
use Rattle.std.specs.List.{list_any}
use Rattle.std.specs.Option.{option_map}
use Rattle.std.proofs.lemmas.Bool.Decides.{nat_tests}
use Rattle.fal_base.specs.declared.call.Cred.{Cred}
use Rattle.fal_base.specs.declared.inode.Dentry.{Dentry}
use Rattle.fal_base.specs.declared.inode.Inode.{Inode}
use Rattle.fal_base.specs.declared.key.Key.{Key}
use Rattle.fal_base.specs.declared.memory.OutOfMemory.{OutOfMemory}
use Rattle.fal_base.specs.declared.op.Op.{Op}
use Rattle.fal_base.specs.declared.op.Op.TheVariants as op
use Rattle.fal_base.specs.declared.path.PathArg.TheVariants.{Good}
use Rattle.fal_base.specs.declared.reply.Errno.{Errno}
use Rattle.fal_base.specs.declared.reply.Errno.TheVariants.{Eacces, Ebusy, Einval, Eisdir, Enotdir, Enotempty, Eperm}
use Rattle.fal_base.specs.declared.reply.Reply.{Reply}
use Rattle.fal_base.specs.declared.reply.Reply.TheVariants.{Fine, Fail}
use Rattle.fal_base.specs.declared.row.Update.{Update}
use Rattle.fal_base.specs.Answer as tells
use Rattle.fal_base.specs.Answer.{answer, walked, reached, is_root, has_entries}
use Rattle.fal_base.specs.Change.{change, changes, is_fine, last_key_of, update, move}
use Rattle.fal_base.specs.Tree.{Tree, row_at, with_row, without_row, root_key, same_key}
use Rattle.fal_base.specs.Updates.{removing, putting, laid}
use Rattle.fal_base.specs.Walk.{Stop, Ready, walk, is_dir, dentry_of, kept_grants}
use Rattle.fal_coord.specs.declared.judged.Verdict.{Verdict}
use Rattle.fal_coord.specs.declared.path_end.PathEnd.{PathEnd}
use Rattle.fal_coord.specs.Decided.{IsKept, IsChange, IsCount, SaysOfTree, SaysInTrees}
use Rattle.fal_coord.specs.Judged.{Judged, Same, Count, Change, judged_at, judged_unless, putting_row, chmod_verdict, chown_verdict, rmdir_verdict, replace_verdict, rename_verdict, verdict_of, end_of, is_for_rows, judged_of}
use Rattle.fal_coord.specs.Judged as judged

module _ (tree : Tree) (cred : Cred) (call : Op) where
  -- the first check that fails is the answer, and the rest is as after them all
  judges : (checks : List (Bool × Errno)) (reply : Reply) (after : Judged) → answer tree cred call ≡ tells.checked checks reply
      → (answer tree cred call ≡ reply → SaysOfTree tree cred call after) → SaysOfTree tree cred call (judged_unless checks after)
  judges [] reply after is go = go is
  judges (check ∷ checks) reply after is go =
      elim check.0 as (λ b. answer tree cred call ≡ cond b (Fail check.1) (tells.checked checks reply) → SaysOfTree tree cred call (cond b (judged.Fail check.1) (judged_unless checks after))) [
        | true ↦ λ failed. failed
        | false ↦ λ passed. judges checks reply after passed go
      ] is

  -- no row is ENOENT
  finds : (row : Option Inode) (told : Inode → Reply) (after : Inode → Judged) → answer tree cred call ≡ tells.found row told
      → ((inode : Inode) → row ≡ Some inode → answer tree cred call ≡ told inode → SaysOfTree tree cred call (after inode)) → SaysOfTree tree cred call (judged_at row after)
  finds None told after is go = is
  finds (Some inode) told after is go = go inode refl is

  -- a call that is answered ok and changes the tree
  commits : (updates : List Update) → changes tree cred call ≡ true → change tree cred call 0 ≡ laid updates tree → answer tree cred call ≡ Fine → IsChange tree cred call updates
  commits updates changing after is = record {
    answered = is;
    made = ap (λ reply. changes tree cred call && is_fine reply) is ∙ ap (λ b. b && true) changing;
    laid = after;
  }

  -- emptiness alone is left to be known
  counts : (dir : Inode) (updates : List Update) → changes tree cred call ≡ true → change tree cred call 0 ≡ laid updates tree
      → answer tree cred call ≡ tells.checked ((has_entries tree dir, Enotempty) ∷ []) Fine → IsCount tree cred call dir.ino updates
  counts dir updates changing after is = record {
    empty = λ none. commits updates changing after (is ∙ ap (λ n. tells.checked ((nat_lt 0 n, Enotempty) ∷ []) Fine) none);
    full = λ some. let not_empty : has_entries tree dir ≡ true = grind (arith, nat_tests) in is ∙ ap (λ b. tells.checked ((b, Enotempty) ∷ []) Fine) not_empty;
  }

-- the directory and its dentry grant the same
same_grants : (cred : Cred) (dir : Option Inode) (parent : Option Dentry) → option_map dentry_of dir ≡ parent → tells.parent_grants cred 2 dir ≡ kept_grants cred 2 parent
same_grants cred None parent is = ap (kept_grants cred 2) is
same_grants cred (Some dir) parent is = ap (kept_grants cred 2) is

-- what the tree finds of one path
module _ (tree : Tree) (cred : Cred) (path : List (List ℕ)) (end : PathEnd) (passed : List ℕ) (kept : IsKept tree cred path end passed) where
  -- what is answered after the walk
  after_walk : (go : Option Inode → List ℕ → Key → Reply) → walked (walk tree cred path) go ≡ go kept.dir passed end.key
  after_walk go = ap (λ w. walked w go) kept.ready

  last_is : last_key_of tree cred (Good path) ≡ end.key
  last_is = ap (λ w. elim w as (λ _. Key) [ Stop errno ↦ root_key | Ready dir numbers last ↦ last ]) kept.ready

  grants_is : tells.parent_grants cred 2 kept.dir ≡ kept_grants cred 2 end.parent
  grants_is = same_grants cred kept.dir end.parent kept.parent

  -- the row under the last key, changed
  puts : (f : Inode → Inode) (inode : Inode) → end.row ≡ Some inode → update tree (last_key_of tree cred (Good path)) f ≡ laid (putting end.key (f inode) ∷ []) tree
  puts f inode told = ap (λ k. update tree k f) last_is ∙ ap (λ r. elim r as (λ _. Tree) [ None ↦ tree | Some i ↦ with_row tree end.key (f i) ]) (kept.row ∙ told)

  -- a call that changes the inode that the path names
  put_case : (call : Op) (checks : Inode → List (Bool × Errno)) (now : Inode → Inode) → answer tree cred call ≡ tells.inode_answer tree cred (Good path) (λ inode. tells.checked (checks inode) Fine)
      → changes tree cred call ≡ true → change tree cred call 0 ≡ update tree (last_key_of tree cred (Good path)) now
      → SaysOfTree tree cred call (judged_at end.row (λ inode. judged_unless (checks inode) (putting_row end.key (now inode))))
  put_case call checks now is changing after =
      let told : Inode → Reply = λ inode. tells.checked (checks inode) Fine in
      let arrived : answer tree cred call ≡ tells.found end.row told =
      is ∙ after_walk (λ dir numbers last. tells.found (row_at tree last) told) ∙ ap (λ r. tells.found r told) kept.row in
      finds tree cred call end.row told (λ inode. judged_unless (checks inode) (putting_row end.key (now inode))) arrived (λ inode row is.
      judges tree cred call (checks inode) Fine (putting_row end.key (now inode)) is
      (commits tree cred call (putting end.key (now inode) ∷ []) changing (after ∙ puts now inode row)))

  chmod_case : (mode : ℕ) → SaysOfTree tree cred (op.Chmod (Good path) mode) (chmod_verdict cred end mode)
  chmod_case mode = put_case (op.Chmod (Good path) mode) (λ inode. (not (cred.uid == 0 || cred.uid == inode.uid), Eperm) ∷ []) (λ inode. record inode { mode = mode }) refl refl refl

  chown_case : (uid gid : ℕ) → SaysOfTree tree cred (op.Chown (Good path) uid gid) (chown_verdict cred end uid gid)
  chown_case uid gid = put_case (op.Chown (Good path) uid gid) (λ inode. (not (cred.uid == 0), Eperm) ∷ []) (λ inode. record inode { uid = uid; gid = gid }) refl refl refl

  rmdir_case : is_root path ≡ false → SaysOfTree tree cred (op.Rmdir (Good path)) (rmdir_verdict cred end)
  rmdir_case not_root =
      let call : Op = op.Rmdir (Good path) in
      let checks : Bool → Inode → List (Bool × Errno) = λ granted inode. (not granted, Eacces) ∷ (not (is_dir inode), Enotdir) ∷ [] in
      let last : Inode → Reply = λ inode. tells.checked ((has_entries tree inode, Enotempty) ∷ []) Fine in
      let told : Bool → Inode → Reply = λ granted inode. tells.checked (checks granted inode) (last inode) in
      let walking : Reply = reached tree cred (Good path) (λ dir key row. tells.found row (told (tells.parent_grants cred 2 dir))) in
      let arrived : answer tree cred call ≡ tells.found end.row (told (kept_grants cred 2 end.parent)) =
      ap (λ b. cond b (Fail Ebusy) walking) not_root ∙ after_walk (λ dir numbers last. tells.found (row_at tree last) (told (tells.parent_grants cred 2 dir)))
      ∙ ap (λ r. tells.found r (told (tells.parent_grants cred 2 kept.dir))) kept.row ∙ ap (λ b. tells.found end.row (told b)) grants_is in
      let granted : Bool = kept_grants cred 2 end.parent in
      finds tree cred call end.row (told granted) (λ inode. judged_unless (checks granted inode) (Count inode.ino (removing end.key ∷ []))) arrived (λ inode row is.
      judges tree cred call (checks granted inode) (last inode) (Count inode.ino (removing end.key ∷ [])) is
      (counts tree cred call inode (removing end.key ∷ []) refl (ap (without_row tree) last_is)))

-- what the tree finds of the two paths of a rename
module _ (tree : Tree) (cred : Cred) (from to : List (List ℕ)) (old new : PathEnd) (before passed : List ℕ) (kept_old : IsKept tree cred from old before) (kept_new : IsKept tree cred to new passed) where
  abbrev call : Op
  call = op.Rename (Good from) (Good to)

  -- the checks before those of what is there, by whether both directories may be written in
  abbrev checks : Bool → List ℕ → Inode → List (Bool × Errno)
  checks granted numbers moved = (not granted, Eacces) ∷ (is_dir moved && list_any (λ ino. ino == moved.ino) numbers, Einval) ∷ []

  -- a rename after both walks
  abbrev moving : Key → Key → Bool → List ℕ → Option Inode → Inode → Reply
  moving old_key new_key granted numbers there moved = if same_key old_key new_key then Fine else tells.checked (checks granted numbers moved) (tells.replace_answer tree moved there)

  abbrev granted : Bool
  granted = kept_grants cred 2 old.parent && kept_grants cred 2 new.parent

  -- both walks end as they were kept
  arrived : (is_root from || is_root to) ≡ false → answer tree cred call ≡ tells.found old.row (moving old.key new.key granted passed new.row)
  arrived not_root =
      let both : Option Inode → Option Inode → Bool = λ old_dir new_dir. tells.parent_grants cred 2 old_dir && tells.parent_grants cred 2 new_dir in
      let after_both : Option Inode → Key → Option Inode → List ℕ → Key → Reply =
      λ old_dir old_key new_dir numbers new_key. tells.found (row_at tree old_key) (moving old_key new_key (both old_dir new_dir) numbers (row_at tree new_key)) in
      let after_old : Option Inode → List ℕ → Key → Reply = λ old_dir _ old_key. walked (walk tree cred to) (after_both old_dir old_key) in
      ap (λ b. cond b (Fail Ebusy) (walked (walk tree cred from) after_old)) not_root
      ∙ after_walk tree cred from old before kept_old after_old
      ∙ after_walk tree cred to new passed kept_new (after_both kept_old.dir old.key)
      ∙ ap (λ b. tells.found (row_at tree old.key) (moving old.key new.key (b && tells.parent_grants cred 2 kept_new.dir) passed (row_at tree new.key))) (grants_is tree cred from old before kept_old)
      ∙ ap (λ b. tells.found (row_at tree old.key) (moving old.key new.key (kept_grants cred 2 old.parent && b) passed (row_at tree new.key))) (grants_is tree cred to new passed kept_new)
      ∙ ap (λ r. tells.found r (moving old.key new.key granted passed (row_at tree new.key))) kept_old.row
      ∙ ap (λ r. tells.found old.row (moving old.key new.key granted passed r)) kept_new.row

  old_is : last_key_of tree cred (Good from) ≡ old.key
  old_is = last_is tree cred from old before kept_old

  new_is : last_key_of tree cred (Good to) ≡ new.key
  new_is = last_is tree cred to new passed kept_new

  -- the tree changes where the keys differ
  changes_is : (b : Bool) → same_key old.key new.key ≡ b → changes tree cred call ≡ not b
  changes_is b is = ap (λ k. not (same_key k (last_key_of tree cred (Good to)))) old_is ∙ ap (λ k. not (same_key old.key k)) new_is ∙ ap not is

  abbrev updates : Inode → List Update
  updates moved = removing old.key ∷ putting new.key moved ∷ []

  change_is : (moved : Inode) → old.row ≡ Some moved → change tree cred call 0 ≡ laid (updates moved) tree
  change_is moved told =
      ap (λ k. move tree k (last_key_of tree cred (Good to))) old_is ∙ ap (λ k. move tree old.key k) new_is
      ∙ ap (λ r. elim r as (λ _. Tree) [ None ↦ tree | Some inode ↦ with_row (without_row tree old.key) new.key inode ]) (kept_old.row ∙ told)

  -- what comes of what is there
  replaces : (moved : Inode) (there : Option Inode) → changes tree cred call ≡ true → change tree cred call 0 ≡ laid (updates moved) tree
      → answer tree cred call ≡ tells.replace_answer tree moved there → SaysOfTree tree cred call (replace_verdict moved there (updates moved))
  replaces moved None changing after is = commits tree cred call (updates moved) changing after is
  replaces moved (Some there) changing after is =
      let kinds : List (Bool × Errno) = (not (is_dir moved) && is_dir there, Eisdir) ∷ (is_dir moved && not (is_dir there), Enotdir) ∷ [] in
      let last : Bool → Reply = λ b. tells.checked ((b && has_entries tree there, Enotempty) ∷ []) Fine in
      judges tree cred call kinds (last (is_dir there)) (cond (is_dir there) (Count there.ino (updates moved)) (Change (updates moved))) is (λ left.
      elim (is_dir there) as (λ b. answer tree cred call ≡ last b → SaysOfTree tree cred call (cond b (Count there.ino (updates moved)) (Change (updates moved)))) [
        | true ↦ counts tree cred call there (updates moved) changing after
        | false ↦ commits tree cred call (updates moved) changing after
      ] left)

  rename_case : (is_root from || is_root to) ≡ false → SaysOfTree tree cred call (rename_verdict cred old new passed)
  rename_case not_root =
      finds tree cred call old.row (moving old.key new.key granted passed new.row) (λ moved. cond (same_key old.key new.key) Same (judged_unless (checks granted passed moved) (replace_verdict moved new.row (updates moved))))
      (arrived not_root) (λ moved row is.
      elim (same_key old.key new.key) as (λ b. same_key old.key new.key ≡ b → answer tree cred call ≡ cond b Fine (tells.checked (checks granted passed moved) (tells.replace_answer tree moved new.row))
      → SaysOfTree tree cred call (cond b Same (judged_unless (checks granted passed moved) (replace_verdict moved new.row (updates moved))))) [
        | true ↦ λ same fine. record { answered = fine; unmade = ap (λ b. b && is_fine (answer tree cred call)) (changes_is true same) }
        | false ↦ λ apart after. judges tree cred call (checks granted passed moved) (tells.replace_answer tree moved new.row) (replace_verdict moved new.row (updates moved)) after
            (replaces moved new.row (changes_is false apart) (change_is moved row))
      ] refl is)

not_so : (b : Bool) → IsTrue (not b) → b ≡ false
not_so true is = cc
not_so false is = refl

pub in_trees : (cred : Cred) (call : Op) (parents : List (Option Dentry)) (passed : List ℕ) (rows : List Update) → IsTrue (is_for_rows call parents) → SaysInTrees cred call parents passed rows (verdict_of cred call parents passed rows)
unfolding verdict_of SaysInTrees
in_trees cred (op.Chmod (Good path) mode) (parent ∷ []) passed rows fits tree kept = chmod_case tree cred path (end_of rows parent path) passed kept mode
in_trees cred (op.Chown (Good path) uid gid) (parent ∷ []) passed rows fits tree kept = chown_case tree cred path (end_of rows parent path) passed kept uid gid
in_trees cred (op.Rmdir (Good path)) (parent ∷ []) passed rows fits tree kept = rmdir_case tree cred path (end_of rows parent path) passed kept (not_so _ fits)
in_trees cred (op.Rename (Good from) (Good to)) (old_parent ∷ new_parent ∷ []) passed rows fits tree kept =
    rename_case tree cred from to (end_of rows old_parent from) (end_of rows new_parent to) kept.0.0 passed kept.0.1 kept.1 (not_so _ fits)
in_trees cred other parents passed rows fits tree kept = absurd kept

-- what holds of a verdict as contracts see it holds of the verdict
pub told_of : (result : Result Verdict OutOfMemory) (is : Judged) (P : Judged → Type 0) → IfOk result (λ verdict. judged_of verdict ≡ is) → P is → IfOk result (λ verdict. P (judged_of verdict))
told_of (Ok verdict) is P seen holds = subst P (sym seen) holds
told_of (Err memory) is P seen holds = tt
