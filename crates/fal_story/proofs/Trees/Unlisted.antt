-- No call but a list is answered with names.
use Rattle.std.proofs.Common.{◌≡◌, ℕ, Bool, true, false, not, ◌&&◌, ◌||◌, ◌==◌, cond, List, [], ◌∷◌, Option, None, Some, refl}
use Rattle.std.specs.Prelude.{is_some}
use Rattle.std.specs.List.{list_any}
use Rattle.fal_base.specs.declared.call.Cred.{Cred}
use Rattle.fal_base.specs.declared.inode.Inode.{Inode}
use Rattle.fal_base.specs.declared.key.Key.{Key}
use Rattle.fal_base.specs.declared.op.Op.{Op}
use Rattle.fal_base.specs.declared.op.Op.TheVariants as op
use Rattle.fal_base.specs.declared.path.PathArg.{PathArg}
use Rattle.fal_base.specs.declared.path.PathArg.TheVariants.{Good, Bad}
use Rattle.fal_base.specs.declared.reply.Errno.{Errno}
use Rattle.fal_base.specs.declared.reply.Errno.TheVariants.{Eacces, Ebusy, Eexist, Einval, Eisdir, Enospc, Enotdir, Enotempty, Eperm}
use Rattle.fal_base.specs.declared.reply.Reply.{Reply}
use Rattle.fal_base.specs.declared.reply.Reply.TheVariants.{Fine, Fail, Stat}
use Rattle.fal_base.specs.declared.rule.Rule.{Rule}
use Rattle.fal_base.specs.Answer.{answer, checked, found, walked, reached, parent_grants, is_root, has_entries, inode_answer, replace_answer, rmdir_answer, rename_answer}
use Rattle.fal_base.specs.Places.{is_full, is_outside, place_answer}
use Rattle.fal_base.specs.Transcript.{is_list, is_names}
use Rattle.fal_base.specs.Tree.{Tree, row_at, same_key}
use Rattle.fal_base.specs.Walk.{Walked, Stop, Ready, walk, is_dir, grants}

checked_unlisted : (checks : List (Bool × Errno)) (reply : Reply) → is_names reply ≡ false → is_names (checked checks reply) ≡ false
checked_unlisted [] reply is = is
checked_unlisted (check ∷ checks) reply is = elim check.0 as (λ b. is_names (cond b (Fail check.1) (checked checks reply)) ≡ false) [ true ↦ refl | false ↦ checked_unlisted checks reply is ]

found_unlisted : (row : Option Inode) (go : Inode → Reply) → ((inode : Inode) → is_names (go inode) ≡ false) → is_names (found row go) ≡ false
found_unlisted None go is = refl
found_unlisted (Some inode) go is = is inode

walked_unlisted : (w : Walked) (go : Option Inode → List ℕ → Key → Reply) → ((dir : Option Inode) (passed : List ℕ) (last : Key) → is_names (go dir passed last) ≡ false) → is_names (walked w go) ≡ false
walked_unlisted (Stop errno) go is = refl
walked_unlisted (Ready dir passed last) go is = is dir passed last

reached_unlisted : (tree : Tree) (cred : Cred) (path : PathArg) (go : Option Inode → Key → Option Inode → Reply)
    → ((dir : Option Inode) (last : Key) (row : Option Inode) → is_names (go dir last row) ≡ false) → is_names (reached tree cred path go) ≡ false
reached_unlisted tree cred (Bad fault raw) go is = refl
reached_unlisted tree cred (Good names) go is = walked_unlisted (walk tree cred names) _ (λ dir passed last. is dir last (row_at tree last))

-- a call that is answered ok after some checks of the inode that its path names
inode_unlisted : (tree : Tree) (cred : Cred) (path : PathArg) (checks : Inode → List (Bool × Errno)) → is_names (inode_answer tree cred path (λ inode. checked (checks inode) Fine)) ≡ false
inode_unlisted tree cred path checks = reached_unlisted tree cred path (λ parent last row. found row (λ inode. checked (checks inode) Fine))
    (λ dir last row. found_unlisted row (λ inode. checked (checks inode) Fine) (λ inode. checked_unlisted (checks inode) Fine refl))

rmdir_unlisted : (tree : Tree) (cred : Cred) (path : PathArg) → is_names (rmdir_answer tree cred path) ≡ false
rmdir_unlisted tree cred (Bad fault raw) = refl
rmdir_unlisted tree cred (Good names) =
    let checks : Option Inode → Inode → List (Bool × Errno) = λ parent inode. (not (parent_grants cred 2 parent), Eacces) ∷ (not (is_dir inode), Enotdir) ∷ (has_entries tree inode, Enotempty) ∷ [] in
    let walks = reached_unlisted tree cred (Good names) (λ parent last row. found row (λ inode. checked (checks parent inode) Fine))
    (λ dir last row. found_unlisted row (λ inode. checked (checks dir inode) Fine) (λ inode. checked_unlisted (checks dir inode) Fine refl)) in
    elim (is_root names) as (λ b. is_names (cond b (Fail Ebusy) (reached tree cred (Good names) (λ parent last row. found row (λ inode. checked (checks parent inode) Fine)))) ≡ false) [ true ↦ refl | false ↦ walks ]

replace_unlisted : (tree : Tree) (moved : Inode) (there : Option Inode) → is_names (replace_answer tree moved there) ≡ false
replace_unlisted tree moved None = refl
replace_unlisted tree moved (Some there) = checked_unlisted
    ((not (is_dir moved) && is_dir there, Eisdir) ∷ (is_dir moved && not (is_dir there), Enotdir) ∷ (is_dir there && has_entries tree there, Enotempty) ∷ []) Fine refl

rename_unlisted : (tree : Tree) (cred : Cred) (old new : PathArg) → is_names (rename_answer tree cred old new) ≡ false
rename_unlisted tree cred (Bad fault raw) new = refl
rename_unlisted tree cred (Good from) (Bad fault raw) = refl
rename_unlisted tree cred (Good from) (Good to) =
    let checks : Option Inode → Option Inode → List ℕ → Inode → List (Bool × Errno) = λ old_parent new_parent passed moved.
    (not (parent_grants cred 2 old_parent && parent_grants cred 2 new_parent), Eacces) ∷ (is_dir moved && list_any (λ ino. ino == moved.ino) passed, Einval) ∷ [] in
    let moves : Option Inode → Key → Option Inode → List ℕ → Key → Inode → Reply = λ old_parent old_last new_parent passed new_last moved.
    cond (same_key old_last new_last) Fine (checked (checks old_parent new_parent passed moved) (replace_answer tree moved (row_at tree new_last))) in
    let moves_is = λ (old_parent : Option Inode) (old_last : Key) (new_parent : Option Inode) (passed : List ℕ) (new_last : Key) (moved : Inode).
    elim (same_key old_last new_last) as (λ b. is_names (cond b Fine (checked (checks old_parent new_parent passed moved) (replace_answer tree moved (row_at tree new_last)))) ≡ false) [
      | true ↦ refl
      | false ↦ checked_unlisted (checks old_parent new_parent passed moved) (replace_answer tree moved (row_at tree new_last)) (replace_unlisted tree moved (row_at tree new_last))
    ] in
    let ends : Option Inode → Key → Option Inode → List ℕ → Key → Reply = λ old_parent old_last new_parent passed new_last. found (row_at tree old_last) (moves old_parent old_last new_parent passed new_last) in
    let walks = walked_unlisted (walk tree cred from) (λ old_parent _ old_last. walked (walk tree cred to) (ends old_parent old_last)) (λ old_parent _ old_last.
    walked_unlisted (walk tree cred to) (ends old_parent old_last) (λ new_parent passed new_last.
    found_unlisted (row_at tree old_last) (moves old_parent old_last new_parent passed new_last) (moves_is old_parent old_last new_parent passed new_last))) in
    elim (is_root from || is_root to) as (λ b. is_names (cond b (Fail Ebusy) (walked (walk tree cred from) (λ old_parent _ old_last. walked (walk tree cred to) (ends old_parent old_last)))) ≡ false) [ true ↦ refl | false ↦ walks ]

pub tree_unlisted : (tree : Tree) (cred : Cred) (call : Op) → is_list call ≡ false → is_names (answer tree cred call) ≡ false
tree_unlisted tree cred (op.Mkdir path mode) is = reached_unlisted tree cred path (λ parent last row. checked ((is_some row, Eexist) ∷ (not (parent_grants cred 2 parent), Eacces) ∷ []) Fine) (λ dir last row. checked_unlisted ((is_some row, Eexist) ∷ (not (parent_grants cred 2 dir), Eacces) ∷ []) Fine refl)
tree_unlisted tree cred (op.Create path mode) is = reached_unlisted tree cred path (λ parent last row. checked ((is_some row, Eexist) ∷ (not (parent_grants cred 2 parent), Eacces) ∷ []) Fine) (λ dir last row. checked_unlisted ((is_some row, Eexist) ∷ (not (parent_grants cred 2 dir), Eacces) ∷ []) Fine refl)
tree_unlisted tree cred (op.Stat path) is = reached_unlisted tree cred path (λ parent last row. found row (λ inode. Stat inode)) (λ dir last row. found_unlisted row (λ inode. Stat inode) (λ inode. refl))
tree_unlisted tree cred (op.Access path want) is = reached_unlisted tree cred path (λ parent last row. found row (λ inode. checked ((not (grants cred want inode), Eacces) ∷ []) Fine)) (λ dir last row. found_unlisted row (λ inode. checked ((not (grants cred want inode), Eacces) ∷ []) Fine) (λ inode. checked_unlisted ((not (grants cred want inode), Eacces) ∷ []) Fine refl))
tree_unlisted tree cred (op.Chmod path mode) is = inode_unlisted tree cred path (λ inode. (not (cred.uid == 0 || cred.uid == inode.uid), Eperm) ∷ [])
tree_unlisted tree cred (op.Chown path uid gid) is = inode_unlisted tree cred path (λ inode. (not (cred.uid == 0), Eperm) ∷ [])
tree_unlisted tree cred (op.Truncate path size) is = reached_unlisted tree cred path (λ parent last row. found row (λ inode. checked ((is_dir inode, Eisdir) ∷ (not (grants cred 2 inode), Eacces) ∷ []) Fine)) (λ dir last row. found_unlisted row (λ inode. checked ((is_dir inode, Eisdir) ∷ (not (grants cred 2 inode), Eacces) ∷ []) Fine) (λ inode. checked_unlisted ((is_dir inode, Eisdir) ∷ (not (grants cred 2 inode), Eacces) ∷ []) Fine refl))
tree_unlisted tree cred (op.Unlink path) is = reached_unlisted tree cred path (λ parent last row. found row (λ inode. checked ((not (parent_grants cred 2 parent), Eacces) ∷ (is_dir inode, Eperm) ∷ []) Fine)) (λ dir last row. found_unlisted row (λ inode. checked ((not (parent_grants cred 2 dir), Eacces) ∷ (is_dir inode, Eperm) ∷ []) Fine) (λ inode. checked_unlisted ((not (parent_grants cred 2 dir), Eacces) ∷ (is_dir inode, Eperm) ∷ []) Fine refl))
tree_unlisted tree cred (op.Rmdir path) is = rmdir_unlisted tree cred path
tree_unlisted tree cred (op.Rename old new) is = rename_unlisted tree cred old new
tree_unlisted tree cred (op.List path) is = absurd (cc)
tree_unlisted tree cred (op.Place name rule) is = refl

pub place_unlisted : (nodes : ℕ) (ruled : List (List ℕ)) (cred : Cred) (name : List ℕ) (rule : Rule) → is_names (place_answer nodes ruled cred name rule) ≡ false
place_unlisted nodes ruled cred name rule = checked_unlisted ((not (cred.uid == 0), Eperm) ∷ (is_outside rule nodes, Einval) ∷ (is_full ruled name, Enospc) ∷ []) Fine refl
