-- The updates of a verdict are for the last keys alone.
use Rattle.std.proofs.Common.{◌≡◌, ℕ, Bool, true, false, not, ◌&&◌, ◌||◌, ◌==◌, List, [], ◌∷◌, Option, Some, None, refl, cond}
use Rattle.std.specs.List.{list_any}
use Rattle.fal_base.specs.declared.call.Cred.{Cred}
use Rattle.fal_base.specs.declared.inode.Dentry.{Dentry}
use Rattle.fal_base.specs.declared.inode.Inode.{Inode}
use Rattle.fal_base.specs.declared.key.Key.{Key}
use Rattle.fal_base.specs.declared.op.Op.{Op}
use Rattle.fal_base.specs.declared.op.Op.TheVariants as op
use Rattle.fal_base.specs.declared.path.PathArg.TheVariants.{Good}
use Rattle.fal_base.specs.declared.reply.Errno.{Errno}
use Rattle.fal_base.specs.declared.reply.Errno.TheVariants.{Eacces, Einval, Eisdir, Enotdir, Eperm}
use Rattle.fal_base.specs.declared.row.Update.{Update}
use Rattle.fal_base.specs.Tree.{same_key}
use Rattle.fal_base.specs.Updates.{is_told, removing, putting}
use Rattle.fal_base.specs.Walk.{is_dir, kept_grants}
use Rattle.fal_dentry.specs.Walk.{is_among}
use Rattle.fal_coord.specs.Judged.{Judged, Fail, Same, Count, Change, judged_at, judged_unless, putting_row, replace_verdict, end_of, verdict_of}

-- the updates that a verdict makes, or would make
abbrev pub updates_of : Judged → List Update
updates_of (Fail errno) = []
updates_of Same = []
updates_of (Count dir updates) = updates
updates_of (Change updates) = updates

-- the keys that are locked for an operation: the last key of each path
abbrev pub last_keys : Op → List (Option Dentry) → List Key
last_keys (op.Chmod (Good path) mode) (parent ∷ []) = (end_of [] parent path).key ∷ []
last_keys (op.Chown (Good path) uid gid) (parent ∷ []) = (end_of [] parent path).key ∷ []
last_keys (op.Rmdir (Good path)) (parent ∷ []) = (end_of [] parent path).key ∷ []
last_keys (op.Rename (Good from) (Good to)) (old_parent ∷ new_parent ∷ []) = (end_of [] old_parent from).key ∷ (end_of [] new_parent to).key ∷ []
last_keys other parents = []

module _ (key : Key) where
  abbrev IsOff : Judged → Type 0
  IsOff judged = is_told key (updates_of judged) ≡ false

  found_off : (row : Option Inode) (go : Inode → Judged) → ((inode : Inode) → IsOff (go inode)) → IsOff (judged_at row go)
  found_off None go off = refl
  found_off (Some inode) go off = off inode

  checked_off : (checks : List (Bool × Errno)) (after : Judged) → IsOff after → IsOff (judged_unless checks after)
  checked_off [] after off = off
  checked_off (check ∷ checks) after off = elim check.0 as (λ b. IsOff (cond b (Fail check.1) (judged_unless checks after))) [ true ↦ refl | false ↦ checked_off checks after off ]

  replace_off : (moved : Inode) (there : Option Inode) (updates : List Update) → is_told key updates ≡ false → IsOff (replace_verdict moved there updates)
  replace_off moved None updates off = off
  replace_off moved (Some there) updates off = checked_off ((not (is_dir moved) && is_dir there, Eisdir) ∷ (is_dir moved && not (is_dir there), Enotdir) ∷ []) (cond (is_dir there) (Count there.ino updates) (Change updates))
      (elim (is_dir there) as (λ b. IsOff (cond b (Count there.ino updates) (Change updates))) [ true ↦ off | false ↦ off ])

-- a key that is the last of no path is told by no update
pub within : (key : Key) (cred : Cred) (call : Op) (parents : List (Option Dentry)) (passed : List ℕ) (rows : List Update)
    → is_among key (last_keys call parents) ≡ false → is_told key (updates_of (verdict_of cred call parents passed rows)) ≡ false
unfolding verdict_of
within key cred (op.Chmod (Good path) mode) (parent ∷ []) passed rows off =
    let end = end_of rows parent path in
    let checks : Inode → List (Bool × Errno) = λ inode. (not (cred.uid == 0 || cred.uid == inode.uid), Eperm) ∷ [] in
    let after : Inode → Judged = λ inode. putting_row end.key (record inode { mode = mode }) in
    found_off key end.row (λ inode. judged_unless (checks inode) (after inode)) (λ inode. checked_off key (checks inode) (after inode) off)
within key cred (op.Chown (Good path) uid gid) (parent ∷ []) passed rows off =
    let end = end_of rows parent path in
    let checks : List (Bool × Errno) = (not (cred.uid == 0), Eperm) ∷ [] in
    let after : Inode → Judged = λ inode. putting_row end.key (record inode { uid = uid; gid = gid }) in
    found_off key end.row (λ inode. judged_unless checks (after inode)) (λ inode. checked_off key checks (after inode) off)
within key cred (op.Rmdir (Good path)) (parent ∷ []) passed rows off =
    let end = end_of rows parent path in
    let checks : Inode → List (Bool × Errno) = λ inode. (not (kept_grants cred 2 end.parent), Eacces) ∷ (not (is_dir inode), Enotdir) ∷ [] in
    let after : Inode → Judged = λ inode. Count inode.ino (removing end.key ∷ []) in
    found_off key end.row (λ inode. judged_unless (checks inode) (after inode)) (λ inode. checked_off key (checks inode) (after inode) off)
within key cred (op.Rename (Good from) (Good to)) (old_parent ∷ new_parent ∷ []) passed rows off =
    let old = end_of rows old_parent from in
    let new = end_of rows new_parent to in
    let checks : Inode → List (Bool × Errno) =
    λ moved. (not (kept_grants cred 2 old.parent && kept_grants cred 2 new.parent), Eacces) ∷ (is_dir moved && list_any (λ ino. ino == moved.ino) passed, Einval) ∷ [] in
    let after : Inode → Judged = λ moved. replace_verdict moved new.row (removing old.key ∷ putting new.key moved ∷ []) in
    found_off key old.row (λ moved. cond (same_key old.key new.key) Same (judged_unless (checks moved) (after moved))) (λ moved.
    elim (same_key old.key new.key) as (λ b. IsOff key (cond b Same (judged_unless (checks moved) (after moved)))) [
      | true ↦ refl
      | false ↦ checked_off key (checks moved) (after moved) (replace_off key moved new.row (removing old.key ∷ putting new.key moved ∷ []) off)
    ])
within key cred other parents passed rows off = refl
