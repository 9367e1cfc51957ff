-- A verdict that hangs on what stands in a directory has found the directory under a last key.
use Rattle.std.proofs.Common.{◌≡◌, ℕ, Bool, true, false, not, ◌&&◌, ◌||◌, ◌==◌, List, [], ◌∷◌, Option, Some, None, IsSomeAnd, refl, sym, ap, subst, cond}
use Rattle.std.specs.List.{list_any}
use Rattle.fal_base.specs.declared.call.Cred.{Cred}
use Rattle.fal_base.specs.declared.inode.Dentry.{Dentry}
use Rattle.fal_base.specs.declared.inode.Inode.{Inode}
use Rattle.fal_base.specs.declared.key.Key.{Key}
use Rattle.fal_base.specs.declared.op.Op.{Op}
use Rattle.fal_base.specs.declared.op.Op.TheVariants as op
use Rattle.fal_base.specs.declared.path.PathArg.TheVariants.{Good}
use Rattle.fal_base.specs.declared.reply.Errno.{Errno}
use Rattle.fal_base.specs.declared.reply.Errno.TheVariants.{Eacces, Einval, Eisdir, Enotdir, Eperm}
use Rattle.fal_base.specs.declared.row.Update.{Update}
use Rattle.fal_base.specs.Tree.{same_key}
use Rattle.fal_base.specs.Updates.{removing, putting, row_among}
use Rattle.fal_base.specs.Walk.{is_dir, kept_grants}
use Rattle.fal_base.proofs.Maps.{same_key_is}
use Rattle.fal_coord.specs.Judged.{Judged, Fail, Same, Count, Change, judged_at, judged_unless, putting_row, replace_verdict, end_of, verdict_of}
use Rattle.fal_coord.proofs.Within.{last_keys}
use Rattle.fal_dentry.specs.Walk.{is_among}

-- a directory with the number that the verdict names was told under one of the keys
abbrev pub IsFound : List Key → List Update → Judged → Type 0
IsFound keys rows (Fail errno) = Unit {0}
IsFound keys rows Same = Unit {0}
IsFound keys rows (Count dir updates) = (key : Key) × (is_among key keys ≡ true) × IsSomeAnd (row_among rows key) (λ (r : Inode). r.ino ≡ dir)
IsFound keys rows (Change updates) = Unit {0}

pub first_among : (key : Key) (keys : List Key) → is_among key (key ∷ keys) ≡ true
first_among key keys = ap (λ b. b || is_among key keys) ((same_key_is key key).1 refl)

second_among : (other key : Key) → is_among key (other ∷ key ∷ []) ≡ true
second_among other key = elim (same_key other key) as (λ b. (b || is_among key (key ∷ [])) ≡ true) [ true ↦ refl | false ↦ first_among key [] ]

module _ (keys : List Key) (rows : List Update) where
  row_found : (row : Option Inode) (go : Inode → Judged) → ((inode : Inode) → row ≡ Some inode → IsFound keys rows (go inode)) → IsFound keys rows (judged_at row go)
  row_found None go found = tt
  row_found (Some inode) go found = found inode refl

  checked_found : (checks : List (Bool × Errno)) (after : Judged) → IsFound keys rows after → IsFound keys rows (judged_unless checks after)
  checked_found [] after found = found
  checked_found (check ∷ checks) after found = elim check.0 as (λ b. IsFound keys rows (cond b (Fail check.1) (judged_unless checks after))) [ true ↦ tt | false ↦ checked_found checks after found ]

  -- the row under the key is this one
  found_there : (key : Key) (inode : Inode) (updates : List Update) → is_among key keys ≡ true → row_among rows key ≡ Some inode → IsFound keys rows (Count inode.ino updates)
  found_there key inode updates among is = (key, among, subst (λ row. IsSomeAnd row (λ (r : Inode). r.ino ≡ inode.ino)) (sym is) refl)

  replace_found : (key : Key) (moved : Inode) (there : Option Inode) (updates : List Update) → is_among key keys ≡ true → row_among rows key ≡ there → IsFound keys rows (replace_verdict moved there updates)
  replace_found key moved None updates among is = tt
  replace_found key moved (Some there) updates among is =
      checked_found ((not (is_dir moved) && is_dir there, Eisdir) ∷ (is_dir moved && not (is_dir there), Enotdir) ∷ []) (cond (is_dir there) (Count there.ino updates) (Change updates))
      (elim (is_dir there) as (λ b. IsFound keys rows (cond b (Count there.ino updates) (Change updates))) [ true ↦ found_there key there updates among is | false ↦ tt ])

pub counts_found : (cred : Cred) (call : Op) (parents : List (Option Dentry)) (passed : List ℕ) (rows : List Update) → IsFound (last_keys call parents) rows (verdict_of cred call parents passed rows)
unfolding verdict_of
counts_found cred (op.Chmod (Good path) mode) (parent ∷ []) passed rows =
    let end = end_of rows parent path in
    let keys = end.key ∷ [] in
    let checks : Inode → List (Bool × Errno) = λ inode. (not (cred.uid == 0 || cred.uid == inode.uid), Eperm) ∷ [] in
    let after : Inode → Judged = λ inode. putting_row end.key (record inode { mode = mode }) in
    row_found keys rows end.row (λ inode. judged_unless (checks inode) (after inode)) (λ inode is. checked_found keys rows (checks inode) (after inode) tt)
counts_found cred (op.Chown (Good path) uid gid) (parent ∷ []) passed rows =
    let end = end_of rows parent path in
    let keys = end.key ∷ [] in
    let checks : List (Bool × Errno) = (not (cred.uid == 0), Eperm) ∷ [] in
    let after : Inode → Judged = λ inode. putting_row end.key (record inode { uid = uid; gid = gid }) in
    row_found keys rows end.row (λ inode. judged_unless checks (after inode)) (λ inode is. checked_found keys rows checks (after inode) tt)
counts_found cred (op.Rmdir (Good path)) (parent ∷ []) passed rows =
    let end = end_of rows parent path in
    let keys = end.key ∷ [] in
    let checks : Inode → List (Bool × Errno) = λ inode. (not (kept_grants cred 2 end.parent), Eacces) ∷ (not (is_dir inode), Enotdir) ∷ [] in
    let after : Inode → Judged = λ inode. Count inode.ino (removing end.key ∷ []) in
    row_found keys rows end.row (λ inode. judged_unless (checks inode) (after inode))
    (λ inode is. checked_found keys rows (checks inode) (after inode) (found_there keys rows end.key inode (removing end.key ∷ []) (first_among end.key []) is))
counts_found cred (op.Rename (Good from) (Good to)) (old_parent ∷ new_parent ∷ []) passed rows =
    let old = end_of rows old_parent from in
    let new = end_of rows new_parent to in
    let keys = old.key ∷ new.key ∷ [] in
    let checks : Inode → List (Bool × Errno) =
    λ moved. (not (kept_grants cred 2 old.parent && kept_grants cred 2 new.parent), Eacces) ∷ (is_dir moved && list_any (λ ino. ino == moved.ino) passed, Einval) ∷ [] in
    let after : Inode → Judged = λ moved. replace_verdict moved new.row (removing old.key ∷ putting new.key moved ∷ []) in
    row_found keys rows old.row (λ moved. cond (same_key old.key new.key) Same (judged_unless (checks moved) (after moved))) (λ moved is.
    elim (same_key old.key new.key) as (λ b. IsFound keys rows (cond b Same (judged_unless (checks moved) (after moved)))) [
      | true ↦ tt
      | false ↦ checked_found keys rows (checks moved) (after moved) (replace_found keys rows new.key moved new.row (removing old.key ∷ putting new.key moved ∷ []) (second_among old.key new.key) refl)
    ])
counts_found cred other parents passed rows = tt
