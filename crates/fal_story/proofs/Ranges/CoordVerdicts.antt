-- What a verdict makes of rows that can be spelled.
use Rattle.std.proofs.Common.{◌≡◌, ℕ, ◌<◌, ◌^◌, ◌==◌, Bool, true, false, not, ◌&&◌, ◌||◌, cond, List, [], ◌∷◌, Option, Some, None, refl, arith}
use Rattle.std.specs.Prelude.{sum}
use Rattle.std.specs.List.{list_any}
use Rattle.fal_base.specs.declared.call.Cred.{Cred}
use Rattle.fal_base.specs.declared.inode.Dentry.{Dentry}
use Rattle.fal_base.specs.declared.inode.Inode.{Inode}
use Rattle.fal_base.specs.declared.key.Key.{Key}
use Rattle.fal_base.specs.declared.op.Op.{Op}
use Rattle.fal_base.specs.declared.op.Op.TheVariants as op
use Rattle.fal_base.specs.declared.path.PathArg.TheVariants.{Good}
use Rattle.fal_base.specs.declared.reply.Errno.{Errno}
use Rattle.fal_base.specs.declared.reply.Errno.TheVariants.{Eacces, Einval, Eisdir, Enotdir, Enotempty, Eperm}
use Rattle.fal_base.specs.declared.row.Update.{Update}
use Rattle.fal_base.specs.Tree.{same_key}
use Rattle.fal_base.specs.Updates.{removing, putting, row_among}
use Rattle.fal_base.specs.Walk.{is_dir, kept_grants}
use Rattle.fal_coord.specs.Judged.{Judged, Fail, Same, Count, Change, end_of, judged_at, judged_unless, putting_row, replace_verdict, verdict_of, counted_of}
use Rattle.fal_coord.specs.Walks.{walked_paths}
use Rattle.fal_wire.specs.Names.{key_field}
use Rattle.fal_wire.specs.Numbers.{ino_field}
use Rattle.fal_wire.specs.Ops.{op_field}
use Rattle.fal_wire.specs.Rows.{inode_field, row_field, updates_field}
use Rattle.fal_story.proofs.Ranges.CoordBounds.{EndsFit, RowsFit}
use Rattle.fal_story.proofs.Ranges.OperationRecords.{updates_fit}
use Rattle.fal_story.proofs.Ranges.RowCounts.{row_fits}
use Rattle.fal_story.proofs.Ranges.RowRanges.{chmod_mode, chown_owner, moded_fits, owned_fits}

-- the updates can be spelled, and the directory of which the entries are counted
abbrev pub JudgedFits : Judged → Type 0
JudgedFits (Fail errno) = Unit {0}
JudgedFits Same = Unit {0}
JudgedFits (Count dir updates) = (dir < 2 ^ 64) × updates_field.Fits updates
JudgedFits (Change updates) = updates_field.Fits updates

-- ---- parts

abbrev AreFit : Option Inode → Type 0
AreFit row = (inode : Inode) → row ≡ Some inode → inode_field.Fits inode

among_fits : (rows : List Update) (key : Key) → RowsFit rows → AreFit (row_among rows key)
among_fits [] key fits inode is = absurd (cc)
among_fits (u ∷ us) key fits inode is =
    elim (same_key u.key key) as (λ b. cond b u.row (row_among us key) ≡ Some inode → inode_field.Fits inode) [
      | true ↦ λ e. row_fits u.row inode e fits.0
      | false ↦ λ e. among_fits us key fits.1 inode e
    ] is

some_fits : (inode : Inode) → inode_field.Fits inode → row_field.Fits (Some inode)
unfolding row_field
some_fits inode fits = fits

none_fits : row_field.Fits None
unfolding row_field
none_fits = tt

number_fits : (inode : Inode) → inode_field.Fits inode → inode.ino < 2 ^ 64
unfolding inode_field ino_field
number_fits inode fits = let below = fits.0.0 in omega arith

one_fits : (key : Key) (inode : Inode) → key_field.Fits key → inode_field.Fits inode → JudgedFits (putting_row key inode)
one_fits key inode of_key of_inode = updates_fit (putting key inode ∷ []) (omega arith) ((of_key, some_fits inode of_inode), tt)

at_fits : (row : Option Inode) (go : Inode → Judged) → AreFit row → ((inode : Inode) → inode_field.Fits inode → JudgedFits (go inode)) → JudgedFits (judged_at row go)
at_fits None go row h = tt
at_fits (Some inode) go row h = h inode (row inode refl)

checked_fits : (checks : List (Bool × Errno)) (judged : Judged) → JudgedFits judged → JudgedFits (judged_unless checks judged)
checked_fits [] judged h = h
checked_fits (check ∷ checks) judged h = elim check.0 as (λ b. JudgedFits (cond b (Fail check.1) (judged_unless checks judged))) [ true ↦ tt | false ↦ checked_fits checks judged h ]

replace_fits : (moved : Inode) (there : Option Inode) (updates : List Update) → AreFit there → updates_field.Fits updates → JudgedFits (replace_verdict moved there updates)
replace_fits moved None updates row fits = fits
replace_fits moved (Some there) updates row fits =
    checked_fits ((not (is_dir moved) && is_dir there, Eisdir) ∷ (is_dir moved && not (is_dir there), Enotdir) ∷ []) (cond (is_dir there) (Count there.ino updates) (Change updates))
    (elim (is_dir there) as (λ b. JudgedFits (cond b (Count there.ino updates) (Change updates))) [ true ↦ (number_fits there (row there refl), fits) | false ↦ fits ])

-- ---- verdicts

pub verdict_fits : (cred : Cred) (call : Op) (parents : List (Option Dentry)) (passed : List ℕ) (rows : List Update) → op_field.Fits call → EndsFit (walked_paths call) parents → RowsFit rows
    → JudgedFits (verdict_of cred call parents passed rows)
unfolding verdict_of
verdict_fits cred (op.Chmod (Good path) mode) (parent ∷ []) passed rows of_op ends fits =
    let end = end_of rows parent path in
    at_fits end.row (λ inode. judged_unless ((not (cred.uid == 0 || cred.uid == inode.uid), Eperm) ∷ []) (putting_row end.key (record inode { mode = mode }))) (among_fits rows end.key fits)
    (λ inode is. checked_fits ((not (cred.uid == 0 || cred.uid == inode.uid), Eperm) ∷ []) (putting_row end.key (record inode { mode = mode }))
    (one_fits end.key (record inode { mode = mode }) ends.0 (moded_fits inode mode is (chmod_mode (Good path) mode of_op))))
verdict_fits cred (op.Chown (Good path) uid gid) (parent ∷ []) passed rows of_op ends fits =
    let end = end_of rows parent path in
    at_fits end.row (λ inode. judged_unless ((not (cred.uid == 0), Eperm) ∷ []) (putting_row end.key (record inode { uid = uid; gid = gid }))) (among_fits rows end.key fits)
    (λ inode is. checked_fits ((not (cred.uid == 0), Eperm) ∷ []) (putting_row end.key (record inode { uid = uid; gid = gid }))
    (one_fits end.key (record inode { uid = uid; gid = gid }) ends.0 (owned_fits inode uid gid is (chown_owner (Good path) uid gid of_op))))
verdict_fits cred (op.Rmdir (Good path)) (parent ∷ []) passed rows of_op ends fits =
    let end = end_of rows parent path in
    let checks : Inode → List (Bool × Errno) = λ inode. (not (kept_grants cred 2 end.parent), Eacces) ∷ (not (is_dir inode), Enotdir) ∷ [] in
    at_fits end.row (λ inode. judged_unless (checks inode) (Count inode.ino (removing end.key ∷ []))) (among_fits rows end.key fits)
    (λ inode is. checked_fits (checks inode) (Count inode.ino (removing end.key ∷ []))
    (number_fits inode is, updates_fit (removing end.key ∷ []) (omega arith) ((ends.0, none_fits), tt)))
verdict_fits cred (op.Rename (Good from) (Good to)) (old_parent ∷ new_parent ∷ []) passed rows of_op ends fits =
    let old = end_of rows old_parent from in
    let new = end_of rows new_parent to in
    let checks : Inode → List (Bool × Errno) =
    λ moved. (not (kept_grants cred 2 old.parent && kept_grants cred 2 new.parent), Eacces) ∷ (is_dir moved && list_any (λ ino. ino == moved.ino) passed, Einval) ∷ [] in
    let updates : Inode → List Update = λ moved. removing old.key ∷ putting new.key moved ∷ [] in
    at_fits old.row (λ moved. cond (same_key old.key new.key) Same (judged_unless (checks moved) (replace_verdict moved new.row (updates moved)))) (among_fits rows old.key fits)
    (λ moved is. elim (same_key old.key new.key) as (λ b. JudgedFits (cond b Same (judged_unless (checks moved) (replace_verdict moved new.row (updates moved))))) [
      | true ↦ tt
      | false ↦ checked_fits (checks moved) (replace_verdict moved new.row (updates moved))
          (replace_fits moved new.row (updates moved) (among_fits rows new.key fits) (updates_fit (updates moved) (omega arith) ((ends.0, none_fits), ((ends.1.0, some_fits moved is), tt))))
    ])
verdict_fits cred other parents passed rows of_op ends fits = tt

pub counts_fit : (counts : List ℕ) (updates : List Update) → updates_field.Fits updates → JudgedFits (counted_of counts updates)
counts_fit counts updates fits = elim (sum counts == 0) as (λ b. JudgedFits (cond b (Change updates) (Fail Enotempty))) [ true ↦ fits | false ↦ tt ]
