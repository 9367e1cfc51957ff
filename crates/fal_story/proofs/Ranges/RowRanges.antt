-- What comes of a call on a row is within the ranges of the format, and so are the rows then.
use Rattle.std.proofs.Common.{◌≡◌, ◌⊎◌, inl, inr, ⊎_elim, ℕ, ◌<◌, ◌≤◌, ◌^◌, ◌==◌, ◌||◌, Bool, true, false, not, cond, List, [], ◌∷◌, Option, Some, None, refl, sym, ap, subst, ◌∙◌, arith}
use Rattle.std.specs.Prelude.{is_some}
use Rattle.std.proofs.lemmas.Bool.Decides.{nat_tests}
use Rattle.fal_base.specs.declared.call.CallRec.{CallRec}
use Rattle.fal_base.specs.declared.call.Cred.{Cred}
use Rattle.fal_base.specs.declared.inode.Dentry.{Dentry}
use Rattle.fal_base.specs.declared.inode.Inode.{Inode}
use Rattle.fal_base.specs.declared.inode.Kind.{Kind}
use Rattle.fal_base.specs.declared.inode.Kind.TheVariants.{Dir, File}
use Rattle.fal_base.specs.declared.key.Key.{Key}
use Rattle.fal_base.specs.declared.op.Op.{Op}
use Rattle.fal_base.specs.declared.op.Op.TheVariants as op
use Rattle.fal_base.specs.declared.reply.Errno.{Errno}
use Rattle.fal_base.specs.declared.reply.Errno.TheVariants.{Eacces, Eexist, Eisdir, Enotdir, Eperm}
use Rattle.fal_base.specs.declared.reply.Reply.TheVariants.{Fine, Fail, Stat}
use Rattle.fal_base.specs.Change.{new_row}
use Rattle.fal_base.specs.Tree.{Tree, row_at}
use Rattle.fal_base.specs.Walk.{is_dir, grants, kept_grants}
use Rattle.fal_base.proofs.Maps.{put_cases, removed_cases}
use Rattle.fal_exec.specs.declared.outcome.Change.{Change}
use Rattle.fal_exec.specs.declared.outcome.Change.TheVariants.{Keep, Put, Remove}
use Rattle.fal_exec.specs.declared.outcome.ExecOut.{ExecOut}
use Rattle.fal_exec.specs.declared.outcome.ExecOut.TheVariants.{Finish, Opened, PassOn}
use Rattle.fal_exec.specs.Outcome.{without_change, where_found, unless_refused, changed, access_outcome, chmod_outcome, chown_outcome, truncate_outcome, unlink_outcome, list_outcome, outcome_of}
use Rattle.fal_run.specs.declared.call.BatchCall.{BatchCall}
use Rattle.fal_run.specs.Calls.{number_after, is_making, change_of, call_outcome}
use Rattle.fal_run.specs.Rows.{rows_after}
use Rattle.fal_wire.specs.Numbers.{ino_field, mode_field, size_field, cred_field}
use Rattle.fal_wire.specs.Ops.{path_and_mode, path_and_owner, path_and_size, op_field, call_field}
use Rattle.fal_wire.specs.Rows.{kind_field, inode_field, reply_field}
use Rattle.fal_story.proofs.Ranges.MessageRanges.{fail_fits, fine_fits, stat_fits}
use Rattle.fal_story.proofs.Ranges.RecordFits.{IsDirRanged}

-- ---- the fields of a call

pub cred_of_call : (call : CallRec) → call_field.Fits call → cred_field.Fits call.cred
unfolding call_field
cred_of_call call fits = fits.1.0

pub op_of_call : (call : CallRec) → call_field.Fits call → op_field.Fits call.op
unfolding call_field
op_of_call call fits = fits.1.1.1

mkdir_mode : (path : _) (mode : ℕ) → op_field.Fits (op.Mkdir path mode) → mode_field.Fits mode
unfolding op_field path_and_mode
mkdir_mode path mode fits = fits.1

create_mode : (path : _) (mode : ℕ) → op_field.Fits (op.Create path mode) → mode_field.Fits mode
unfolding op_field path_and_mode
create_mode path mode fits = fits.1

pub chmod_mode : (path : _) (mode : ℕ) → op_field.Fits (op.Chmod path mode) → mode_field.Fits mode
unfolding op_field path_and_mode
chmod_mode path mode fits = fits.1

pub chown_owner : (path : _) (uid gid : ℕ) → op_field.Fits (op.Chown path uid gid) → (uid < 256 ^ 4) × (gid < 256 ^ 4)
unfolding op_field path_and_owner
chown_owner path uid gid fits = fits.1

truncate_size : (path : _) (size : ℕ) → op_field.Fits (op.Truncate path size) → size_field.Fits size
unfolding op_field path_and_size
truncate_size path size fits = fits.1

-- ---- rows

kind_fits : (kind : Kind) → kind_field.Fits kind
unfolding kind_field
kind_fits Dir = tt
kind_fits File = tt

new_fits : (cred : Cred) (kind : Kind) (mode ino : ℕ) → cred_field.Fits cred → mode_field.Fits mode → ino_field.Fits ino → inode_field.Fits (new_row cred kind mode ino)
unfolding inode_field cred_field size_field
new_fits cred kind mode ino of_cred of_mode of_ino = (of_ino, (kind_fits kind, (of_mode, (of_cred.0, (of_cred.1, (omega arith, refl))))))

sized_fits : (inode : Inode) (size : ℕ) → inode_field.Fits inode → size_field.Fits size → inode_field.Fits (record inode { size = size })
unfolding inode_field
sized_fits inode size fits of_size = (fits.0, (fits.1.0, (fits.1.1.0, (fits.1.1.1.0, (fits.1.1.1.1.0, of_size)))))

pub moded_fits : (inode : Inode) (mode : ℕ) → inode_field.Fits inode → mode_field.Fits mode → inode_field.Fits (record inode { mode = mode })
unfolding inode_field
moded_fits inode mode fits of_mode = (fits.0, (fits.1.0, (of_mode, fits.1.1.1)))

pub owned_fits : (inode : Inode) (uid gid : ℕ) → inode_field.Fits inode → (uid < 256 ^ 4) × (gid < 256 ^ 4) → inode_field.Fits (record inode { uid = uid; gid = gid })
unfolding inode_field
owned_fits inode uid gid fits owner = (fits.0, (fits.1.0, (fits.1.1.0, (owner.0, (owner.1, fits.1.1.1.1.1)))))

-- the number of a new row
pub fresh_fits : (node drawn : ℕ) → node < 16 → drawn ≤ 20000 → ino_field.Fits (number_after node drawn)
unfolding ino_field
fresh_fits node drawn small few = (omega arith, let some : 0 < number_after node drawn = omega arith in grind (arith, nat_tests))

abbrev pub AreRowsRanged : Tree → Type 0
AreRowsRanged rows = (key : Key) (inode : Inode) → row_at rows key ≡ Some inode → inode_field.Fits inode

same_inode : (a b : Inode) → Some a ≡ Some b → a ≡ b
same_inode a b e = cc

no_inode : (b : Inode) → ◌≡◌ {A = Option Inode} None (Some b) → inode_field.Fits b
no_inode b e = absurd (cc)

-- a row that is put can be spelled, and its number is drawn now, or some row stood there
abbrev pub ChangeFits : Bool → Option Inode → Change → Type 0
ChangeFits making row Keep = Unit {0}
ChangeFits making row (Put inode) = inode_field.Fits inode × ((making ≡ true) ⊎ (is_some row ≡ true))
ChangeFits making row Remove = Unit {0}

pub rows_ranged : (rows : Tree) (key : Key) (making : Bool) (row : Option Inode) (change : Change) → ChangeFits making row change → AreRowsRanged rows → AreRowsRanged (rows_after rows key change)
rows_ranged rows key making row Keep fits h q other is = h q other is
rows_ranged rows key making row (Put inode) fits h q other is =
    ⊎_elim (λ x. subst inode_field.Fits (same_inode inode other (sym x.1 ∙ is)) fits.0) (λ x. h q other (sym x.1 ∙ is)) (put_cases q key inode rows)
rows_ranged rows key making row Remove fits h q other is = ⊎_elim (λ x. no_inode other (sym x.1 ∙ is)) (λ x. h q other (sym x.1 ∙ is)) (removed_cases q key rows)

-- ---- what comes of a call

-- the call is done here, with an answer and a row in their ranges, or opens a directory that has a number, or is passed on
abbrev pub IsOutRanged : Bool → Option Inode → ExecOut → Type 0
IsOutRanged making row (Finish reply change) = reply_field.Fits reply × ChangeFits making row change
IsOutRanged making row (Opened ino) = IsDirRanged ino
IsOutRanged making row PassOn = Unit {0}

pub change_fits : (making : Bool) (row : Option Inode) (out : ExecOut) → IsOutRanged making row out → ChangeFits making row (change_of out)
change_fits making row (Finish reply change) h = h.1
change_fits making row (Opened ino) h = tt
change_fits making row PassOn h = tt

failed : (making : Bool) (row : Option Inode) (errno : Errno) → IsOutRanged making row (without_change (Fail errno))
failed making row errno = (fail_fits errno, tt)

checked_ranged : (making : Bool) (row : Option Inode) (checks : List (Bool × Errno)) (out : ExecOut) → IsOutRanged making row out → IsOutRanged making row (unless_refused checks out)
checked_ranged making row [] out h = h
checked_ranged making row (check ∷ checks) out h =
    elim check.0 as (λ b. IsOutRanged making row (cond b (without_change (Fail check.1)) (unless_refused checks out))) [ true ↦ failed making row check.1 | false ↦ checked_ranged making row checks out h ]

found_ranged : (making : Bool) (row : Option Inode) (go : Inode → ExecOut) → ((inode : Inode) → row ≡ Some inode → IsOutRanged making row (go inode)) → IsOutRanged making row (where_found row go)
found_ranged making None go h = failed making None _
found_ranged making (Some inode) go h = h inode refl

-- a row is changed that stands there, but a directory's
changed_ranged : (row : Option Inode) (inode after : Inode) → row ≡ Some inode → inode_field.Fits after → IsOutRanged false row (changed inode after)
changed_ranged row inode after is fits =
    elim (is_dir inode) as (λ b. IsOutRanged false row (cond b PassOn (Finish Fine (Put after)))) [ true ↦ tt | false ↦ (fine_fits, (fits, inr (ap (λ r. is_some r) is))) ]

-- the number of a row is one of a directory
dir_ranged : (inode : Inode) → inode_field.Fits inode → IsDirRanged inode.ino
unfolding inode_field ino_field
dir_ranged inode fits = record { some = grind (arith, nat_tests); fits = fits.0.0 }

outcome_ranged : (row : Option Inode) (parent : Option Dentry) (cred : Cred) (o : Op) (fresh : ℕ) → ((inode : Inode) → row ≡ Some inode → inode_field.Fits inode)
    → cred_field.Fits cred → op_field.Fits o → ino_field.Fits fresh → IsOutRanged (is_making o) row (outcome_of row parent cred o fresh)
outcome_ranged row parent cred (op.Mkdir path mode) fresh rows of_cred of_op of_fresh =
    checked_ranged true row ((is_some row, Eexist) ∷ (not (kept_grants cred 2 parent), Eacces) ∷ []) (Finish Fine (Put (new_row cred Dir mode fresh)))
    (fine_fits, (new_fits cred Dir mode fresh of_cred (mkdir_mode path mode of_op) of_fresh, inl refl))
outcome_ranged row parent cred (op.Create path mode) fresh rows of_cred of_op of_fresh =
    checked_ranged true row ((is_some row, Eexist) ∷ (not (kept_grants cred 2 parent), Eacces) ∷ []) (Finish Fine (Put (new_row cred File mode fresh)))
    (fine_fits, (new_fits cred File mode fresh of_cred (create_mode path mode of_op) of_fresh, inl refl))
outcome_ranged row parent cred (op.Stat path) fresh rows of_cred of_op of_fresh = found_ranged false row (λ inode. without_change (Stat inode)) (λ inode is. (stat_fits inode (rows inode is), tt))
outcome_ranged row parent cred (op.Access path want) fresh rows of_cred of_op of_fresh =
    found_ranged false row (access_outcome cred want) (λ inode is. checked_ranged false row ((not (grants cred want inode), Eacces) ∷ []) (without_change Fine) (fine_fits, tt))
outcome_ranged row parent cred (op.Chmod path mode) fresh rows of_cred of_op of_fresh =
    found_ranged false row (chmod_outcome cred mode)
    (λ inode is. checked_ranged false row ((not (cred.uid == 0 || cred.uid == inode.uid), Eperm) ∷ []) (changed inode (record inode { mode = mode }))
    (changed_ranged row inode (record inode { mode = mode }) is (moded_fits inode mode (rows inode is) (chmod_mode path mode of_op))))
outcome_ranged row parent cred (op.Chown path uid gid) fresh rows of_cred of_op of_fresh =
    found_ranged false row (chown_outcome cred uid gid)
    (λ inode is. checked_ranged false row ((not (cred.uid == 0), Eperm) ∷ []) (changed inode (record inode { uid = uid; gid = gid }))
    (changed_ranged row inode (record inode { uid = uid; gid = gid }) is (owned_fits inode uid gid (rows inode is) (chown_owner path uid gid of_op))))
outcome_ranged row parent cred (op.Truncate path size) fresh rows of_cred of_op of_fresh =
    found_ranged false row (truncate_outcome cred size)
    (λ inode is. checked_ranged false row ((is_dir inode, Eisdir) ∷ (not (grants cred 2 inode), Eacces) ∷ []) (Finish Fine (Put (record inode { size = size })))
    (fine_fits, (sized_fits inode size (rows inode is) (truncate_size path size of_op), inr (ap (λ r. is_some r) is))))
outcome_ranged row parent cred (op.Unlink path) fresh rows of_cred of_op of_fresh =
    found_ranged false row (unlink_outcome parent cred) (λ inode is. checked_ranged false row ((not (kept_grants cred 2 parent), Eacces) ∷ (is_dir inode, Eperm) ∷ []) (Finish Fine Remove) (fine_fits, tt))
outcome_ranged row parent cred (op.Rmdir path) fresh rows of_cred of_op of_fresh = (fine_fits, tt)
outcome_ranged row parent cred (op.Rename old new) fresh rows of_cred of_op of_fresh = (fine_fits, tt)
outcome_ranged row parent cred (op.List path) fresh rows of_cred of_op of_fresh =
    found_ranged false row (list_outcome cred)
    (λ inode is. checked_ranged false row ((not (is_dir inode), Enotdir) ∷ (not (grants cred 4 inode), Eacces) ∷ []) (Opened inode.ino) (dir_ranged inode (rows inode is)))
outcome_ranged row parent cred (op.Place name rule) fresh rows of_cred of_op of_fresh = (fine_fits, tt)

pub call_ranged : (node : ℕ) (rows : Tree) (drawn : ℕ) (x : BatchCall) → AreRowsRanged rows → call_field.Fits x.call → ino_field.Fits (number_after node drawn)
    → IsOutRanged (is_making x.call.op) (row_at rows x.last) (call_outcome node rows drawn x)
call_ranged node rows drawn x ranged fits fresh =
    let making = is_making x.call.op in
    let row = row_at rows x.last in
    elim x.denied as (λ b. IsOutRanged making row (cond b (without_change (Fail Eacces)) (outcome_of row x.parent x.call.cred x.call.op (number_after node drawn)))) [
      | true ↦ failed making row Eacces
      | false ↦ outcome_ranged row x.parent x.call.cred x.call.op (number_after node drawn) (λ inode is. ranged x.last inode is) (cred_of_call x.call fits) (op_of_call x.call fits) fresh
    ]
