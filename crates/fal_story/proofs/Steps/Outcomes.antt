-- What comes of a planned call: it is done, passed on to the coordinator, or opens the directory that it lists; and where it changes its row
-- no directory stands there.
use Rattle.std.proofs.Common.{◌≡◌, ◌≢◌, ◌⊎◌, inl, inr, ℕ, ◌==◌, Bool, true, false, not, ◌&&◌, ◌||◌, List, [], ◌∷◌, Option, Some, None, refl, ap, ◌∙◌, cond, is_some}
use Rattle.fal_base.specs.declared.call.Cred.{Cred}
use Rattle.fal_base.specs.declared.inode.Dentry.{Dentry}
use Rattle.fal_base.specs.declared.inode.Inode.{Inode}
use Rattle.fal_base.specs.declared.inode.Kind.TheVariants.{Dir, File}
use Rattle.fal_base.specs.declared.op.Op.{Op}
use Rattle.fal_base.specs.declared.op.Op.TheVariants as op
use Rattle.fal_base.specs.declared.reply.Errno.{Errno}
use Rattle.fal_base.specs.declared.reply.Errno.TheVariants.{Eacces, Eexist, Eisdir, Enoent, Enotdir, Eperm}
use Rattle.fal_base.specs.declared.reply.Reply.{Reply}
use Rattle.fal_base.specs.declared.reply.Reply.TheVariants.{Fine, Fail, Stat}
use Rattle.fal_base.specs.declared.key.Key.{Key}
use Rattle.fal_base.specs.Answer.{answer}
use Rattle.fal_base.specs.Change.{new_row}
use Rattle.fal_base.specs.Transcript.{is_list, is_names}
use Rattle.fal_base.specs.Tree.{Tree}
use Rattle.fal_base.specs.Walk.{is_dir, grants, kept_grants}
use Rattle.fal_exec.specs.declared.outcome.Change.{Change}
use Rattle.fal_exec.specs.declared.outcome.Change.TheVariants as change
use Rattle.fal_exec.specs.declared.outcome.ExecOut.{ExecOut}
use Rattle.fal_exec.specs.declared.outcome.ExecOut.TheVariants as out
use Rattle.fal_exec.specs.Executed.{IsFinished, is_directory}
use Rattle.fal_exec.specs.Outcome.{outcome_of, without_change, where_found, unless_refused, changed, make_outcome, access_outcome, chmod_outcome, chown_outcome, truncate_outcome, unlink_outcome, list_outcome}
use Rattle.fal_run.specs.Calls.{is_making}
use Rattle.fal_story.proofs.Trees.Unlisted.{tree_unlisted}

-- ---- it is done, or passed on

abbrev pub IsDone : ExecOut → Type 0
IsDone o = (reply : Reply) × ((ch : Change) × (o ≡ out.Finish reply ch))

-- it is done, or passed on to the coordinator, or opens a directory
abbrev pub HasEnd : ExecOut → Type 0
HasEnd o = IsDone o ⊎ ((o ≡ out.PassOn) ⊎ ((dir : ℕ) × (o ≡ out.Opened dir)))

end_kept : (reply : Reply) → HasEnd (without_change reply)
end_kept reply = inl (reply, (change.Keep, refl))

-- what holds of the answer to a check that fails, and of what comes after them all
checked_ends : (Q : ExecOut → Type 0) → ((errno : Errno) → Q (without_change (Fail errno))) → (checks : List (Bool × Errno)) (o : ExecOut) → Q o → Q (unless_refused checks o)
checked_ends Q fails [] o is = is
checked_ends Q fails (check ∷ checks) o is = elim check.0 as (λ b. Q (cond b (without_change (Fail check.1)) (unless_refused checks o))) [ true ↦ fails check.1 | false ↦ checked_ends Q fails checks o is ]

end_checked : (checks : List (Bool × Errno)) (o : ExecOut) → HasEnd o → HasEnd (unless_refused checks o)
end_checked checks o is = checked_ends HasEnd (λ errno. end_kept (Fail errno)) checks o is

end_found : (row : Option Inode) (go : Inode → ExecOut) → ((inode : Inode) → HasEnd (go inode)) → HasEnd (where_found row go)
end_found None go is = end_kept (Fail Enoent)
end_found (Some inode) go is = is inode

end_made : (row : Option Inode) (parent : Option Dentry) (cred : Cred) (made : Inode) → HasEnd (make_outcome row parent cred made)
end_made row parent cred made = end_checked ((is_some row, Eexist) ∷ (not (kept_grants cred 2 parent), Eacces) ∷ []) (out.Finish Fine (change.Put made)) (inl (Fine, (change.Put made, refl)))

-- a row with other rights or another owner: that of a directory is the coordinator's to change
end_changed : (inode now : Inode) → HasEnd (changed inode now)
end_changed inode now = elim (is_dir inode) as (λ b. HasEnd (cond b out.PassOn (out.Finish Fine (change.Put now)))) [ true ↦ inr (inl refl) | false ↦ inl (Fine, (change.Put now, refl)) ]

pub outcome_ends : (row : Option Inode) (parent : Option Dentry) (cred : Cred) (call : Op) (fresh : ℕ) → HasEnd (outcome_of row parent cred call fresh)
outcome_ends row parent cred (op.Mkdir path mode) fresh = end_made row parent cred (new_row cred Dir mode fresh)
outcome_ends row parent cred (op.Create path mode) fresh = end_made row parent cred (new_row cred File mode fresh)
outcome_ends row parent cred (op.Stat path) fresh = end_found row (λ inode. without_change (Stat inode)) (λ inode. end_kept (Stat inode))
outcome_ends row parent cred (op.Access path want) fresh = end_found row (access_outcome cred want) (λ inode. end_checked ((not (grants cred want inode), Eacces) ∷ []) (without_change Fine) (end_kept Fine))
outcome_ends row parent cred (op.Chmod path mode) fresh =
    end_found row (chmod_outcome cred mode) (λ inode. end_checked ((not (cred.uid == 0 || cred.uid == inode.uid), Eperm) ∷ []) _ (end_changed inode (record inode { mode = mode })))
outcome_ends row parent cred (op.Chown path uid gid) fresh =
    end_found row (chown_outcome cred uid gid) (λ inode. end_checked ((not (cred.uid == 0), Eperm) ∷ []) _ (end_changed inode (record inode { uid = uid; gid = gid })))
outcome_ends row parent cred (op.Truncate path size) fresh =
    end_found row (truncate_outcome cred size) (λ inode. end_checked ((is_dir inode, Eisdir) ∷ (not (grants cred 2 inode), Eacces) ∷ []) _ (inl (Fine, (change.Put (record inode { size = size }), refl))))
outcome_ends row parent cred (op.Unlink path) fresh =
    end_found row (unlink_outcome parent cred) (λ inode. end_checked ((not (kept_grants cred 2 parent), Eacces) ∷ (is_dir inode, Eperm) ∷ []) _ (inl (Fine, (change.Remove, refl))))
outcome_ends row parent cred (op.Rmdir path) fresh = end_kept Fine
outcome_ends row parent cred (op.Rename old new) fresh = end_kept Fine
outcome_ends row parent cred (op.Place name rule) fresh = end_kept Fine
outcome_ends row parent cred (op.List path) fresh =
    end_found row (list_outcome cred) (λ inode. end_checked ((not (is_dir inode), Enotdir) ∷ (not (grants cred 4 inode), Eacces) ∷ []) (out.Opened inode.ino) (inr (inr (inode.ino, refl))))

-- what is answered at once is no list of names
pub finished_plain : (tree : Tree) (cred : Cred) (call : Op) (fresh : ℕ) (key : Key) (reply : Reply) (ch : Change) → IsFinished tree cred call fresh key reply ch → is_names reply ≡ false
finished_plain tree cred call fresh key reply ch done =
    ap is_names done.answered ∙ plain (is_list call) (is_names (answer tree cred call)) done.not_opened (λ other. tree_unlisted tree cred call other)
  where
    plain : (lists names : Bool) → (lists && names) ≡ false → (lists ≡ false → names ≡ false) → names ≡ false
    plain true names none other = none
    plain false names none other = other refl

-- ---- a row that changes

-- the outcome is one that changes no row, or this holds
abbrev OrKeeps : Type 0 → ExecOut → Type 0
OrKeeps P o = (reply : Reply) (ch : Change) → o ≡ out.Finish reply ch → ch ≢ change.Keep → P

keeps : (P : Type 0) (reply : Reply) → OrKeeps P (without_change reply)
keeps P reply other ch is changes = absurd (changes (cc))

keeps_after : (P : Type 0) (check : Bool) (errno : Errno) (o : ExecOut) → (check ≡ false → OrKeeps P o) → OrKeeps P (cond check (without_change (Fail errno)) o)
keeps_after P true errno o later = keeps P (Fail errno)
keeps_after P false errno o later = later refl

keeps_found : (P : Type 0) (row : Option Inode) (go : Inode → ExecOut) → ((inode : Inode) → row ≡ Some inode → OrKeeps P (go inode)) → OrKeeps P (where_found row go)
keeps_found P None go later = keeps P (Fail Enoent)
keeps_found P (Some inode) go later = later inode refl

no_row : (row : Option Inode) → is_some row ≡ false → is_directory row ≡ false
no_row None is = refl
no_row (Some inode) is = cc

no_dir : (row : Option Inode) (inode : Inode) → row ≡ Some inode → is_dir inode ≡ false → is_directory row ≡ false
no_dir row inode is off = ap is_directory is ∙ off

-- other rights or another owner, of a file
keeps_changed : (row : Option Inode) (inode now : Inode) → row ≡ Some inode → OrKeeps (is_directory row ≡ false) (changed inode now)
keeps_changed row inode now there =
    elim (is_dir inode) as (λ b. is_dir inode ≡ b → OrKeeps (is_directory row ≡ false) (cond b out.PassOn (out.Finish Fine (change.Put now)))) [
      | true ↦ λ dir reply ch is changes. absurd (cc)
      | false ↦ λ file reply ch is changes. no_dir row inode there file
    ] refl

off_dirs : (row : Option Inode) (parent : Option Dentry) (cred : Cred) (call : Op) (fresh : ℕ) → OrKeeps (is_directory row ≡ false) (outcome_of row parent cred call fresh)
off_dirs row parent cred (op.Mkdir path mode) fresh = keeps_after _ (is_some row) Eexist _ (λ none reply ch is changes. no_row row none)
off_dirs row parent cred (op.Create path mode) fresh = keeps_after _ (is_some row) Eexist _ (λ none reply ch is changes. no_row row none)
off_dirs row parent cred (op.Stat path) fresh = keeps_found _ row _ (λ inode there. keeps _ (Stat inode))
off_dirs row parent cred (op.Access path want) fresh = keeps_found _ row _ (λ inode there. keeps_after _ (not (grants cred want inode)) Eacces (without_change Fine) (λ _. keeps _ Fine))
off_dirs row parent cred (op.Truncate path size) fresh =
    keeps_found _ row _ (λ inode there. keeps_after _ (is_dir inode) Eisdir _ (λ file reply ch is changes. no_dir row inode there file))
off_dirs row parent cred (op.Unlink path) fresh =
    keeps_found _ row _ (λ inode there. keeps_after _ (not (kept_grants cred 2 parent)) Eacces _ (λ granted. keeps_after _ (is_dir inode) Eperm _ (λ file reply ch is changes. no_dir row inode there file)))
off_dirs row parent cred (op.Chmod path mode) fresh =
    keeps_found _ row _ (λ inode there. keeps_after _ (not (cred.uid == 0 || cred.uid == inode.uid)) Eperm _ (λ _. keeps_changed row inode (record inode { mode = mode }) there))
off_dirs row parent cred (op.Chown path uid gid) fresh =
    keeps_found _ row _ (λ inode there. keeps_after _ (not (cred.uid == 0)) Eperm _ (λ _. keeps_changed row inode (record inode { uid = uid; gid = gid }) there))
off_dirs row parent cred (op.Rmdir path) fresh = keeps _ Fine
off_dirs row parent cred (op.Rename old new) fresh = keeps _ Fine
off_dirs row parent cred (op.Place name rule) fresh = keeps _ Fine
off_dirs row parent cred (op.List path) fresh =
    keeps_found _ row _ (λ inode there. keeps_after _ (not (is_dir inode)) Enotdir _ (λ dir. keeps_after _ (not (grants cred 4 inode)) Eacces (out.Opened inode.ino) (λ granted reply ch is changes. absurd (cc))))

-- where a call changes its row, no directory stands there
pub outcome_off_dirs : (row : Option Inode) (parent : Option Dentry) (cred : Cred) (call : Op) (fresh : ℕ) (reply : Reply) (ch : Change) → outcome_of row parent cred call fresh ≡ out.Finish reply ch
    → ch ≢ change.Keep → is_directory row ≡ false
outcome_off_dirs row parent cred call fresh reply ch is changes = off_dirs row parent cred call fresh reply ch is changes

-- a new row is never taken away
make_puts : (row : Option Inode) (parent : Option Dentry) (cred : Cred) (made : Inode) (reply : Reply) → make_outcome row parent cred made ≡ out.Finish reply change.Remove → ⊥
make_puts row parent cred made reply =
    checked_ends (λ o. o ≡ out.Finish reply change.Remove → ⊥) (λ errno is. cc) ((is_some row, Eexist) ∷ (not (kept_grants cred 2 parent), Eacces) ∷ []) (out.Finish Fine (change.Put made)) (λ is. cc)

pub remove_makes_none : (row : Option Inode) (parent : Option Dentry) (cred : Cred) (call : Op) (fresh : ℕ) (reply : Reply) → outcome_of row parent cred call fresh ≡ out.Finish reply change.Remove → is_making call ≡ false
remove_makes_none row parent cred (op.Mkdir path mode) fresh reply is = absurd (make_puts row parent cred (new_row cred Dir mode fresh) reply is)
remove_makes_none row parent cred (op.Create path mode) fresh reply is = absurd (make_puts row parent cred (new_row cred File mode fresh) reply is)
remove_makes_none row parent cred other fresh reply is = refl
