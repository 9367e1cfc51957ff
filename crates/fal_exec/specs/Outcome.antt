-- What comes of a call, by the row under its last key and the directory of its last name. No directory means the root path.
use Rattle.std.specs.Prelude.{ℕ, Bool, not, ◌||◌, List, [], ◌∷◌, Option, Some, None, if◌then◌else◌, ◌==◌, is_some}
use Rattle.fal_base.specs.declared.call.Cred.{Cred}
use Rattle.fal_base.specs.declared.inode.Dentry.{Dentry}
use Rattle.fal_base.specs.declared.inode.Inode.{Inode}
use Rattle.fal_base.specs.declared.inode.Kind.TheVariants.{Dir, File}
use Rattle.fal_base.specs.declared.op.Op.{Op}
use Rattle.fal_base.specs.declared.op.Op.TheVariants as op
use Rattle.fal_base.specs.declared.reply.Errno.{Errno}
use Rattle.fal_base.specs.declared.reply.Errno.TheVariants.{Eacces, Eexist, Eisdir, Enoent, Enotdir, Eperm}
use Rattle.fal_base.specs.declared.reply.Reply.{Reply}
use Rattle.fal_base.specs.declared.reply.Reply.TheVariants.{Fine, Fail, Stat}
use Rattle.fal_base.specs.Walk.{is_dir, grants, kept_grants}
use Rattle.fal_base.specs.Change.{new_row}
use Rattle.fal_exec.specs.declared.outcome.Change.TheVariants.{Keep, Put, Remove}
use Rattle.fal_exec.specs.declared.outcome.ExecOut.{ExecOut}
use Rattle.fal_exec.specs.declared.outcome.ExecOut.TheVariants.{Finish, Opened, PassOn}

-- the call is answered, and the row stays
abbrev pub without_change : Reply → ExecOut
without_change reply = Finish reply Keep

abbrev pub where_found : Option Inode → (Inode → ExecOut) → ExecOut
where_found None go = without_change (Fail Enoent)
where_found (Some inode) go = go inode

-- the errno of the first check that fails, or else what comes after them
abbrev pub unless_refused : List (Bool × Errno) → ExecOut → ExecOut
unless_refused [] out = out
unless_refused (check ∷ checks) out = if check.0 then without_change (Fail check.1) else unless_refused checks out

-- replicas hold a directory's mode and owner, so the coordinator changes them
abbrev pub changed : Inode → Inode → ExecOut
changed inode now = if is_dir inode then PassOn else Finish Fine (Put now)

-- a new row, where nothing stands and the parent grants writing
abbrev pub make_outcome : Option Inode → Option Dentry → Cred → Inode → ExecOut
make_outcome row parent cred made = unless_refused ((is_some row, Eexist) ∷ (not (kept_grants cred 2 parent), Eacces) ∷ []) (Finish Fine (Put made))

abbrev pub access_outcome : Cred → ℕ → Inode → ExecOut
access_outcome cred want inode = unless_refused ((not (grants cred want inode), Eacces) ∷ []) (without_change Fine)

abbrev pub chmod_outcome : Cred → ℕ → Inode → ExecOut
chmod_outcome cred mode inode = unless_refused ((not (cred.uid == 0 || cred.uid == inode.uid), Eperm) ∷ []) (changed inode (record inode { mode = mode }))

abbrev pub chown_outcome : Cred → ℕ → ℕ → Inode → ExecOut
chown_outcome cred uid gid inode = unless_refused ((not (cred.uid == 0), Eperm) ∷ []) (changed inode (record inode { uid = uid; gid = gid }))

abbrev pub truncate_outcome : Cred → ℕ → Inode → ExecOut
truncate_outcome cred size inode = unless_refused ((is_dir inode, Eisdir) ∷ (not (grants cred 2 inode), Eacces) ∷ []) (Finish Fine (Put (record inode { size = size })))

abbrev pub unlink_outcome : Option Dentry → Cred → Inode → ExecOut
unlink_outcome parent cred inode = unless_refused ((not (kept_grants cred 2 parent), Eacces) ∷ (is_dir inode, Eperm) ∷ []) (Finish Fine Remove)

abbrev pub list_outcome : Cred → Inode → ExecOut
list_outcome cred inode = unless_refused ((not (is_dir inode), Enotdir) ∷ (not (grants cred 4 inode), Eacces) ∷ []) (Opened inode.ino)

-- a new row has the number `fresh`. One row does not decide a rmdir, rename or place: what stands for them here is a mere filler
abbrev pub outcome_of : Option Inode → Option Dentry → Cred → Op → ℕ → ExecOut
outcome_of row parent cred (op.Mkdir path mode) fresh = make_outcome row parent cred (new_row cred Dir mode fresh)
outcome_of row parent cred (op.Create path mode) fresh = make_outcome row parent cred (new_row cred File mode fresh)
outcome_of row parent cred (op.Stat path) fresh = where_found row (λ inode. without_change (Stat inode))
outcome_of row parent cred (op.Access path want) fresh = where_found row (access_outcome cred want)
outcome_of row parent cred (op.Chmod path mode) fresh = where_found row (chmod_outcome cred mode)
outcome_of row parent cred (op.Chown path uid gid) fresh = where_found row (chown_outcome cred uid gid)
outcome_of row parent cred (op.Truncate path size) fresh = where_found row (truncate_outcome cred size)
outcome_of row parent cred (op.Unlink path) fresh = where_found row (unlink_outcome parent cred)
outcome_of row parent cred (op.Rmdir path) fresh = without_change Fine
outcome_of row parent cred (op.Rename old new) fresh = without_change Fine
outcome_of row parent cred (op.List path) fresh = where_found row (list_outcome cred)
outcome_of row parent cred (op.Place name rule) fresh = without_change Fine
