-- What the plain tree answers to a call. Each errno is one that POSIX.1-2017, XSH, gives for its cause at mkdir, open (O_CREAT with O_EXCL),
-- stat, access, chmod, chown, truncate, unlink, rmdir, rename and readdir. POSIX leaves open which of several causes is answered; here a bad
-- path comes first, then EBUSY on the root, then the walk, then the checks in their order. This service's own choices are that unlink of a
-- directory is EPERM, chown is for uid 0 alone, and uid 0 passes every check.
use Rattle.std.specs.Prelude.{ℕ, Bool, true, not, ◌&&◌, ◌||◌, List, [], ◌∷◌, length, Option, Some, None, if◌then◌else◌, ◌==◌, nat_lt, is_some}
use Rattle.std.specs.List.{list_any}
use Rattle.fal_base.specs.declared.call.Cred.{Cred}
use Rattle.fal_base.specs.declared.reply.Errno.{Errno}
use Rattle.fal_base.specs.declared.reply.Errno.TheVariants.{Eacces, Ebusy, Eexist, Einval, Eisdir, Enametoolong, Enoent, Enotdir, Enotempty, Eperm}
use Rattle.fal_base.specs.declared.inode.Inode.{Inode}
use Rattle.fal_base.specs.declared.key.Key.{Key}
use Rattle.fal_base.specs.declared.op.Op.{Op}
use Rattle.fal_base.specs.declared.op.Op.TheVariants as op
use Rattle.fal_base.specs.declared.reply.Reply.{Reply}
use Rattle.fal_base.specs.declared.reply.Reply.TheVariants.{Fine, Fail, Stat, Names}
use Rattle.fal_base.specs.declared.path.PathArg.{PathArg}
use Rattle.fal_base.specs.declared.path.PathArg.TheVariants.{Good, Bad}
use Rattle.fal_base.specs.declared.path.PathFault.{PathFault}
use Rattle.fal_base.specs.declared.path.PathFault.TheVariants.{Relative, TooLong, NameTooLong, Dot, ZeroByte, OutOfMemory}
use Rattle.fal_base.specs.Tree.{Tree, row_at, names_under, same_key}
use Rattle.fal_base.specs.Walk.{Walked, Stop, Ready, walk, is_dir, grants}

-- the errno of a broken path rule (want of memory is no rule, and no call holds it)
abbrev pub errno_of : PathFault → Errno
errno_of TooLong = Enametoolong
errno_of NameTooLong = Enametoolong
errno_of Relative = Einval
errno_of Dot = Einval
errno_of ZeroByte = Einval
errno_of OutOfMemory = Einval

-- a bad path is answered before anything else
abbrev pub named : PathArg → (List (List ℕ) → Reply) → Reply
named (Bad fault raw) go = Fail (errno_of fault)
named (Good names) go = go names

-- the walk's errno, or on with what it found
abbrev pub walked : Walked → (Option Inode → List ℕ → Key → Reply) → Reply
walked (Stop errno) go = Fail errno
walked (Ready parent passed last) go = go parent passed last

abbrev pub found : Option Inode → (Inode → Reply) → Reply
found None go = Fail Enoent
found (Some inode) go = go inode

-- the errno of the first check that fails, or else the reply
abbrev pub checked : List (Bool × Errno) → Reply → Reply
checked [] reply = reply
checked (check ∷ checks) reply = if check.0 then Fail check.1 else checked checks reply

-- a parent grants nothing less where there is none, above the root
abbrev pub parent_grants : Cred → ℕ → Option Inode → Bool
parent_grants cred want None = true
parent_grants cred want (Some dir) = grants cred want dir

abbrev pub has_entries : Tree → Inode → Bool
has_entries tree dir = nat_lt 0 (length (names_under tree dir.ino))

abbrev pub is_root : List (List ℕ) → Bool
is_root names = length names == 0

-- the walk of a good path, and then what stands under its last key
abbrev pub reached : Tree → Cred → PathArg → (Option Inode → Key → Option Inode → Reply) → Reply
reached tree cred path go = named path (λ names. walked (walk tree cred names) (λ parent passed last. go parent last (row_at tree last)))

-- a new row: nothing may stand there, and the parent has to grant writing
abbrev pub make_answer : Tree → Cred → PathArg → Reply
make_answer tree cred path = reached tree cred path (λ parent last row.
    checked ((is_some row, Eexist) ∷ (not (parent_grants cred 2 parent), Eacces) ∷ []) Fine)

-- what is answered about the inode that a path names
abbrev pub inode_answer : Tree → Cred → PathArg → (Inode → Reply) → Reply
inode_answer tree cred path go = reached tree cred path (λ parent last row. found row go)

-- a file's row goes
abbrev pub unlink_answer : Tree → Cred → PathArg → Reply
unlink_answer tree cred path = reached tree cred path (λ parent last row. found row (λ inode.
    checked ((not (parent_grants cred 2 parent), Eacces) ∷ (is_dir inode, Eperm) ∷ []) Fine))

-- an empty directory's row goes
abbrev pub rmdir_answer : Tree → Cred → PathArg → Reply
rmdir_answer tree cred path = named path (λ names. if is_root names then Fail Ebusy else
    reached tree cred path (λ parent last row. found row (λ inode.
    checked ((not (parent_grants cred 2 parent), Eacces) ∷ (not (is_dir inode), Enotdir) ∷ (has_entries tree inode, Enotempty) ∷ []) Fine)))

-- what stands in the way of a move onto what is there
abbrev pub replace_answer : Tree → Inode → Option Inode → Reply
replace_answer tree moved None = Fine
replace_answer tree moved (Some there) = checked
    ((not (is_dir moved) && is_dir there, Eisdir) ∷ (is_dir moved && not (is_dir there), Enotdir) ∷ (is_dir there && has_entries tree there, Enotempty) ∷ []) Fine

-- a row moves: both walks, what is to move, then the same key, then the checks of both parents
abbrev pub rename_answer : Tree → Cred → PathArg → PathArg → Reply
rename_answer tree cred old new = named old (λ from. named new (λ to.
    if is_root from || is_root to then Fail Ebusy else
    walked (walk tree cred from) (λ old_parent old_passed old_last.
    walked (walk tree cred to) (λ new_parent new_passed new_last.
    found (row_at tree old_last) (λ moved.
    if same_key old_last new_last then Fine else
    checked ((not (parent_grants cred 2 old_parent && parent_grants cred 2 new_parent), Eacces)
    ∷ (is_dir moved && list_any (λ ino. ino == moved.ino) new_passed, Einval) ∷ [])
    (replace_answer tree moved (row_at tree new_last)))))))

-- the reply to a call. A change of placement is no matter of the tree: what stands for it here is a mere filler
abbrev pub answer : Tree → Cred → Op → Reply
answer tree cred (op.Mkdir path mode) = make_answer tree cred path
answer tree cred (op.Create path mode) = make_answer tree cred path
answer tree cred (op.Stat path) = inode_answer tree cred path (λ inode. Stat inode)
answer tree cred (op.Access path want) = inode_answer tree cred path (λ inode. checked ((not (grants cred want inode), Eacces) ∷ []) Fine)
answer tree cred (op.Chmod path mode) = inode_answer tree cred path (λ inode. checked ((not (cred.uid == 0 || cred.uid == inode.uid), Eperm) ∷ []) Fine)
answer tree cred (op.Chown path uid gid) = inode_answer tree cred path (λ inode. checked ((not (cred.uid == 0), Eperm) ∷ []) Fine)
answer tree cred (op.Truncate path size) = inode_answer tree cred path (λ inode. checked ((is_dir inode, Eisdir) ∷ (not (grants cred 2 inode), Eacces) ∷ []) Fine)
answer tree cred (op.Unlink path) = unlink_answer tree cred path
answer tree cred (op.Rmdir path) = rmdir_answer tree cred path
answer tree cred (op.Rename old new) = rename_answer tree cred old new
answer tree cred (op.List path) = inode_answer tree cred path (λ inode. checked ((not (is_dir inode), Enotdir) ∷ (not (grants cred 4 inode), Eacces) ∷ []) (Names (names_under tree inode.ino)))
answer tree cred (op.Place name rule) = Fine
