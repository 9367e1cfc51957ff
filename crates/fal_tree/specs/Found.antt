-- What a path names in a tree, and what stands in the way of a move.
use Rattle.std.specs.Prelude.{ℕ, not, ◌&&◌, List, [], ◌∷◌, Option, Some, None, Result, Ok, Err, if◌then◌else◌, ◌==◌}
use Rattle.std.specs.List.{list_any}
use Rattle.fal_base.specs.declared.call.Cred.{Cred}
use Rattle.fal_base.specs.declared.inode.Inode.{Inode}
use Rattle.fal_base.specs.declared.key.Key.{Key}
use Rattle.fal_base.specs.declared.reply.Errno.{Errno}
use Rattle.fal_base.specs.declared.reply.Errno.TheVariants.{Eacces, Einval, Enoent, Enotdir, Enotempty}
use Rattle.fal_base.specs.declared.reply.Reply.{Reply}
use Rattle.fal_base.specs.declared.reply.Reply.TheVariants.{Fine, Fail}
use Rattle.fal_base.specs.Tree.{Tree, row_at, same_key}
use Rattle.fal_base.specs.Walk.{Walked, Stop, Ready, walk, is_dir}
use Rattle.fal_base.specs.Answer.{checked, found, parent_grants, has_entries, replace_answer}

abbrev pub row_or : Option Inode → Result Inode Errno
row_or None = Err Enoent
row_or (Some inode) = Ok inode

abbrev pub ended_at : Tree → Walked → Result Inode Errno
ended_at tree (Stop errno) = Err errno
ended_at tree (Ready parent passed last) = row_or (row_at tree last)

-- the inode that the names lead to, or the errno of the walk or of its end
abbrev pub inode_at : Tree → Cred → List (List ℕ) → Result Inode Errno
inode_at tree cred names = ended_at tree (walk tree cred names)

abbrev pub reply_found : Result Inode Errno → (Inode → Reply) → Reply
reply_found (Ok inode) go = go inode
reply_found (Err errno) go = Fail errno

-- a rename after both walks
abbrev pub move_answer : Tree → Cred → Option Inode → Key → Option Inode → List ℕ → Key → Reply
move_answer tree cred old_parent old_last new_parent passed new_last = found (row_at tree old_last) (λ moved.
    if same_key old_last new_last then Fine else
    checked ((not (parent_grants cred 2 old_parent && parent_grants cred 2 new_parent), Eacces)
    ∷ (is_dir moved && list_any (λ ino. ino == moved.ino) passed, Einval) ∷ [])
    (replace_answer tree moved (row_at tree new_last)))

-- a rmdir of the row that stands there
abbrev pub removal_answer : Tree → Cred → Option Inode → Inode → Reply
removal_answer tree cred parent inode =
    checked ((not (parent_grants cred 2 parent), Eacces) ∷ (not (is_dir inode), Enotdir) ∷ (has_entries tree inode, Enotempty) ∷ []) Fine
