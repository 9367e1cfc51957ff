-- Which calls make a commit, and the tree that a commit leaves.
use Rattle.std.specs.Prelude.{ℕ, Bool, true, false, not, ◌&&◌, Some, None}
use Rattle.fal_base.specs.declared.call.Cred.{Cred}
use Rattle.fal_base.specs.declared.inode.Inode.{Inode}
use Rattle.fal_base.specs.declared.key.Key.{Key}
use Rattle.fal_base.specs.declared.inode.Kind.{Kind}
use Rattle.fal_base.specs.declared.inode.Kind.TheVariants.{Dir, File}
use Rattle.fal_base.specs.declared.op.Op.{Op}
use Rattle.fal_base.specs.declared.op.Op.TheVariants as op
use Rattle.fal_base.specs.declared.reply.Reply.{Reply}
use Rattle.fal_base.specs.declared.reply.Reply.TheVariants.{Fine, Fail, Stat, Names}
use Rattle.fal_base.specs.declared.path.PathArg.{PathArg}
use Rattle.fal_base.specs.declared.path.PathArg.TheVariants.{Good, Bad}
use Rattle.fal_base.specs.Tree.{Tree, row_at, with_row, without_row, same_key, root_key}
use Rattle.fal_base.specs.Walk.{Stop, Ready, walk}
use Rattle.fal_base.specs.Answer.{answer}

abbrev pub is_fine : Reply → Bool
is_fine Fine = true
is_fine (Fail errno) = false
is_fine (Stat inode) = false
is_fine (Names names) = false

-- where a path's walk ends, or the root's key where it does not
abbrev pub last_key_of : Tree → Cred → PathArg → Key
last_key_of tree cred (Bad fault raw) = root_key
last_key_of tree cred (Good names) = elim (walk tree cred names) [ Stop errno ↦ root_key | Ready parent passed last ↦ last ]

-- the eight operations that change the tree where they are answered Fine; a rename onto the same key changes nothing
abbrev pub changes : Tree → Cred → Op → Bool
changes tree cred (op.Mkdir path mode) = true
changes tree cred (op.Create path mode) = true
changes tree cred (op.Stat path) = false
changes tree cred (op.Access path want) = false
changes tree cred (op.Chmod path mode) = true
changes tree cred (op.Chown path uid gid) = true
changes tree cred (op.Truncate path size) = true
changes tree cred (op.Unlink path) = true
changes tree cred (op.Rmdir path) = true
changes tree cred (op.Rename old new) = not (same_key (last_key_of tree cred old) (last_key_of tree cred new))
changes tree cred (op.List path) = false
changes tree cred (op.Place name rule) = false

-- whether the call makes a commit
abbrev pub makes : Tree → Cred → Op → Bool
makes tree cred op = changes tree cred op && is_fine (answer tree cred op)

-- the row of a new file or directory: the caller's, with the mode given and size 0
abbrev pub new_row : Cred → Kind → ℕ → ℕ → Inode
new_row cred kind mode ino = record { ino = ino; kind = kind; mode = mode; uid = cred.uid; gid = cred.gid; size = 0 }

-- the row under a key, changed
abbrev pub update : Tree → Key → (Inode → Inode) → Tree
update tree key f = elim (row_at tree key) [ None ↦ tree | Some inode ↦ with_row tree key (f inode) ]

-- what stands under one key stands under another one, in place of what was there
abbrev pub move : Tree → Key → Key → Tree
move tree from to = elim (row_at tree from) [ None ↦ tree | Some inode ↦ with_row (without_row tree from) to inode ]

-- the tree after the call, where it makes a commit; a new row has this number
abbrev pub change : Tree → Cred → Op → ℕ → Tree
change tree cred (op.Mkdir path mode) ino = with_row tree (last_key_of tree cred path) (new_row cred Dir mode ino)
change tree cred (op.Create path mode) ino = with_row tree (last_key_of tree cred path) (new_row cred File mode ino)
change tree cred (op.Stat path) ino = tree
change tree cred (op.Access path want) ino = tree
change tree cred (op.Chmod path mode) ino = update tree (last_key_of tree cred path) (λ inode. record inode { mode = mode })
change tree cred (op.Chown path uid gid) ino = update tree (last_key_of tree cred path) (λ inode. record inode { uid = uid; gid = gid })
change tree cred (op.Truncate path size) ino = update tree (last_key_of tree cred path) (λ inode. record inode { size = size })
change tree cred (op.Unlink path) ino = without_row tree (last_key_of tree cred path)
change tree cred (op.Rmdir path) ino = without_row tree (last_key_of tree cred path)
change tree cred (op.Rename old new) ino = move tree (last_key_of tree cred old) (last_key_of tree cred new)
change tree cred (op.List path) ino = tree
change tree cred (op.Place name rule) ino = tree
