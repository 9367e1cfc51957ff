-- The walk of a path, from the root to the directory of its last name: pathname resolution (POSIX.1-2017, XBD 4.13).
-- At each directory it first needs search permission, then looks up the next key, then needs a directory there.
use Rattle.std.specs.Prelude.{ℕ, Bool, true, false, List, [], ◌∷◌, Option, Some, None, if◌then◌else◌}
use Rattle.fal_base.specs.declared.call.Cred.{Cred}
use Rattle.fal_base.specs.declared.reply.Errno.{Errno}
use Rattle.fal_base.specs.declared.reply.Errno.TheVariants.{Eacces, Enoent, Enotdir}
use Rattle.fal_base.specs.declared.inode.Dentry.{Dentry}
use Rattle.fal_base.specs.declared.inode.Inode.{Inode}
use Rattle.fal_base.specs.declared.key.Key.{Key}
use Rattle.fal_base.specs.declared.inode.Kind.TheVariants.{Dir, File}
use Rattle.fal_base.specs.Permission.{may}
use Rattle.fal_base.specs.Tree.{Tree, row_at, key_of, root_key}

-- where a walk ends
pub data Walked : Type 0 where
  Stop : Errno → Walked
  -- the parent, the numbers of the directories passed, and the last key
  Ready : Option Inode → List ℕ → Key → Walked

abbrev pub is_dir : Inode → Bool
is_dir inode = elim inode.kind [ Dir ↦ true | File ↦ false ]

-- whether the caller may do all that is wanted: 4 to read, 2 to write, 1 to search
abbrev pub grants : Cred → ℕ → Inode → Bool
grants cred want inode = may cred.uid cred.gid inode.mode inode.uid inode.gid want

-- what a replica keeps of a directory
abbrev pub dentry_of : Inode → Dentry
dentry_of inode = record { ino = inode.ino; mode = inode.mode; uid = inode.uid; gid = inode.gid }

abbrev pub dentry_grants : Cred → ℕ → Dentry → Bool
dentry_grants cred want dentry = may cred.uid cred.gid dentry.mode dentry.uid dentry.gid want

-- the same of a path's parent: there is none above the root, and then nothing is refused
abbrev pub kept_grants : Cred → ℕ → Option Dentry → Bool
kept_grants cred want None = true
kept_grants cred want (Some dir) = dentry_grants cred want dir

-- the walk has passed one more directory
abbrev pub passing : ℕ → Walked → Walked
passing ino (Stop errno) = Stop errno
passing ino (Ready parent passed last) = Ready parent (ino ∷ passed) last

-- on into what stands there, where it is a directory
abbrev pub into : Option Inode → (Inode → Walked) → Walked
into None go = Stop Enoent
into (Some inode) go = if is_dir inode then go inode else Stop Enotdir

-- from a directory on
abbrev pub walk_from : Tree → Cred → Inode → List (List ℕ) → Walked
walk_from tree cred dir [] = Ready None [] root_key
walk_from tree cred dir (name ∷ []) = if grants cred 1 dir then Ready (Some dir) (dir.ino ∷ []) (key_of dir.ino name) else Stop Eacces
walk_from tree cred dir (name ∷ next ∷ names) =
    if grants cred 1 dir then into (row_at tree (key_of dir.ino name)) (λ inner. passing dir.ino (walk_from tree cred inner (next ∷ names))) else Stop Eacces

-- no name: ready at the root's key, without a parent
abbrev pub walk : Tree → Cred → List (List ℕ) → Walked
walk tree cred [] = Ready None [] root_key
walk tree cred (name ∷ names) = into (row_at tree root_key) (λ root. walk_from tree cred root (name ∷ names))
