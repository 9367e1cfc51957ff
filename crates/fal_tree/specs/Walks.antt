-- How the walk over the rows of a plain tree stands to the walk of the definition.
use Rattle.std.specs.Prelude.{ℕ, List, ◌++◌, Option, Some, None, Result, Ok, Err, if◌then◌else◌}
use Rattle.fal_base.specs.declared.inode.Inode.{Inode}
use Rattle.fal_base.specs.declared.reply.Errno.{Errno}
use Rattle.fal_base.specs.declared.reply.Errno.TheVariants.{Enoent, Enotdir}
use Rattle.fal_base.specs.Walk.{Walked, is_dir}
use Rattle.fal_base.specs.Walk as walk
use Rattle.fal_tree.specs.declared.walk.Reached.{Reached}
use Rattle.fal_tree.specs.declared.walk.Reached.TheVariants.{Stop, Ready}

abbrev pub walked_of : Reached → Walked
walked_of (Stop errno) = walk.Stop errno
walked_of (Ready parent passed last) = walk.Ready parent passed last

-- the directory that stands there, or why there is none
abbrev pub directory_of : Option Inode → Result Inode Errno
directory_of None = Err Enoent
directory_of (Some inode) = if is_dir inode then Ok inode else Err Enotdir

-- a walk that had passed these directories before
abbrev pub having_passed : List ℕ → Walked → Walked
having_passed before (walk.Stop errno) = walk.Stop errno
having_passed before (walk.Ready parent passed last) = walk.Ready parent (before ++ passed) last
