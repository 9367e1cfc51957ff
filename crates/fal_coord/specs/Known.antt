-- What the coordinator's walks meet: its replica, with the directory that it is about to learn.
use Rattle.std.specs.Prelude.{ℕ, List, ◌++◌, Option, Some, None}
use Rattle.fal_base.specs.Maps.{with_value}
use Rattle.fal_dentry.specs.Walk as replica
use Rattle.fal_dentry.specs.Walk.{Dentries, ReplicaWalk}
use Rattle.fal_coord.specs.declared.paths_walk.PathsWalk.{PathsWalk}
use Rattle.fal_coord.specs.declared.paths_walk.PathsWalk.TheVariants as paths
use Rattle.fal_coord.specs.declared.walks.Learned.{Learned}
use Rattle.fal_coord.specs.declared.walks.WalkEnd.{WalkEnd}
use Rattle.fal_coord.specs.declared.walks.WalkEnd.TheVariants as end
use Rattle.fal_coord.specs.Walks.{with_walk}

abbrev pub with_learned : Dentries → Option Learned → Dentries
with_learned entries None = entries
with_learned entries (Some learned) = with_value entries learned.key learned.dentry

-- how a path's walk ends that has passed directories with these numbers before
abbrev pub ended : List ℕ → ReplicaWalk → WalkEnd
ended inos (replica.Shut key) = end.Lacking key
ended inos (replica.Missing key keys) = end.Lacking key
ended inos (replica.Stop errno keys) = end.Stopped errno
ended inos (replica.Ready parent more keys) = end.Ready (record { parent = parent; inos = inos ++ more })

-- where a path is ready, the rest follows
abbrev pub joined : WalkEnd → PathsWalk → PathsWalk
joined (end.Stopped errno) rest = paths.Stopped errno
joined (end.Lacking key) rest = paths.Lacking key
joined (end.Ready walk) rest = with_walk walk rest
