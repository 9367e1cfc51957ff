-- The paths of an operation, and their walks over the coordinator's replica.
use Rattle.std.specs.Prelude.{ℕ, Bool, false, ◌||◌, List, [], ◌∷◌, ◌++◌, map, Option, Some, None, is_some, unwrap_or, if◌then◌else◌}
use Rattle.fal_base.specs.declared.call.Cred.{Cred}
use Rattle.fal_base.specs.declared.inode.Dentry.{Dentry}
use Rattle.fal_base.specs.declared.key.Key.{Key}
use Rattle.fal_base.specs.declared.op.Op.{Op}
use Rattle.fal_base.specs.declared.op.Op.TheVariants as op
use Rattle.fal_base.specs.declared.path.PathArg.TheVariants.{Good}
use Rattle.fal_base.specs.Answer.{is_root}
use Rattle.fal_dentry.specs.TreeWalk.{last_key, last_name}
use Rattle.fal_dentry.specs.Walk as replica
use Rattle.fal_dentry.specs.Walk.{Dentries, ReplicaWalk, replica_walk, is_among}
use Rattle.fal_place.specs.Placement.{Placing}
use Rattle.fal_coord.specs.declared.paths_walk.PathsWalk.{PathsWalk}
use Rattle.fal_coord.specs.declared.paths_walk.PathsWalk.TheVariants.{Stopped, Lacking, Ready}
use Rattle.fal_coord.specs.declared.stage.PathWalk.{PathWalk}

-- ---- paths

-- the good paths of a chmod, chown, rmdir or rename, and none of any other call
abbrev pub operation_paths : Op → Option (List (List (List ℕ)))
operation_paths (op.Chmod (Good path) mode) = Some (path ∷ [])
operation_paths (op.Chown (Good path) uid gid) = Some (path ∷ [])
operation_paths (op.Rmdir (Good path)) = Some (path ∷ [])
operation_paths (op.Rename (Good old) (Good new)) = Some (old ∷ new ∷ [])
operation_paths other = None

-- whether it is an operation whose paths are walked
abbrev pub is_walking : Op → Bool
is_walking call = is_some (operation_paths call)

-- the name that a call places, and its rule
abbrev pub placing_of : Op → Option Placing
placing_of (op.Place name rule) = Some (record { name = name; rule = rule })
placing_of other = None

-- whether the coordinator carries the call out
abbrev pub is_operation : Op → Bool
is_operation call = is_walking call || is_some (placing_of call)

abbrev pub walked_paths : Op → List (List (List ℕ))
walked_paths call = unwrap_or (operation_paths call) []

-- whether it is a rmdir of the root, or a rename with a root path
abbrev pub is_busy : Op → Bool
is_busy (op.Rmdir (Good path)) = is_root path
is_busy (op.Rename (Good old) (Good new)) = is_root old || is_root new
is_busy other = false

-- ---- walks

-- one more path was walked before
abbrev pub with_walk : PathWalk → PathsWalk → PathsWalk
with_walk walk (Stopped errno) = Stopped errno
with_walk walk (Lacking key) = Lacking key
with_walk walk (Ready walks) = Ready (walk ∷ walks)

-- where a path is ready, the rest follows. No key is shut at the coordinator: a shut one stands here for one that is lacking
abbrev pub and_then : ReplicaWalk → PathsWalk → PathsWalk
and_then (replica.Shut key) rest = Lacking key
and_then (replica.Missing key keys) rest = Lacking key
and_then (replica.Stop errno keys) rest = Stopped errno
and_then (replica.Ready parent inos keys) rest = with_walk (record { parent = parent; inos = inos }) rest

-- the paths are walked in their order; the first that is not ready is how they end
abbrev pub walk_paths : Dentries → Cred → List (List (List ℕ)) → PathsWalk
walk_paths entries cred [] = Ready []
walk_paths entries cred (names ∷ paths) = and_then (replica_walk entries cred names []) (walk_paths entries cred paths)

-- ---- what the walks tell

-- the directory of each path's last name
abbrev pub parents_of : List PathWalk → List (Option Dentry)
parents_of walks = map (λ walk. walk.parent) walks

-- the numbers that the last of the walks passed; these where there is none
abbrev pub last_inos : List ℕ → List PathWalk → List ℕ
last_inos inos [] = inos
last_inos inos (walk ∷ walks) = last_inos walk.inos walks

-- the keys with one more, each once
abbrev pub with_key : List Key → Key → List Key
with_key keys key = if is_among key keys then keys else keys ++ key ∷ []

-- the keys with the last keys of the paths, each once
abbrev pub with_ends : List Key → List (List (List ℕ)) → List PathWalk → List Key
with_ends keys (names ∷ paths) (walk ∷ walks) = with_ends (with_key keys (last_key walk.parent (last_name names))) paths walks
with_ends keys paths walks = keys
