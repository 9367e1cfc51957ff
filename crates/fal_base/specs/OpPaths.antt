-- The paths that an operation names, and the first fault among them.
use Rattle.std.specs.Prelude.{ℕ, List, [], ◌∷◌, Option, Some, None}
use Rattle.fal_base.specs.declared.op.Op.{Op}
use Rattle.fal_base.specs.declared.op.Op.TheVariants as op
use Rattle.fal_base.specs.declared.path.PathArg.{PathArg}
use Rattle.fal_base.specs.declared.path.PathArg.TheVariants.{Good, Bad}
use Rattle.fal_base.specs.declared.path.PathFault.{PathFault}

-- in their order: a rename has the old and the new one, a change of placement has none, and every other operation has one
abbrev pub paths_of : Op → List PathArg
paths_of (op.Mkdir path mode) = path ∷ []
paths_of (op.Create path mode) = path ∷ []
paths_of (op.Stat path) = path ∷ []
paths_of (op.Access path want) = path ∷ []
paths_of (op.Chmod path mode) = path ∷ []
paths_of (op.Chown path uid gid) = path ∷ []
paths_of (op.Truncate path size) = path ∷ []
paths_of (op.Unlink path) = path ∷ []
paths_of (op.Rmdir path) = path ∷ []
paths_of (op.Rename old new) = old ∷ new ∷ []
paths_of (op.List path) = path ∷ []
paths_of (op.Place name rule) = []

-- the names of a good path
abbrev pub good_names : PathArg → Option (List (List ℕ))
good_names (Good names) = Some names
good_names (Bad fault raw) = None

-- the names of the one path, where there is exactly one and it is good
abbrev pub only_names : List PathArg → Option (List (List ℕ))
only_names [] = None
only_names (path ∷ []) = good_names path
only_names (path ∷ next ∷ paths) = None

-- the rule that a path breaks
abbrev pub fault_of : PathArg → Option PathFault
fault_of (Good names) = None
fault_of (Bad fault raw) = Some fault

-- the first of two faults
abbrev pub first_of : Option PathFault → Option PathFault → Option PathFault
first_of None next = next
first_of (Some fault) next = Some fault

-- the rule that the first bad one of these paths breaks
abbrev pub first_fault : List PathArg → Option PathFault
first_fault [] = None
first_fault (path ∷ []) = fault_of path
first_fault (path ∷ next ∷ paths) = first_of (fault_of path) (first_fault (next ∷ paths))

-- the names of an operation's path, where it has exactly one and that is good
abbrev pub op_names : Op → Option (List (List ℕ))
op_names call = only_names (paths_of call)

-- the rule that the first bad path of an operation breaks
unfoldable pub bad_path : Op → Option PathFault
bad_path call = first_fault (paths_of call)
