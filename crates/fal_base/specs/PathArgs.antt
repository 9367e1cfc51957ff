-- What bytes mean as the path of a call: a good path, or the rule that they break and the bytes themselves.
-- Which paths are read so.
use Rattle.std.specs.Prelude.{◌≡◌, ℕ, List, Option, None, Some, Result, Ok, Err}
use Rattle.fal_base.specs.declared.path.PathFault.{PathFault}
use Rattle.fal_base.specs.declared.path.PathArg.{PathArg}
use Rattle.fal_base.specs.declared.path.PathArg.TheVariants.{Good, Bad}
use Rattle.fal_base.specs.Paths.{path_of}

abbrev pub arg_of : List ℕ → Result (List (List ℕ)) PathFault → PathArg
arg_of bytes (Ok names) = Good names
arg_of bytes (Err fault) = Bad fault bytes

abbrev pub path_arg_of : List ℕ → PathArg
path_arg_of bytes = arg_of bytes (path_of bytes)

abbrev pub err_of : Result (List (List ℕ)) PathFault → Option PathFault
err_of (Ok names) = None
err_of (Err fault) = Some fault

-- the lowest rule that the bytes break, where they break one
abbrev pub fault_in : List ℕ → Option PathFault
fault_in bytes = err_of (path_of bytes)

-- where the path is bad, its fault is that of its bytes
abbrev pub IsRead : PathArg → Type 0
IsRead (Good names) = Unit
IsRead (Bad fault raw) = fault_in raw ≡ Some fault
