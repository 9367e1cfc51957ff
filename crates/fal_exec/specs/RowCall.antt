-- The calls that one row decides: those with one path, other than rmdir, whose path is good.
use Rattle.std.specs.Prelude.{ℕ, Bool, true, false, List, Option, None, if◌then◌else◌}
use Rattle.fal_base.specs.declared.op.Op.{Op}
use Rattle.fal_base.specs.declared.op.Op.TheVariants as op
use Rattle.fal_base.specs.OpPaths.{op_names}

-- whether it is a rmdir, which asks for the rows under its directory, too
abbrev pub is_rmdir : Op → Bool
is_rmdir (op.Rmdir path) = true
is_rmdir other = false

-- the names of the path of such a call, and none for any other call
abbrev pub row_names : Op → Option (List (List ℕ))
row_names call = if is_rmdir call then None else op_names call
