-- Which paths a record can hold.
use Rattle.std.specs.Prelude.{◌≡◌, None}
use Rattle.fal_base.specs.declared.op.Op.TheVariants as op
use Rattle.fal_base.specs.declared.path.PathArg.{PathArg}
use Rattle.fal_base.specs.OpPaths.{bad_path}
use Rattle.fal_base.specs.PathArgs.{IsRead}
use Rattle.fal_wire.specs.Names.{path_arg_field}

-- of the two paths of a rename, a bad one has the fault of its bytes, and where both are good a record can hold them
abbrev pub ArePathsHeld : PathArg → PathArg → Type 0
ArePathsHeld old new = IsRead old × IsRead new × (bad_path (op.Rename old new) ≡ None → path_arg_field.Fits old × path_arg_field.Fits new)
