-- The paths of an operation of the coordinator.
use Rattle.std.proofs.Common.{◌<◌, ◌≤◌, length, refl, arith}
use Rattle.std.specs.Prelude.{IsTrue}
use Rattle.fal_base.specs.declared.op.Op.{Op}
use Rattle.fal_base.specs.declared.op.Op.TheVariants as op
use Rattle.fal_base.specs.declared.path.PathArg.TheVariants.{Good}
use Rattle.fal_coord.specs.Walks.{is_walking, walked_paths}
use Rattle.fal_wire.specs.Ops.{path_and_mode, path_and_owner, two_paths, op_field}
use Rattle.fal_story.proofs.Lists.Each.{Each}
use Rattle.fal_story.proofs.Ranges.FateRanges.{NamesFit, path_fit}

-- there are one or two where they are walked
pub few_paths : (call : Op) → IsTrue (is_walking call) → (0 < length (walked_paths call)) × (length (walked_paths call) ≤ 2)
few_paths (op.Chmod (Good path) mode) is = (omega arith, omega arith)
few_paths (op.Chown (Good path) uid gid) is = (omega arith, omega arith)
few_paths (op.Rmdir (Good path)) is = (omega arith, omega arith)
few_paths (op.Rename (Good old) (Good new)) is = (omega arith, omega arith)
few_paths other is = absurd (cc)

pub paths_named : (call : Op) → op_field.Fits call → Each NamesFit (walked_paths call)
unfolding op_field path_and_mode path_and_owner two_paths
paths_named (op.Chmod (Good path) mode) fits = (path_fit (Good path) path refl fits.0, tt)
paths_named (op.Chown (Good path) uid gid) fits = (path_fit (Good path) path refl fits.0, tt)
paths_named (op.Rmdir (Good path)) fits = (path_fit (Good path) path refl fits, tt)
paths_named (op.Rename (Good old) (Good new)) fits = (path_fit (Good old) old refl fits.0, (path_fit (Good new) new refl fits.1, tt))
paths_named other fits = tt
