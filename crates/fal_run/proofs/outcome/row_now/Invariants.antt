use Rattle.std.proofs.Common.{◌≡◌, take}
use Rattle.fal_base.specs.Tree.{row_at}
use Rattle.fal_run.specs.Rows.{rows_changed}
use Rattle.fal_run.proofs.outcome.row_now.Given as goal

abbrev pub invariant-loop-change : goal.invariant-loop-change
invariant-loop-change l = l.found ≡ row_at (rows_changed l.rows.rows (take l.change-index l.changes)) l.key
