-- The work of a batch whose calls were run.
use Rattle.std.specs.Prelude.{ℕ}
use Rattle.fal_run.specs.declared.run.Run.{Run}
use Rattle.fal_node.specs.State.{NodeState}
use Rattle.fal_node.specs.Letters.{Work}
use Rattle.fal_node.specs.Exec.{with_executed}
use Rattle.fal_node.specs.Patch.{with_rows}

-- the batch is executed, and its rows are as the run has changed them
abbrev pub run_work : NodeState → ℕ → Run → Work
run_work node batch run = record { node = with_rows (with_executed node batch) run.changes.items run.drawn; sent = run.letters.items; notes = run.notes.items }
