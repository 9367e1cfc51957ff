-- The calls of a batch are executed, in their order, on rows as the earlier ones left them.
use Rattle.std.specs.Prelude.{ℕ, true, List, [], ◌∷◌, map, Option, None, Some, ◌==◌, if◌then◌else◌}
use Rattle.fal_exec.specs.declared.outcome.ExecOut.{ExecOut}
use Rattle.fal_run.specs.declared.call.BatchCall.{BatchCall}
use Rattle.fal_run.specs.Calls.{call_outcome}
use Rattle.fal_run.specs.Work.{RowWork, run_as}
use Rattle.fal_node.specs.declared.batch.Batch.{Batch}
use Rattle.fal_node.specs.State.{NodeState}
use Rattle.fal_node.specs.Letters.{Work, begun}

-- the batch with this number is executed
abbrev pub as_executed : ℕ → Batch → Batch
as_executed number batch = if batch.number == number then record batch { executed = true } else batch

-- the batch is executed, and keeps its keys
unfoldable pub with_executed : NodeState → ℕ → NodeState
with_executed node number = record node { batches = map (as_executed number) node.batches }

-- the work so far, of the rows alone
abbrev pub on_rows : Work → RowWork
on_rows work = record { rows = work.node.rows; drawn = work.node.drawn; sent = work.sent; notes = work.notes }

-- the node with what was made of its rows
abbrev pub with_row_work : NodeState → RowWork → Work
with_row_work node made = record { node = record node { rows = made.rows; drawn = made.drawn }; sent = made.sent; notes = made.notes }

-- the call is done, with this outcome
unfoldable pub exec_as : Work → BatchCall → ExecOut → Work
exec_as work planned outcome = with_row_work work.node (run_as work.node.number (on_rows work) planned outcome)

unfoldable pub exec_one : Work → BatchCall → Work
exec_one work planned = exec_as work planned (call_outcome work.node.number work.node.rows work.node.drawn planned)

abbrev pub exec_all : Work → List BatchCall → Work
exec_all work [] = work
exec_all work (planned ∷ calls) = exec_all (exec_one work planned) calls

unfoldable pub executed : NodeState → ℕ → Batch → Work
executed node number batch = exec_all (begun (with_executed node number)) batch.calls

-- the batch is there, and not executed
abbrev pub execute : NodeState → ℕ → Option Batch → Option Work
execute node number None = None
execute node number (Some batch) = if batch.executed then None else Some (executed node number batch)
