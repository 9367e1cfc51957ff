-- The calls of a batch run on a node as they do on its rows.
use Rattle.std.proofs.Common.{◌≡◌, ℕ, List, [], ◌∷◌, refl, sym, ap, ◌∙◌, subst}
use Rattle.fal_run.specs.declared.call.BatchCall.{BatchCall}
use Rattle.fal_run.specs.declared.run.Run.{Run}
use Rattle.fal_run.specs.Work.{RowWork, begun_on, run_one, run_all, made_by, IsRunWithin}
use Rattle.fal_node.specs.State.{NodeState}
use Rattle.fal_node.specs.Letters.{begun}
use Rattle.fal_node.specs.Exec.{with_executed, with_row_work, exec_as, exec_one, exec_all}
use Rattle.fal_node.specs.Patch.{with_rows}
use Rattle.fal_node.specs.Runs.{run_work}
use Rattle.fal_node.specs.Step.{IsWithin}

exec_all_is : (n : NodeState) (w : RowWork) (calls : List BatchCall) → exec_all (with_row_work n w) calls ≡ with_row_work n (run_all n.number w calls)
unfolding exec_one exec_as run_one
exec_all_is n w [] = refl
exec_all_is n w (p ∷ ps) = exec_all_is n (run_one n.number w p) ps

batch_is : (n : NodeState) (batch : ℕ) (calls : List BatchCall)
    → exec_all (begun (with_executed n batch)) calls ≡ with_row_work (with_executed n batch) (run_all n.number (begun_on n.rows n.drawn) calls)
unfolding with_executed
batch_is n batch calls = exec_all_is (with_executed n batch) (begun_on n.rows n.drawn) calls

-- what is within the ranges of a node is so of its rows
pub run_within : (n : NodeState) (batch : ℕ) (calls : List BatchCall) → IsWithin (exec_all (begun (with_executed n batch)) calls) → IsRunWithin n.number (run_all n.number (begun_on n.rows n.drawn) calls)
unfolding with_executed
run_within n batch calls within =
    let here = subst IsWithin (batch_is n batch calls) within in
    record { records = here.records; numbers = here.numbers; commits = here.commits }

-- a run of the whole batch is the batch's work
pub run_is : (n : NodeState) (batch : ℕ) (calls : List BatchCall) (run : Run) → made_by n.rows n.drawn run ≡ run_all n.number (begun_on n.rows n.drawn) calls
    → run_work n batch run ≡ exec_all (begun (with_executed n batch)) calls
unfolding with_executed with_rows
run_is n batch calls run made = ap (with_row_work (with_executed n batch)) made ∙ sym (batch_is n batch calls)
