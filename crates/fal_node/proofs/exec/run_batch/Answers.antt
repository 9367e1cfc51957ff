use Rattle.std.proofs.Common.{◌≡◌, sym, subst}
use Rattle.std.proofs.lemmas.Result.{IfOk-weaker}
use Rattle.fal_run.specs.declared.run.Run.{Run}
use Rattle.fal_run.specs.Work.{begun_on, run_all, made_by, IsRunWithin}
use Rattle.fal_node.specs.Letters.{begun}
use Rattle.fal_node.specs.Exec.{with_executed, exec_all}
use Rattle.fal_node.specs.Patch.{SeenNode}
use Rattle.fal_node.specs.Runs.{run_work}
use Rattle.fal_node.proofs.Runs.{run_within, run_is}
use Rattle.fal_node.proofs.exec.run_batch.Goals as goal

pub run_calls-requires-clause-within : goal.run_calls-requires-clause-within
run_calls-requires-clause-within c =
    let calls = c.args.calls.now in
    subst (λ (s : SeenNode). IsRunWithin s.state.number (run_all s.state.number (begun_on s.state.rows s.state.drawn) calls)) (sym c.node.view_is)
    (run_within c.args.node.now.state c.args.number calls c.requires.within)

pub returns-clause-work : goal.returns-clause-work
returns-clause-work c =
    let calls = c.args.calls.now in
    IfOk-weaker c.run_calls.result _
    (λ (run : Run). run_work c.args.node.now.state c.args.number run ≡ exec_all (begun (with_executed c.args.node.now.state c.args.number)) calls)
    (λ run made.
    run_is c.args.node.now.state c.args.number calls run
    (subst (λ (s : SeenNode). made_by s.state.rows s.state.drawn run ≡ run_all s.state.number (begun_on s.state.rows s.state.drawn) calls) c.node.view_is made))
    c.run_calls.ensures.work
