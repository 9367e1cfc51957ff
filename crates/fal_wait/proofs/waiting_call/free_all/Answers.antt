use Rattle.std.proofs.Common.{arith}
use Rattle.fal_wait.specs.Waiting.{unbound}
use Rattle.fal_wait.proofs.Steps.{change_more}
use Rattle.fal_wait.proofs.waiting_call.free_all.Goals as goal

pub loop-waiting-preserved : goal.loop-waiting-preserved
loop-waiting-preserved c = change_more unbound c.args.calls.now c.loop-waiting.calls c.loop-waiting.waiting-index c.waiting-item.result c.loop-waiting.invariant (omega arith)
