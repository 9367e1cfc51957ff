use Rattle.std.proofs.Common.{arith, set, ap, ◌∙◌}
use Rattle.fal_wait.specs.declared.waiting_call.WaitingCall.{WaitingCall}
use Rattle.fal_wait.specs.Waiting.{off_fetch}
use Rattle.fal_wait.proofs.Steps.{change_more}
use Rattle.fal_wait.proofs.waiting_call.free_waiters.Goals as goal

pub loop-waiting-preserved : goal.loop-waiting-preserved
loop-waiting-preserved c =
    let more = change_more (λ w. off_fetch c.args.number w) c.args.calls.now c.loop-waiting.calls c.loop-waiting.waiting-index c.waiting-item.result c.loop-waiting.invariant (omega arith) in
    ap (λ (w : WaitingCall). set c.loop-waiting.calls c.loop-waiting.waiting-index w) c.unbind.ensures ∙ more
