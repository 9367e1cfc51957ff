use Rattle.std.proofs.Common.{Err, ap, ◌∙◌, subst}
use Rattle.std.proofs.lemmas.Result.{on_ok_weaker}
use Rattle.fal_base.specs.declared.event.Event.TheVariants.{Send}
use Rattle.fal_story.specs.Run.{IsLegal}
use Rattle.fal_story.specs.Told.{Told}
use Rattle.falcon_run.proofs.Serials.{one_sent}
use Rattle.falcon_run.proofs.ServedLines.{never_refused}
use Rattle.falcon_run.proofs.serving.serve_call.Goals as goal

pub unreachable-requires : goal.unreachable-requires
unreachable-requires c =
    let config = c.args.cluster.now.config in
    let events = c.args.cluster.now.events in
    let legal = subst (λ (t : Told). IsLegal t.config t.events) c.book.ensures c.legal.ensures in
    never_refused config events (Send c.args.lane) (c.answered_lanes_send.ensures config events c.args.lane legal c.requires.answered c.requires.left)
    (c.step.ensures.refused.0 (c.in-Err-NotEnabled.is ∙ ap Err c.in-Err-NotEnabled.field-0-is))

pub returns-in-Ok-clause-sent : goal.returns-in-Ok-clause-sent
returns-in-Ok-clause-sent c =
    on_ok_weaker c.drain.result
    (λ drains other. one_sent c.args.cluster.now c.step.new.self c.drain.new.self c.args.lane other c.in-Ok.ensures.ok (λ config events more drained. c.sends_are_recorded.ensures.drained config events more other drained) drains)
    c.drain.ensures.drained
