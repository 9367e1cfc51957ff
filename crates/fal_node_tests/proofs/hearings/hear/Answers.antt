use Rattle.std.proofs.Common.{sym, subst}
use Rattle.fal_node_tests.specs.Resting.{IsResting}
use Rattle.fal_node_tests.proofs.Rests.{hearing_stays, hearing_applied}
use Rattle.fal_node_tests.proofs.hearings.hear.Goals as goal

pub ready-requires : goal.ready-requires
ready-requires c = hearing_stays c.args.coord.now.state c.args.event.now c.requires.hearing c.requires.resting

pub returns : goal.returns
returns c =
    subst (λ coord. IsResting coord) (sym c.apply.ensures)
    (hearing_applied c.ready.new.self c.args.event.now c.in_ok-prepared.prepared c.requires.hearing c.in_ok-prepared.ensures.ok (subst (λ coord. IsResting coord) (sym c.ready.ensures.same) c.requires.resting))
