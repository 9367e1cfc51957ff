use Rattle.std.proofs.Common.{sym, subst}
use Rattle.fal_node_tests.specs.Resting.{IsResting}
use Rattle.fal_node_tests.proofs.Rests.{resting_opening}
use Rattle.fal_node_tests.proofs.hearings.new_coord.Goals as goal

pub returns : goal.returns
returns c = subst (λ coord. IsResting coord) (sym c.new.ensures) (resting_opening 3)
