use Rattle.std.proofs.Common.{arith}
use Rattle.fal_node_tests.proofs.Stays.{older}
use Rattle.fal_node_tests.proofs.deliveries.effects.Goals as goal

pub effect_of-requires-2 : goal.effect_of-requires-2
effect_of-requires-2 c = older 1 8 c.effect_of.new.node.state (omega arith) (c.effect_of.ensures 0 c.in_ok-node.ensures)
