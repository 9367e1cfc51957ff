use Rattle.std.proofs.Common.{sym, subst, arith}
use Rattle.fal_node_tests.specs.Young.{IsYoung}
use Rattle.fal_node_tests.proofs.Stays.{young_opening}
use Rattle.fal_node_tests.proofs.deliveries.new_node.Goals as goal

pub returns : goal.returns
returns c = subst (λ node. IsYoung 0 node) (sym c.in_ok-node.ensures) (young_opening 1 3 4 (omega arith))
