use Rattle.std.proofs.Common.{◌+◌, sym, subst}
use Rattle.fal_node_tests.specs.Young.{IsYoung}
use Rattle.fal_node_tests.proofs.Stays.{delivery_stays, delivery_applied}
use Rattle.fal_node_tests.proofs.deliveries.take.Goals as goal

pub ready-requires : goal.ready-requires
ready-requires c = delivery_stays c.args.node.now.state c.args.event.now c.requires.delivery c.requires.young

pub returns : goal.returns
returns c n young =
    subst (λ node. IsYoung (n + 1) node) (sym c.apply.ensures)
    (delivery_applied n c.ready.new.self c.args.event.now c.in_ok-prepared.prepared c.requires.delivery c.in_ok-prepared.ensures.ok (subst (λ node. IsYoung n node) (sym c.ready.ensures.same) young))
