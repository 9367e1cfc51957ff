use Rattle.std.proofs.Common.{rules, sym, subst}
use Rattle.fal_story.specs.Told.{Told}
use Rattle.fal_alone.specs.Whole.{IsWhole}
use Rattle.fal_alone.proofs.Openings.{whole_opens}
use Rattle.fal_alone.proofs.cluster.Cluster.new.Goals as goal

pub invariant_of-result : goal.invariant_of-result
invariant_of-result c =
    let clients = c.in_ok-clients.clients.items in
    let nodes = c.in_ok-nodes.nodes.items in
    let coord = c.new-coord.result.state in
    let queues = c.in_ok-queues.queues.items in
    subst (λ (told : Told). IsWhole told.config told.events clients nodes coord queues) (sym c.new.ensures)
    (whole_opens c.args.config clients nodes coord queues c.in_ok-clients.ensures.count c.in_ok-clients.ensures.are c.in_ok-nodes.ensures.count c.in_ok-nodes.ensures.are c.new-coord.ensures (search rules) c.in_ok-queues.ensures.are)
