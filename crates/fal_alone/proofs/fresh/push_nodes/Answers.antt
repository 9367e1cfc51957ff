use Rattle.std.proofs.Common.{sym, ap, ◌∙◌, ◌++◌}
use Rattle.std.proofs.lemmas.List.{append-nil}
use Rattle.fal_alone.proofs.Pushes.{no_node}
use Rattle.fal_alone.proofs.fresh.push_nodes.Goals as goal

pub returns : goal.returns
returns c =
    let events = c.loop-node.events.items in
    sym (append-nil events) ∙ ap (λ more. events ++ more) (sym (no_node c.loop-node.number c.loop-node.left.now c.loop-node.rest.now c.in_default.ensures.cases)) ∙ c.loop-node.invariant.whole
