use Rattle.std.proofs.Common.{sym, ap, ◌∙◌}
use Rattle.std.specs.Prelude.{slice_get}
use Rattle.fal_alone.proofs.Pushes.{no_node}
use Rattle.fal_alone.proofs.fresh.first_of_nodes.Goals as goal

pub returns : goal.returns
returns c = ap (λ events. slice_get events 0) (sym (no_node c.loop-node.next c.loop-node.left.now c.loop-node.rest.now c.in_default.ensures.cases)) ∙ c.loop-node.invariant.first
