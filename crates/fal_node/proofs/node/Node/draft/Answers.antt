use Rattle.std.proofs.Common.{subst}
use Rattle.fal_node.specs.declared.event.NodeEvent.{NodeEvent}
use Rattle.fal_node.specs.Step.{StaysWithin, node_step}
use Rattle.fal_node.proofs.node.Node.draft.Goals as goal

pub draft_gather-requires : goal.draft_gather-requires
draft_gather-requires c = subst (λ (e : NodeEvent). StaysWithin c.args.self.now.state e) c.in-Gather.is c.requires

pub execute-requires : goal.execute-requires
unfolding node_step
execute-requires c = subst (λ (e : NodeEvent). StaysWithin c.args.self.now.state e) c.in-Exec.is c.requires
