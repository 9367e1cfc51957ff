use Rattle.std.proofs.Common.{◌≡◌, ◌+◌, ◌≤◌, length}
use Rattle.std.specs.Prelude.{slice_get}
use Rattle.fal_alone.specs.Shown.{all_node_events}
use Rattle.fal_alone.proofs.fresh.first_of_nodes.Given as goal

-- the nodes so far have none, so the rest has the first
abbrev pub invariant-loop-node : goal.invariant-loop-node
invariant-loop-node l = record {
  first : slice_get (all_node_events l.next l.left l.rest) 0 ≡ slice_get (all_node_events l.number l.queues l.nodes) 0;
  few : l.next + length l.rest ≤ 255;
}

abbrev pub decreases-loop-node : goal.decreases-loop-node
decreases-loop-node l = length l.rest
