use Rattle.std.proofs.Common.{◌≡◌, ◌+◌, ◌++◌, ◌≤◌, length}
use Rattle.fal_alone.specs.Shown.{all_node_events}
use Rattle.fal_alone.proofs.fresh.push_nodes.Given as goal

-- the events so far, and those of the other nodes, are all of them
abbrev pub invariant-loop-node : goal.invariant-loop-node
invariant-loop-node l = record {
  whole : l.events.items ++ all_node_events l.number l.left l.rest ≡ l.initial.events.items ++ all_node_events 0 l.queues l.nodes;
  few : l.number + length l.rest ≤ 16;
}

abbrev pub decreases-loop-node : goal.decreases-loop-node
decreases-loop-node l = length l.rest
