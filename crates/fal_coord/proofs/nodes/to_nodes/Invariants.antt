use Rattle.std.proofs.Common.{◌≡◌}
use Rattle.fal_coord.specs.Nodes.{to_nodes}
use Rattle.fal_coord.proofs.nodes.to_nodes.Given as goal

-- the nodes so far are told
abbrev pub invariant-loop-node : goal.invariant-loop-node
invariant-loop-node l = l.letters.items ≡ to_nodes l.node l.message
