use Rattle.std.proofs.Common.{◌≡◌, ◌++◌, length}
use Rattle.fal_coord.specs.Nodes.{without_node}
use Rattle.fal_coord.proofs.nodes.without_node.Given as goal

-- what was kept so far, and what is kept of the rest, is all
abbrev pub invariant-loop-other : goal.invariant-loop-other
invariant-loop-other l = l.left ++ without_node l.node l.rest ≡ without_node l.node l.missing

abbrev pub decreases-loop-other : goal.decreases-loop-other
decreases-loop-other l = length l.rest
