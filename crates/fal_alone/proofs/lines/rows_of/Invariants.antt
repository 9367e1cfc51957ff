use Rattle.std.proofs.Common.{◌≡◌, map, take}
use Rattle.fal_node.specs.Patch.{SeenNode}
use Rattle.fal_story.specs.AllRows.{all_rows}
use Rattle.fal_alone.proofs.lines.rows_of.Given as goal

-- the rows of the nodes so far
abbrev pub invariant-loop-node : goal.invariant-loop-node
invariant-loop-node l = l.all.rows ≡ all_rows (map (λ (n : SeenNode). n.state.rows) (take l.node-index l.nodes))
