use Rattle.std.proofs.Common.{◌≡◌, ◌++◌}
use Rattle.fal_coord.specs.Nodes.{numbers_below}
use Rattle.fal_coord.proofs.nodes.numbers_below.Given as goal

-- the numbers so far, and those below what is left, are all
abbrev pub invariant-loop-left : goal.invariant-loop-left
invariant-loop-left l = l.numbers ++ numbers_below l.left ≡ numbers_below l.nodes

abbrev pub decreases-loop-left : goal.decreases-loop-left
decreases-loop-left l = l.left
