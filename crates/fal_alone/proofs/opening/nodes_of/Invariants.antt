use Rattle.std.proofs.Common.{◌≡◌, length}
use Rattle.fal_alone.specs.Opening.{AreNodes}
use Rattle.fal_alone.proofs.opening.nodes_of.Given as goal

abbrev pub invariant-loop-number : goal.invariant-loop-number
invariant-loop-number l = record {
  count : length l.nodes.items ≡ l.number;
  are : AreNodes l.config l.nodes.items;
}
