use Rattle.std.proofs.Common.{◌≡◌, length}
use Rattle.fal_alone.specs.Opening.{AreEmpty}
use Rattle.fal_alone.proofs.opening.queues_of.Given as goal

abbrev pub invariant-loop : goal.invariant-loop
invariant-loop l = record {
  count : length l.queues.items ≡ l.counter;
  are : AreEmpty l.queues.items;
}
