use Rattle.std.proofs.Common.{◌≡◌}
use Rattle.fal_node.specs.Gather.{batch_calls}
use Rattle.fal_node.proofs.gather.batch_calls.Given as goal

abbrev pub invariant-loop-planned : goal.invariant-loop-planned
invariant-loop-planned l = l.batched ≡ batch_calls l.waiting.list l.yielded
