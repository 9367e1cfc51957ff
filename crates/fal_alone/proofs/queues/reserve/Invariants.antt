use Rattle.std.proofs.Common.{◌≡◌, ◌<◌, ◌≤◌, ℕ, List, Some}
use Rattle.std.specs.Prelude.{slice_get}
use Rattle.fal_alone.specs.Queues.{QueueSeen, Holds}
use Rattle.fal_alone.proofs.queues.reserve.Given as goal

abbrev pub invariant-loop-i : goal.invariant-loop-i
invariant-loop-i l = record {
  same : (numbers : ℕ → List ℕ) → Holds numbers l.fn.queues → Holds numbers l.queues;
  room : (place : ℕ) (queue : QueueSeen) → place < l.i → slice_get l.queues place ≡ Some queue → l.n ≤ queue.spare;
}
