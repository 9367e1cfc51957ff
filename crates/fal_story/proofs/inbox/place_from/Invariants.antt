use Rattle.std.proofs.Common.{◌≡◌, ◌≤◌, ◌-◌, ℕ, drop, length}
use Rattle.fal_story.specs.Arriving.{arrived, arrived_next}
use Rattle.fal_story.proofs.inbox.place_from.Given as goal

abbrev pub invariant-loop-low : goal.invariant-loop-low
invariant-loop-low l = record {
  order : l.low ≤ l.high;
  within : l.high ≤ length l.sent;
  past : (number : ℕ) → arrived number l.from l.sent ≡ arrived_next l.low number l.from (drop l.low l.sent);
}

abbrev pub decreases-loop-low : goal.decreases-loop-low
decreases-loop-low l = l.high - l.low
