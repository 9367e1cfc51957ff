use Rattle.std.proofs.Common.{◌≡◌, ◌≤◌, ◌+◌, length}
use Rattle.fal_locks.specs.Keys.{distinct_count}
use Rattle.fal_locks.proofs.keys.distinct_count.Given as goal

abbrev pub invariant-loop-first : goal.invariant-loop-first
invariant-loop-first l =
    record {
      counted : l.count + distinct_count l.rest ≡ distinct_count l.keys;
      within : l.count + length l.rest ≤ length l.keys;
    }

abbrev pub decreases-loop-first : goal.decreases-loop-first
decreases-loop-first l = length l.rest
