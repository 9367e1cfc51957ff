use Rattle.std.proofs.Common.{◌≡◌, ◌+◌, ◌≤◌, length}
use Rattle.std.specs.Prelude.{slice_get}
use Rattle.fal_alone.specs.Shown.{all_gets}
use Rattle.fal_alone.proofs.fresh.first_of_lanes.Given as goal

-- the lanes so far have none, so the rest has the first
abbrev pub invariant-loop-queue : goal.invariant-loop-queue
invariant-loop-queue l = record {
  first : slice_get (all_gets l.number l.rest) 0 ≡ slice_get (all_gets l.lane l.queues) 0;
  few : l.number + length l.rest ≤ 256;
}

abbrev pub decreases-loop-queue : goal.decreases-loop-queue
decreases-loop-queue l = length l.rest
