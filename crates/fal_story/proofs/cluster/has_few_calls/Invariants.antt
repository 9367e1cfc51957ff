use Rattle.std.proofs.Common.{◌≡◌, ◌≤◌, length, take}
use Rattle.std.specs.Prelude.{sum_by}
use Rattle.fal_story.proofs.cluster.has_few_calls.Given as goal

abbrev pub invariant-loop-lane : goal.invariant-loop-lane
invariant-loop-lane l = record { so_far : l.calls ≡ sum_by (λ calls. length calls) (take l.lane-index l.lanes); few : l.calls ≤ 10000 }
