use Rattle.std.proofs.Common.{◌≡◌, ◌+◌, length}
use Rattle.fal_base.specs.Marks.{mark_place}
use Rattle.fal_base.proofs.marks.place.Given as goal

abbrev pub invariant-loop-first : goal.invariant-loop-first
invariant-loop-first l =
    record {
      place : l.at + mark_place l.client l.rest ≡ mark_place l.client l.marks;
      within : l.at + length l.rest ≡ length l.marks;
    }

abbrev pub decreases-loop-first : goal.decreases-loop-first
decreases-loop-first l = length l.rest
