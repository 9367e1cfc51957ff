use Rattle.std.proofs.Common.{◌≡◌, length}
use Rattle.fal_base.specs.Marks.{last_mark}
use Rattle.fal_base.proofs.marks.last_mark.Given as goal

abbrev pub invariant-loop-first : goal.invariant-loop-first
invariant-loop-first l = last_mark l.rest l.client ≡ last_mark l.marks l.client

abbrev pub decreases-loop-first : goal.decreases-loop-first
decreases-loop-first l = length l.rest
