use Rattle.std.proofs.Common.{◌≡◌, ◌++◌, length}
use Rattle.fal_duty.specs.Duties.{owned}
use Rattle.fal_duty.proofs.operation.mine.Given as goal

-- the updates so far, and those to come
abbrev pub invariant-loop-update : goal.invariant-loop-update
invariant-loop-update l = l.mine.items ++ owned l.table l.me l.rest ≡ owned l.table l.me l.updates

abbrev pub decreases-loop-update : goal.decreases-loop-update
decreases-loop-update l = length l.rest
