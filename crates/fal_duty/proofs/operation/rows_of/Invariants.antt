use Rattle.std.proofs.Common.{◌≡◌, ◌++◌, length}
use Rattle.fal_duty.specs.Duties.{rows_of}
use Rattle.fal_duty.proofs.operation.rows_of.Given as goal

-- the rows so far, and those to come
abbrev pub invariant-loop-key : goal.invariant-loop-key
invariant-loop-key l = l.told.items ++ rows_of l.table l.rows.rows l.me l.rest ≡ rows_of l.table l.rows.rows l.me l.keys

abbrev pub decreases-loop-key : goal.decreases-loop-key
decreases-loop-key l = length l.rest
