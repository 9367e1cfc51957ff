use Rattle.std.proofs.Common.{◌≡◌, ◌++◌, length}
use Rattle.fal_coord.proofs.hear.with_rows.Given as goal

-- the rows so far, and the rest, are all
abbrev pub invariant-loop-row : goal.invariant-loop-row
invariant-loop-row g l = l.all ++ l.rest ≡ l.rows ++ l.told

abbrev pub decreases-loop-row : goal.decreases-loop-row
decreases-loop-row g l = length l.rest
