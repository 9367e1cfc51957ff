use Rattle.std.proofs.Common.{◌≡◌, ◌++◌, length}
use Rattle.fal_coord.proofs.hear.with_count.Given as goal

-- the counts so far, and the rest, are all
abbrev pub invariant-loop-first : goal.invariant-loop-first
invariant-loop-first l = l.all ++ l.rest ≡ l.counts

abbrev pub decreases-loop-first : goal.decreases-loop-first
decreases-loop-first l = length l.rest
