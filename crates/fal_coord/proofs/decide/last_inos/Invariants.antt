use Rattle.std.proofs.Common.{◌≡◌, [], length}
use Rattle.fal_coord.specs.Walks.{last_inos}
use Rattle.fal_coord.proofs.decide.last_inos.Given as goal

-- the last numbers so far, or those of the rest
abbrev pub invariant-loop-walk : goal.invariant-loop-walk
invariant-loop-walk l = last_inos l.inos l.rest ≡ last_inos [] l.walks

abbrev pub decreases-loop-walk : goal.decreases-loop-walk
decreases-loop-walk l = length l.rest
