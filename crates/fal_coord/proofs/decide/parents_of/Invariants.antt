use Rattle.std.proofs.Common.{◌≡◌, ◌++◌, length}
use Rattle.fal_coord.specs.Walks.{parents_of}
use Rattle.fal_coord.proofs.decide.parents_of.Given as goal

-- the directories so far, and those of the rest, are all
abbrev pub invariant-loop-walk : goal.invariant-loop-walk
invariant-loop-walk l = l.parents.items ++ parents_of l.rest ≡ parents_of l.walks

abbrev pub decreases-loop-walk : goal.decreases-loop-walk
decreases-loop-walk l = length l.rest
