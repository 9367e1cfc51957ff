use Rattle.std.proofs.Common.{◌≡◌, ◌<◌, length}
use Rattle.fal_base.specs.Walk.{walk_from}
use Rattle.fal_tree.specs.Walks.{having_passed}
use Rattle.fal_tree.proofs.walk.walk_from.Given as goal

-- the rest of the walk, after the directories passed so far, is the whole
abbrev pub invariant-loop-name : goal.invariant-loop-name
invariant-loop-name l =
    record {
      some : 0 < length l.rest;
      same : walk_from l.rows.entries l.cred l.fn.from l.names ≡ having_passed l.passed (walk_from l.rows.entries l.cred l.dir l.rest);
    }

abbrev pub decreases-loop-name : goal.decreases-loop-name
decreases-loop-name l = length l.rest
