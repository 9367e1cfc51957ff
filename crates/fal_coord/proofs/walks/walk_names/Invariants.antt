use Rattle.std.proofs.Common.{◌≡◌, [], length}
use Rattle.fal_dentry.specs.Walk.{walk_on, replica_walk}
use Rattle.fal_coord.specs.Known.{with_learned, ended}
use Rattle.fal_coord.proofs.walks.walk_names.Given as goal

-- the directories passed so far, and the walk of the rest, are the whole walk
abbrev pub invariant-loop-name : goal.invariant-loop-name
invariant-loop-name l =
    let entries = with_learned l.replica.entries l.learned in
    ended l.inos (walk_on entries l.cred [] l.parent l.key l.rest) ≡ ended [] (replica_walk entries l.cred l.names [])

abbrev pub decreases-loop-name : goal.decreases-loop-name
decreases-loop-name l = length l.rest
