use Rattle.std.proofs.Common.{◌≡◌, length}
use Rattle.fal_dentry.specs.Walk.{walk_on, replica_walk}
use Rattle.fal_dentry.proofs.Steps.{all_past}
use Rattle.fal_dentry.proofs.replica.Replica.walk_names.Given as goal

-- what was met so far, and the walk of the rest, are the whole walk
abbrev pub invariant-loop-name : goal.invariant-loop-name
invariant-loop-name l =
    all_past l.keys.items l.inos.items (walk_on l.self.entries l.cred l.shut l.parent l.key l.rest) ≡ replica_walk l.self.entries l.cred l.names l.shut

abbrev pub decreases-loop-name : goal.decreases-loop-name
decreases-loop-name l = length l.rest
