use Rattle.std.proofs.Common.{◌≡◌, length}
use Rattle.fal_base.specs.Tree.{key_of}
use Rattle.fal_dentry.specs.Walk.{walk_on, replica_walk}
use Rattle.fal_locks.specs.Locks.{shut_keys}
use Rattle.fal_batch.specs.Idle.{ending_of}
use Rattle.fal_batch.proofs.ending.walk_end.Given as goal

-- the walk of the rest ends where the whole walk does
abbrev pub invariant-loop-next : goal.invariant-loop-next
invariant-loop-next l =
    ending_of (walk_on l.site.replica.now.entries l.cred (shut_keys l.site.locks.now.table) l.found (key_of l.parent l.name) l.rest)
    ≡ ending_of (replica_walk l.site.replica.now.entries l.cred l.path (shut_keys l.site.locks.now.table))

abbrev pub decreases-loop-next : goal.decreases-loop-next
decreases-loop-next l = length l.rest
