use Rattle.std.proofs.Common.{◌≡◌, ◌≤◌, length}
use Rattle.fal_dentry.specs.Walk.{without_keys}
use Rattle.fal_dentry.proofs.replica.Replica.drop_keys.Given as goal

abbrev pub invariant-loop-key : goal.invariant-loop-key
invariant-loop-key l =
    record {
      entries : without_keys l.self-inside.map.entries l.rest ≡ without_keys l.fn.self.entries l.keys;
      room : l.fn.self.spare ≤ l.self-inside.map.spare;
    }

abbrev pub decreases-loop-key : goal.decreases-loop-key
decreases-loop-key l = length l.rest
