use Rattle.std.proofs.Common.{◌≡◌, length}
use Rattle.fal_inode.specs.Named.{first_parent}
use Rattle.fal_inode.proofs.rows.first_parent_of.Given as goal

abbrev pub invariant-loop-entry : goal.invariant-loop-entry
invariant-loop-entry l = first_parent l.rest l.name ≡ first_parent l.entries l.name

abbrev pub decreases-loop-entry : goal.decreases-loop-entry
decreases-loop-entry l = length l.rest
