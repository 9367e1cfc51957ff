use Rattle.std.proofs.Common.{◌≡◌, take}
use Rattle.fal_inode.specs.Named.{puts}
use Rattle.fal_node.proofs.install.puts.Given as goal

abbrev pub invariant-loop-row : goal.invariant-loop-row
invariant-loop-row l = l.updates.items ≡ puts l.name (take l.row-index l.rows)
