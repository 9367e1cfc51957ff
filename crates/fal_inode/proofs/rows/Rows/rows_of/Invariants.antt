use Rattle.std.proofs.Common.{◌≡◌, take}
use Rattle.fal_inode.specs.Named.{rows_named}
use Rattle.fal_inode.proofs.rows.Rows.rows_of.Given as goal

abbrev pub invariant-loop-key : goal.invariant-loop-key
invariant-loop-key l = l.rows.items ≡ rows_named (take l.key-index l.key-items) l.name
