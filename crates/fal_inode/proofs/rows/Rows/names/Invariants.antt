use Rattle.std.proofs.Common.{◌≡◌, take}
use Rattle.fal_base.specs.Tree.{names_under}
use Rattle.fal_inode.proofs.rows.Rows.names.Given as goal

abbrev pub invariant-loop-key : goal.invariant-loop-key
invariant-loop-key l = l.names.items ≡ names_under (take l.key-index l.key-items) l.parent
