use Rattle.std.proofs.Common.{◌≡◌, ◌≤◌, take, length}
use Rattle.fal_base.specs.Tree.{names_under}
use Rattle.fal_inode.proofs.rows.Rows.children.Given as goal

abbrev pub invariant-loop-key : goal.invariant-loop-key
invariant-loop-key l = (l.count ≡ length (names_under (take l.key-index l.key-items) l.parent)) × (l.count ≤ l.key-index)
