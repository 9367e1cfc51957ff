use Rattle.std.proofs.Common.{◌≡◌, take}
use Rattle.fal_base.specs.Tree.{lines_of}
use Rattle.fal_inode.proofs.rows.Rows.all.Given as goal

abbrev pub invariant-loop-key : goal.invariant-loop-key
invariant-loop-key l = l.lines.items ≡ lines_of (take l.key-index l.entries)
