use Rattle.std.proofs.Common.{◌≡◌, take}
use Rattle.fal_base.specs.Tree.{lines_of}
use Rattle.fal_tree.proofs.plain.lines_in.Given as goal

-- the rows so far have their lines
abbrev pub invariant-loop-key : goal.invariant-loop-key
invariant-loop-key l = l.lines.items ≡ lines_of (take l.key-index l.rows)
