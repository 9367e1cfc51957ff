use Rattle.std.proofs.Common.{◌≡◌, ◌++◌, length}
use Rattle.fal_base.specs.Tree.{names_under}
use Rattle.fal_tree.proofs.answers.names_under.Given as goal

-- the names so far, and those of the rest, are the names of all
abbrev pub invariant-loop-first : goal.invariant-loop-first
invariant-loop-first l = l.names ++ names_under l.rest l.dir ≡ names_under l.rows.entries l.dir

abbrev pub decreases-loop-first : goal.decreases-loop-first
decreases-loop-first l = length l.rest
