use Rattle.std.proofs.Common.{◌≡◌, length}
use Rattle.fal_base.specs.Answer.{has_entries}
use Rattle.fal_tree.proofs.answers.has_entries.Given as goal

-- none of the entries so far is in the directory
abbrev pub invariant-loop-first : goal.invariant-loop-first
invariant-loop-first l = has_entries l.rest l.dir ≡ has_entries l.rows.entries l.dir

abbrev pub decreases-loop-first : goal.decreases-loop-first
decreases-loop-first l = length l.rest
