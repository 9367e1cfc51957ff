use Rattle.std.proofs.Common.{◌≡◌, ◌-◌, ◌≤◌, ◌++◌}
use Rattle.rand_core.specs.Steps.{first_words}
use Rattle.rand_pcg.specs.Pcg.{pcg32}
use Rattle.fal_gen.specs.Lines.{lines_from, lines_by}
use Rattle.fal_gen.specs.Source.{words_of_seed}
use Rattle.fal_gen.proofs.making.lines_of.Given as goal

-- with those that are still to come, the lines are all
abbrev pub invariant-loop-number : goal.invariant-loop-number
invariant-loop-number l = (l.number ≤ l.size) × (l.lines ++ lines_from l.number (first_words pcg32 (l.size - l.number) l.source) ≡ lines_by (words_of_seed l.seed l.size))
