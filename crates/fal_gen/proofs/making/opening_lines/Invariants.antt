use Rattle.std.proofs.Common.{◌≡◌}
use Rattle.fal_gen.specs.Lines.{opening_lines}
use Rattle.fal_gen.proofs.making.opening_lines.Given as goal

-- so many lanes have their line
abbrev pub invariant-loop-place : goal.invariant-loop-place
invariant-loop-place l = l.lines ≡ opening_lines l.place
