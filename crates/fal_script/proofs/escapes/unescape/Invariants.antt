use Rattle.std.proofs.Common.{◌≡◌, ◌++◌, length}
use Rattle.std.specs.Option.{option_map}
use Rattle.fal_script.specs.Escapes.{unescaped}
use Rattle.fal_script.proofs.escapes.unescape.Given as goal

-- the bytes so far stand in front of those of the rest
abbrev pub invariant-loop-rest : goal.invariant-loop-rest
invariant-loop-rest l = option_map (λ bs. l.bytes.items ++ bs) (unescaped l.rest) ≡ unescaped l.word

abbrev pub decreases-loop-rest : goal.decreases-loop-rest
decreases-loop-rest l = length l.rest
