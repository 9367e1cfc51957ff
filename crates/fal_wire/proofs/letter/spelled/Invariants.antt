use Rattle.std.proofs.Common.{◌≡◌, map, take}
use Rattle.fal_wire.specs.Letters.{output_of}
use Rattle.fal_wire.proofs.letter.spelled.Given as goal

abbrev pub invariant-loop-letter : goal.invariant-loop-letter
invariant-loop-letter l = l.sent ≡ map output_of (take l.letter-index l.letters)
