-- What is sent is read again.
use Rattle.std.proofs.Common.{zero, suc, List, [], ◌∷◌, map, refl, arith}
use Rattle.std.specs.Prelude.{All, IsOk}
use Rattle.fal_base.specs.declared.event.Output.{Output}
use Rattle.fal_wire.specs.declared.letter.Letter.{Letter}
use Rattle.fal_wire.specs.Letters.{output_of}
use Rattle.fal_wire.specs.Messages.{Fits, reading}
use Rattle.fal_wire.proofs.ReadingLaws.{spelled_reads}

abbrev pub IsRead : Output → Type 0
IsRead o = IsOk (reading o.bytes)

one_read : (l : Letter) → Fits l.message → IsRead (output_of l)
unfolding output_of
one_read l fits = rw (spelled_reads l.message fits) refl

pub letters_read : (letters : List Letter) → All (λ (l : Letter). Fits l.message) letters → All IsRead (map output_of letters)
letters_read [] fit k d lt = absurd (omega arith)
letters_read (l ∷ letters) fit zero d lt = one_read l (fit 0 l (omega arith))
letters_read (l ∷ letters) fit (suc k) d lt = letters_read letters (λ j e h. fit (suc j) e (omega arith)) k d (omega arith)
