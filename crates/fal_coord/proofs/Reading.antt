-- What the coordinator hears is within the ranges, and what it sends is read again.
use Rattle.std.proofs.Common.{◌≡◌, true, cond, map, None, Some, ap}
use Rattle.std.specs.Prelude.{All}
use Rattle.fal_base.specs.declared.event.Envelope.{Envelope}
use Rattle.fal_wire.specs.Letters.{output_of}
use Rattle.fal_wire.specs.Messages.{reading}
use Rattle.fal_wire.proofs.LetterLaws.{IsRead, letters_read}
use Rattle.fal_coord.specs.declared.event.CoordEvent.{CoordEvent}
use Rattle.fal_coord.specs.declared.event.CoordEvent.TheVariants.{Hear}
use Rattle.fal_coord.specs.Hear.{heard, take_read}
use Rattle.fal_coord.specs.State.{CoordState, Work}
use Rattle.fal_coord.specs.Step.{CanMake, IsInRange, coord_step, is_to_coord}

-- what an envelope to the coordinator makes is within the ranges
pub heard_within : (coord : CoordState) (envelope : Envelope) → CanMake coord (Hear envelope) → is_to_coord envelope.to ≡ true → IsInRange (take_read coord envelope.point (reading envelope.bytes))
unfolding coord_step heard
heard_within coord envelope can is = can (heard coord envelope) (ap (λ b. cond b (Some (heard coord envelope)) None) is)

pub records_read : (coord : CoordState) (event : CoordEvent) (work : Work) → CanMake coord event → coord_step coord event ≡ Some work → All IsRead (map output_of work.sent)
records_read coord event work can is = letters_read work.sent (can work is).records
