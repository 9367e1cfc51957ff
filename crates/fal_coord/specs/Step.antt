-- The steps of the coordinator.
use Rattle.std.specs.Prelude.{◌<◌, ◌^◌, Bool, true, false, Option, Some, None, if◌then◌else◌}
use Rattle.std.specs.List.{All}
use Rattle.std.specs.Option.{ForSome}
use Rattle.fal_base.specs.declared.event.Actor.{Actor}
use Rattle.fal_base.specs.declared.event.Actor.TheVariants.{Client, Node, Coord}
use Rattle.fal_wire.specs.Messages.{Fits}
use Rattle.fal_coord.specs.declared.event.CoordEvent.{CoordEvent}
use Rattle.fal_coord.specs.declared.event.CoordEvent.TheVariants.{Hear, Start}
use Rattle.fal_coord.specs.Begin.{begin}
use Rattle.fal_coord.specs.Hear.{heard}
use Rattle.fal_coord.specs.State.{CoordState, Work}

abbrev pub is_to_coord : Actor → Bool
is_to_coord (Client lane) = false
is_to_coord (Node node) = false
is_to_coord Coord = true

-- the step of an event; none where the event is not enabled
unfoldable pub coord_step : CoordState → CoordEvent → Option Work
coord_step coord (Hear envelope) = if is_to_coord envelope.to then Some (heard coord envelope) else None
coord_step coord Start = begin coord coord.stage

-- each message is within the ranges of its record, and no counter is past the end of its type
pub record IsInRange (work : Work) : Type 0 where
  pub records : All (λ letter. Fits letter.message) work.sent
  pub operation : work.coord.operation < 2 ^ 32
  pub asked : work.coord.asked < 2 ^ 64
  pub version : work.coord.table.version < 2 ^ 32

-- what the event makes, where it is enabled, is within the ranges
abbrev pub CanMake : CoordState → CoordEvent → Type 0
CanMake coord event = ForSome (coord_step coord event) IsInRange
