-- A coordinator that began no operation.
use Rattle.std.specs.Prelude.{◌≡◌}
use Rattle.fal_coord.specs.declared.event.CoordEvent.{CoordEvent}
use Rattle.fal_coord.specs.declared.event.CoordEvent.TheVariants.{Hear, Start}
use Rattle.fal_coord.specs.declared.stage.Stage.TheVariants.{Idle}
use Rattle.fal_coord.specs.State.{CoordState}

-- nothing is under way, no operation and no fetch was numbered, and no name is placed
pub record IsResting (coord : CoordState) : Type 0 where
  pub stage : coord.stage ≡ Idle
  pub operation : coord.operation ≡ 0
  pub asked : coord.asked ≡ 0
  pub version : coord.table.version ≡ 0

-- an envelope comes
abbrev pub IsHearing : CoordEvent → Type 0
IsHearing (Hear envelope) = Unit {0}
IsHearing Start = ⊥
