-- When a step that was prepared can be made, and which step it is.
use Rattle.std.specs.Prelude.{◌≡◌, ◌<◌, ◌≤◌, ◌^◌, map, Option, None, Some}
use Rattle.fal_wire.specs.Letters.{output_of}
use Rattle.fal_coord.specs.declared.draft.Draft.{Draft}
use Rattle.fal_coord.specs.declared.event.CoordEvent.{CoordEvent}
use Rattle.fal_coord.specs.declared.patch.Patch.{Patch}
use Rattle.fal_coord.specs.declared.patch.Patch.TheVariants as patch
use Rattle.fal_coord.specs.declared.patch.Prepared.{Prepared}
use Rattle.fal_coord.specs.Patch.{CoordRoom, SeenCoord, patched}
use Rattle.fal_coord.specs.Sound.{IsSound}
use Rattle.fal_coord.specs.State.{CoordState, Work}
use Rattle.fal_coord.specs.Step.{coord_step}

-- there is room for the change
abbrev pub HasRoom : CoordRoom → Patch → Type 0
HasRoom room (patch.Take call) = (1 ≤ room.waiting) × (1 ≤ room.last)
HasRoom room (patch.Learn key dentry then) = 1 ≤ room.replica
HasRoom room other = Unit {0}

-- the coordinator after it is sound, and no counter of it is past the end of its type
pub record IsLegal (coord : CoordState) : Type 0 where
  pub sound : IsSound coord.table coord.waiting coord.stage
  pub operation : coord.operation < 2 ^ 32
  pub asked : coord.asked < 2 ^ 64

abbrev pub CanPatch : SeenCoord → Patch → Type 0
CanPatch s patch = HasRoom s.room patch × IsLegal (patched s.state patch)

-- the coordinator can make the step that was prepared
abbrev pub CanApply : SeenCoord → Prepared → Type 0
CanApply s prepared = CanPatch s prepared.patch

-- the coordinator after it
abbrev pub after : SeenCoord → Prepared → CoordState
after s prepared = patched s.state prepared.patch

-- what was prepared is the step that does this work, and can be made
pub record IsStep (s : SeenCoord) (work : Work) (prepared : Prepared) : Type 0 where
  pub coord_after : work.coord ≡ patched s.state prepared.patch
  pub sent : prepared.outputs.sent ≡ map output_of work.sent
  pub notes : prepared.outputs.notes ≡ work.notes
  pub can_apply : CanApply s prepared

abbrev pub IsStepOf : SeenCoord → Option Work → Prepared → Type 0
IsStepOf s None prepared = ⊥
IsStepOf s (Some work) prepared = IsStep s work prepared

-- what was prepared is the coordinator's step for the event
abbrev pub IsStepFor : SeenCoord → CoordEvent → Prepared → Type 0
IsStepFor s event prepared = IsStepOf s (coord_step s.state event) prepared

-- the change, the messages and the notes of a draft are those of the work
pub record Does (coord : CoordState) (work : Work) (draft : Draft) : Type 0 where
  pub coord_after : work.coord ≡ patched coord draft.patch
  pub sent : draft.letters.items ≡ work.sent
  pub notes : draft.notes.items ≡ work.notes

-- a draft exactly where the event is enabled
abbrev pub DoesOf : CoordState → Option Work → Option Draft → Type 0
DoesOf coord None None = Unit {0}
DoesOf coord None (Some draft) = ⊥
DoesOf coord (Some work) None = ⊥
DoesOf coord (Some work) (Some draft) = Does coord work draft
