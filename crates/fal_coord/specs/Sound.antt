-- What holds of the coordinator.
use Rattle.std.specs.Prelude.{Bool, true, not, ◌&&◌, List, IsTrue}
use Rattle.std.specs.List.{list_all}
use Rattle.fal_base.specs.declared.call.CallRec.{CallRec}
use Rattle.fal_base.specs.declared.op.Op.{Op}
use Rattle.fal_coord.specs.declared.stage.Operation.{Operation}
use Rattle.fal_coord.specs.declared.stage.Stage.{Stage}
use Rattle.fal_coord.specs.declared.stage.Stage.TheVariants.{Idle, Walk, Lock, Count, Finish, Block, Install}
use Rattle.fal_coord.specs.Judged.{is_for_rows}
use Rattle.fal_coord.specs.Place.{is_placeable}
use Rattle.fal_coord.specs.Walks.{is_operation, is_walking, is_busy, parents_of, placing_of}
use Rattle.fal_place.specs.Placement.{Placement}

-- whether the coordinator carries each of the calls out
abbrev pub are_operations : List CallRec → Bool
are_operations calls = list_all (λ call. is_operation call.op) calls

-- whether the call's paths are walked
abbrev pub is_walked : Op → Bool
is_walked call = is_walking call && not (is_busy call)

-- whether rows decide the operation, and each of its paths has a walk
abbrev pub is_decidable : Operation → Bool
is_decidable operation = is_for_rows operation.call.op (parents_of operation.walks)

-- whether the call of the stage suits it. The table does not change before a name is placed
unfoldable pub is_sound_stage : Placement → Stage → Bool
is_sound_stage table Idle = true
is_sound_stage table (Walk call number key) = is_walked call.op
is_sound_stage table (Lock operation missing rows) = is_decidable operation
is_sound_stage table (Count operation rows dir updates missing counts) = is_decidable operation
is_sound_stage table (Finish keys updates missing) = true
is_sound_stage table (Block call missing rows) = is_placeable table call (placing_of call.op)
is_sound_stage table (Install call missing) = true

-- each call that waits is an operation, and the one under way suits its stage
pub record IsSound (table : Placement) (waiting : List CallRec) (stage : Stage) : Type 0 where
  pub calls_waiting : IsTrue (are_operations waiting)
  pub stage_suits : IsTrue (is_sound_stage table stage)
