-- What the coordinator knows, and what a step of it makes.
use Rattle.std.specs.Prelude.{ℕ, Bool, true, false, ◌&&◌, List, [], length, ◌==◌}
use Rattle.fal_base.specs.declared.call.CallRec.{CallRec}
use Rattle.fal_base.specs.declared.event.Note.{Note}
use Rattle.fal_base.specs.Marks.{Marks}
use Rattle.fal_dentry.specs.Walk.{Dentries}
use Rattle.fal_place.specs.Placement.{Placement, opening_table}
use Rattle.fal_wire.specs.declared.letter.Letter.{Letter}
use Rattle.fal_coord.specs.declared.stage.Stage.{Stage}
use Rattle.fal_coord.specs.declared.stage.Stage.TheVariants.{Idle, Walk, Lock, Count, Finish, Block, Install}

-- its table and replica; the calls that wait, in the order of their arrival, and the last mark of each client; the number of the last
-- operation, how many fetches it has numbered, and what it is at
pub record CoordState : Type 0 where
  pub table : Placement
  pub replica : Dentries
  pub waiting : List CallRec
  pub last : Marks
  pub operation : ℕ
  pub asked : ℕ
  pub stage : Stage

-- the coordinator of so many nodes before its first event
unfoldable pub opening_coord : ℕ → CoordState
opening_coord nodes = record { table = opening_table nodes; replica = []; waiting = []; last = []; operation = 0; asked = 0; stage = Idle }

-- no operation is under way
abbrev pub is_idle : Stage → Bool
is_idle Idle = true
is_idle (Walk call number key) = false
is_idle (Lock operation missing rows) = false
is_idle (Count operation rows dir updates missing counts) = false
is_idle (Finish keys updates missing) = false
is_idle (Block call missing rows) = false
is_idle (Install call missing) = false

-- no call waits, and no operation is under way
abbrev pub is_quiet : CoordState → Bool
is_quiet coord = (length coord.waiting == 0) && is_idle coord.stage

-- what a step makes: the coordinator after it, the letters that it sends, and what it adds to the transcript
pub record Work : Type 0 where
  pub coord : CoordState
  pub sent : List Letter
  pub notes : List Note

-- nothing was sent or noted yet
abbrev pub begun : CoordState → Work
begun coord = record { coord = coord; sent = []; notes = [] }

-- the coordinator at this stage
abbrev pub at_stage : CoordState → Stage → CoordState
at_stage coord stage = record coord { stage = stage }
