-- What a step changes in the coordinator, which `apply` makes so.
use Rattle.std.specs.Prelude.{ℕ, ◌+◌, List, [], Option, Some, None, drop, slice_get}
use Rattle.fal_base.specs.declared.call.CallRec.{CallRec}
use Rattle.fal_base.specs.declared.key.Key.{Key}
use Rattle.fal_base.specs.declared.row.NamedRow.{NamedRow}
use Rattle.fal_base.specs.declared.row.Update.{Update}
use Rattle.fal_dentry.specs.Walk.{without_keys}
use Rattle.fal_coord.specs.declared.patch.Next.{Next}
use Rattle.fal_coord.specs.declared.patch.Next.TheVariants as next
use Rattle.fal_coord.specs.declared.patch.Patch.{Patch}
use Rattle.fal_coord.specs.declared.patch.Patch.TheVariants as patch
use Rattle.fal_coord.specs.declared.stage.Operation.{Operation}
use Rattle.fal_coord.specs.declared.stage.Stage.{Stage}
use Rattle.fal_coord.specs.declared.stage.Stage.TheVariants.{Idle, Walk, Lock, Count, Finish, Block, Install}
use Rattle.fal_coord.specs.Begin.{started}
use Rattle.fal_coord.specs.Hear.{taken, learned}
use Rattle.fal_coord.specs.State.{CoordState, at_stage}

-- for how many more of each there is room
pub record CoordRoom : Type 0 where
  pub replica : ℕ
  pub waiting : ℕ
  pub last : ℕ

-- what contracts see of the coordinator
pub record SeenCoord : Type 0 where
  pub state : CoordState
  pub room : CoordRoom

-- ---- what stands in a stage

-- the call whose walk waits
unfoldable pub walked_call : Stage → Option CallRec
walked_call (Walk call number key) = Some call
walked_call other = None

-- the operation whose nodes are asked
unfoldable pub operation_at : Stage → Option Operation
operation_at (Lock operation missing rows) = Some operation
operation_at (Count operation rows dir updates missing counts) = Some operation
operation_at other = None

-- ---- how a call goes on

-- how many fetches are numbered then
unfoldable pub asked_after : ℕ → Next → ℕ
asked_after asked next.Rest = asked
asked_after asked (next.Ask key) = asked + 1
asked_after asked (next.Lock keys walks missing) = asked
asked_after asked (next.Block missing) = asked

unfoldable pub stage_after : ℕ → CallRec → Next → Stage
stage_after asked call next.Rest = Idle
stage_after asked call (next.Ask key) = Walk call asked key
stage_after asked call (next.Lock keys walks missing) = Lock (record { call = call; keys = keys; walks = walks }) missing []
stage_after asked call (next.Block missing) = Block call missing []

abbrev pub with_next : CoordState → CallRec → Next → CoordState
with_next coord call then = record coord { asked = asked_after coord.asked then; stage = stage_after coord.asked call then }

-- the first call that waits is the next operation, and goes on. None waits: nothing changes
abbrev pub started_with : CoordState → Next → List CallRec → Option CallRec → CoordState
started_with coord then waiting None = coord
started_with coord then waiting (Some call) = with_next (started coord (drop 1 waiting)) call then

-- the call whose walk waited goes on. A stage that has none ends
abbrev pub walked_with : CoordState → Next → Option CallRec → CoordState
walked_with coord then None = at_stage coord Idle
walked_with coord then (Some call) = with_next coord call then

-- ---- how an operation goes on. A stage that has none ends

-- with these still to shut the keys, and these rows
unfoldable pub locked_stage : List ℕ → List Update → Option Operation → Stage
locked_stage missing rows None = Idle
locked_stage missing rows (Some operation) = Lock operation missing rows

-- the entries of a directory are to be counted
unfoldable pub counting_stage : List Update → ℕ → List Update → List ℕ → Option Operation → Stage
counting_stage rows dir updates missing None = Idle
counting_stage rows dir updates missing (Some operation) = Count operation rows dir updates missing []

-- decided by these updates
unfoldable pub decided_stage : List Update → List ℕ → Option Operation → Stage
decided_stage updates missing None = Idle
decided_stage updates missing (Some operation) = Finish operation.keys updates missing

-- the keys that are shut for an operation
unfoldable pub locked_keys : Option Operation → List Key
locked_keys None = []
locked_keys (Some operation) = operation.keys

-- with these still to be heard, and these counts
unfoldable pub counted_stage : List ℕ → List ℕ → Stage → Stage
counted_stage missing counts (Count operation rows dir updates before heard) = Count operation rows dir updates missing counts
counted_stage missing counts other = Idle

-- ---- how a placement goes on. A stage that has none ends

-- the call that places a name
unfoldable pub placing_call : Stage → Option CallRec
placing_call (Block call missing rows) = Some call
placing_call (Install call missing) = Some call
placing_call other = None

-- with these still to give their rows away, and these rows
unfoldable pub blocked_stage : List ℕ → List NamedRow → Option CallRec → Stage
blocked_stage missing rows None = Idle
blocked_stage missing rows (Some call) = Block call missing rows

-- with these still to take theirs
unfoldable pub installed_stage : List ℕ → Option CallRec → Stage
installed_stage missing None = Idle
installed_stage missing (Some call) = Install call missing

-- ---- the end of an operation

unfoldable pub finished_stage : List ℕ → Stage → Stage
finished_stage missing (Finish keys updates before) = Finish keys updates missing
finished_stage missing other = Idle

-- the operation's keys leave the replica
abbrev pub decided_with : CoordState → List Update → List ℕ → Option Operation → CoordState
decided_with coord updates missing operation =
    record coord { replica = without_keys coord.replica (locked_keys operation); stage = decided_stage updates missing operation }

-- the coordinator after the change
abbrev pub patched : CoordState → Patch → CoordState
patched coord patch.Nothing = coord
patched coord (patch.Take call) = taken coord call
patched coord (patch.Start then) = started_with coord then coord.waiting (slice_get coord.waiting 0)
patched coord (patch.Learn key dentry then) = walked_with (learned coord key dentry) then (walked_call coord.stage)
patched coord (patch.Lock missing rows) = at_stage coord (locked_stage missing rows (operation_at coord.stage))
patched coord (patch.Count rows dir updates missing) = at_stage coord (counting_stage rows dir updates missing (operation_at coord.stage))
patched coord (patch.Counted missing counts) = at_stage coord (counted_stage missing counts coord.stage)
patched coord (patch.Decide updates missing) = decided_with coord updates missing (operation_at coord.stage)
patched coord (patch.Finish missing) = at_stage coord (finished_stage missing coord.stage)
patched coord (patch.Block missing rows) = at_stage coord (blocked_stage missing rows (placing_call coord.stage))
patched coord (patch.Place table missing) = record coord { table = table; stage = installed_stage missing (placing_call coord.stage) }
patched coord (patch.Install missing) = at_stage coord (installed_stage missing (placing_call coord.stage))
patched coord patch.Rest = at_stage coord Idle
