-- A record comes to the coordinator.
use Rattle.std.specs.Prelude.{ℕ, ◌&&◌, List, [], ◌∷◌, ◌++◌, Result, Ok, Err, ◌==◌, if◌then◌else◌}
use Rattle.fal_base.specs.declared.call.CallRec.{CallRec}
use Rattle.fal_base.specs.declared.event.Envelope.{Envelope}
use Rattle.fal_base.specs.declared.event.Point.TheVariants.{Carried}
use Rattle.fal_base.specs.declared.inode.Dentry.{Dentry}
use Rattle.fal_base.specs.declared.key.Key.{Key}
use Rattle.fal_base.specs.declared.reply.Errno.TheVariants.{Enoent, Enotdir}
use Rattle.fal_base.specs.declared.row.NamedRow.{NamedRow}
use Rattle.fal_base.specs.declared.row.Update.{Update}
use Rattle.fal_base.specs.Maps.{with_value}
use Rattle.fal_base.specs.Marks.{is_newer, last_mark, mark_of, with_mark}
use Rattle.fal_wire.specs.declared.fault.WireFault.{WireFault}
use Rattle.fal_wire.specs.declared.message.Found.{Found}
use Rattle.fal_wire.specs.declared.message.Found.TheVariants as found
use Rattle.fal_wire.specs.declared.message.Message.{Message}
use Rattle.fal_wire.specs.declared.message.Message.TheVariants as message
use Rattle.fal_wire.specs.Messages.{reading}
use Rattle.fal_coord.specs.declared.stage.Operation.{Operation}
use Rattle.fal_coord.specs.declared.stage.Stage.{Stage}
use Rattle.fal_coord.specs.declared.stage.Stage.TheVariants.{Idle, Walk, Lock, Count, Finish, Block, Install}
use Rattle.fal_coord.specs.Begin.{given_up, walk_step}
use Rattle.fal_coord.specs.Decide.{judged_work, verdict_on}
use Rattle.fal_coord.specs.Judged.{counted_of}
use Rattle.fal_coord.specs.Nodes.{is_missing, without_node}
use Rattle.fal_coord.specs.Place.{placed}
use Rattle.fal_coord.specs.State.{CoordState, Work, begun, at_stage}
use Rattle.fal_coord.specs.Walks.{is_operation}

-- ---- a call

-- the call waits, and is the last of its client
unfoldable pub taken : CoordState → CallRec → CoordState
taken coord call = record coord { waiting = coord.waiting ++ call ∷ []; last = with_mark coord.last call.id.client (mark_of call.id) }

-- a call of another kind changes nothing, nor does one that is not newer than the last of its client
abbrev pub take_call : CoordState → CallRec → CoordState
take_call coord call = if is_operation call.op && is_newer (mark_of call.id) (last_mark coord.last call.id.client) then taken coord call else coord

-- ---- what was fetched

-- the directory is learned
unfoldable pub learned : CoordState → Key → Dentry → CoordState
learned coord key dentry = record coord { replica = with_value coord.replica key dentry }

-- the walk goes on, or nothing to walk through stands there, as the answer says, true at the point that came with the record
abbrev pub found_at : CoordState → ℕ → CallRec → Key → Found → Work
found_at coord point call key (found.Dir dentry) = walk_step (learned coord key dentry) call
found_at coord point call key found.Nothing = given_up coord call (Carried point) Enoent
found_at coord point call key found.File = given_up coord call (Carried point) Enotdir

-- only the fetch that the walk waits for
abbrev pub take_found : CoordState → ℕ → ℕ → Key → Found → Stage → Work
take_found coord point number key what (Walk call awaited wanted) = if number == awaited then found_at coord point call key what else begun coord
take_found coord point number key what other = begun coord

-- ---- what nodes answer

-- with the last node, the verdict
abbrev pub lock_heard : CoordState → Operation → List Update → List ℕ → Work
lock_heard coord operation rows [] = judged_work coord operation rows (verdict_on operation rows)
lock_heard coord operation rows (node ∷ missing) = begun (at_stage coord (Lock operation (node ∷ missing) rows))

-- of this operation, from a node not yet heard
abbrev pub take_locked : CoordState → ℕ → ℕ → List Update → Stage → Work
take_locked coord number node told (Lock operation missing rows) =
    if (number == coord.operation) && is_missing node missing then lock_heard coord operation (rows ++ told) (without_node node missing) else begun coord
take_locked coord number node told other = begun coord

-- with the last node, what the counts make of it
abbrev pub count_heard : CoordState → Operation → List Update → ℕ → List Update → List ℕ → List ℕ → Work
count_heard coord operation rows dir updates counts [] = judged_work coord operation rows (counted_of counts updates)
count_heard coord operation rows dir updates counts (node ∷ missing) = begun (at_stage coord (Count operation rows dir updates (node ∷ missing) counts))

abbrev pub take_counted : CoordState → ℕ → ℕ → ℕ → Stage → Work
take_counted coord number node count (Count operation rows dir updates missing counts) =
    if (number == coord.operation) && is_missing node missing then count_heard coord operation rows dir updates (counts ++ count ∷ []) (without_node node missing)
    else begun coord
take_counted coord number node count other = begun coord

-- with the last node the operation is at its end
abbrev pub finish_at : List Key → List Update → List ℕ → Stage
finish_at keys updates [] = Idle
finish_at keys updates (node ∷ missing) = Finish keys updates (node ∷ missing)

abbrev pub take_done : CoordState → ℕ → ℕ → Stage → CoordState
take_done coord number node (Finish keys updates missing) =
    if (number == coord.operation) && is_missing node missing then at_stage coord (finish_at keys updates (without_node node missing)) else coord
take_done coord number node other = coord

-- with the last node, the name is placed
abbrev pub block_heard : CoordState → CallRec → List NamedRow → List ℕ → Work
block_heard coord call rows [] = placed coord call rows
block_heard coord call rows (node ∷ missing) = begun (at_stage coord (Block call (node ∷ missing) rows))

abbrev pub take_blocked : CoordState → ℕ → ℕ → List NamedRow → Stage → Work
take_blocked coord number node told (Block call missing rows) =
    if (number == coord.operation) && is_missing node missing then block_heard coord call (rows ++ told) (without_node node missing) else begun coord
take_blocked coord number node told other = begun coord

-- with the last node the operation is at its end
abbrev pub install_at : CallRec → List ℕ → Stage
install_at call [] = Idle
install_at call (node ∷ missing) = Install call (node ∷ missing)

abbrev pub take_installed : CoordState → ℕ → ℕ → Stage → CoordState
take_installed coord number node (Install call missing) =
    if (number == coord.operation) && is_missing node missing then at_stage coord (install_at call (without_node node missing)) else coord
take_installed coord number node other = coord

-- ---- any record

-- by the kind of the record
abbrev pub take_message : CoordState → ℕ → Message → Work
take_message coord point (message.Call call) = begun (take_call coord call)
take_message coord point (message.FetchGot number key what) = take_found coord point number key what coord.stage
take_message coord point (message.Locked number node rows) = take_locked coord number node rows coord.stage
take_message coord point (message.Counted number node count) = take_counted coord number node count coord.stage
take_message coord point (message.Done number node) = begun (take_done coord number node coord.stage)
take_message coord point (message.Reply id reply) = begun coord
take_message coord point (message.Stale id old new changes) = begun coord
take_message coord point (message.Opened id dir) = begun coord
take_message coord point (message.ListAsk id version dir) = begun coord
take_message coord point (message.ListPart id from names) = begun coord
take_message coord point (message.FetchAsk asker number key) = begun coord
take_message coord point (message.Lock number keys) = begun coord
take_message coord point (message.Count number dir) = begun coord
take_message coord point (message.Commit number updates) = begun coord
take_message coord point (message.Block number name) = begun coord
take_message coord point (message.Blocked number node rows) = take_blocked coord number node rows coord.stage
take_message coord point (message.Install number version rule rows) = begun coord
take_message coord point (message.Installed number node) = begun (take_installed coord number node coord.stage)

-- bytes that are no record change nothing
abbrev pub take_read : CoordState → ℕ → Result Message WireFault → Work
take_read coord point (Ok message) = take_message coord point message
take_read coord point (Err fault) = begun coord

unfoldable pub heard : CoordState → Envelope → Work
heard coord envelope = take_read coord envelope.point (reading envelope.bytes)
