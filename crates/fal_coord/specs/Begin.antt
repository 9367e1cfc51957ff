-- The coordinator begins with a call, and walks its paths.
use Rattle.std.specs.Prelude.{◌+◌, List, [], ◌∷◌, Option, Some, None, if◌then◌else◌}
use Rattle.fal_base.specs.declared.call.CallRec.{CallRec}
use Rattle.fal_base.specs.declared.event.Actor.TheVariants.{Node}
use Rattle.fal_base.specs.declared.event.Point.{Point}
use Rattle.fal_base.specs.declared.event.Point.TheVariants.{Here}
use Rattle.fal_base.specs.declared.key.Key.{Key}
use Rattle.fal_base.specs.declared.reply.Errno.{Errno}
use Rattle.fal_base.specs.declared.reply.Errno.TheVariants.{Ebusy}
use Rattle.fal_base.specs.declared.reply.Reply.TheVariants.{Fail}
use Rattle.fal_place.specs.Placement.{Placing, owner}
use Rattle.fal_wire.specs.declared.letter.Letter.{Letter}
use Rattle.fal_wire.specs.declared.message.Message.TheVariants as message
use Rattle.fal_wire.specs.Letters.{letter, reply_letter}
use Rattle.fal_coord.specs.declared.paths_walk.PathsWalk.{PathsWalk}
use Rattle.fal_coord.specs.declared.paths_walk.PathsWalk.TheVariants.{Stopped, Lacking, Ready}
use Rattle.fal_coord.specs.declared.stage.PathWalk.{PathWalk}
use Rattle.fal_coord.specs.declared.stage.Stage.{Stage}
use Rattle.fal_coord.specs.declared.stage.Stage.TheVariants.{Idle, Walk, Lock, Count, Finish, Block, Install}
use Rattle.fal_coord.specs.Nodes.{numbers_below, to_nodes}
use Rattle.fal_coord.specs.Place.{place_refusal, blocking}
use Rattle.fal_coord.specs.State.{CoordState, Work, at_stage}
use Rattle.fal_coord.specs.Walks.{walked_paths, is_busy, placing_of, walk_paths, with_ends}

-- the call is answered with this errno, and no operation is under way any more
abbrev pub given_up : CoordState → CallRec → Point → Errno → Work
given_up coord call point errno = record { coord = at_stage coord Idle; sent = reply_letter call point (Fail errno) ∷ []; notes = [] }

-- the owner of the key is asked for the directory there. The coordinator asks by the number 255
abbrev pub ask_letter : CoordState → Key → Letter
ask_letter coord key = letter (Node (owner coord.table key)) (Here 0) (message.FetchAsk 255 coord.asked key)

-- the call waits for the directory under the key
unfoldable pub asking : CoordState → CallRec → Key → Work
asking coord call key = record {
  coord = record coord { asked = coord.asked + 1; stage = Walk call coord.asked key };
  sent = ask_letter coord key ∷ [];
  notes = [];
}

-- every node is to shut the keys
unfoldable pub locking : CoordState → CallRec → List Key → List PathWalk → Work
locking coord call keys walks = record {
  coord = at_stage coord (Lock (record { call = call; keys = keys; walks = walks }) (numbers_below coord.table.nodes) []);
  sent = to_nodes coord.table.nodes (message.Lock coord.operation keys);
  notes = [];
}

-- by how the walks end
abbrev pub walked_as : CoordState → CallRec → PathsWalk → Work
walked_as coord call (Stopped errno) = given_up coord call (Here 0) errno
walked_as coord call (Lacking key) = asking coord call key
walked_as coord call (Ready walks) = locking coord call (with_ends [] (walked_paths call.op) walks) walks

-- the call's paths are walked
unfoldable pub walk_step : CoordState → CallRec → Work
walk_step coord call = walked_as coord call (walk_paths coord.replica call.cred (walked_paths call.op))

-- a placement is refused, or every node is to give the rows of its name away
abbrev pub placing_by : CoordState → CallRec → Placing → Option Errno → Work
placing_by coord call placing None = blocking coord call placing.name
placing_by coord call placing (Some errno) = given_up coord call (Here 0) errno

-- a call that places no name has its paths walked
abbrev pub begun_by : CoordState → CallRec → Option Placing → Work
begun_by coord call None = walk_step coord call
begun_by coord call (Some placing) = placing_by coord call placing (place_refusal coord.table call.cred placing)

-- a rmdir or rename of the root is busy (POSIX.1-2017, XSH: rmdir and rename), before any walk
abbrev pub start : CoordState → CallRec → Work
start coord call = if is_busy call.op then given_up coord call (Here 0) Ebusy else begun_by coord call (placing_of call.op)

-- a new operation, for the first of the calls that wait
unfoldable pub started : CoordState → List CallRec → CoordState
started coord calls = record coord { waiting = calls; operation = coord.operation + 1 }

abbrev pub start_first : CoordState → List CallRec → Option Work
start_first coord [] = None
start_first coord (call ∷ calls) = Some (start (started coord calls) call)

-- None where an operation is under way, or no call waits
abbrev pub begin : CoordState → Stage → Option Work
begin coord Idle = start_first coord coord.waiting
begin coord (Walk call number key) = None
begin coord (Lock operation missing rows) = None
begin coord (Count operation rows dir updates missing counts) = None
begin coord (Finish keys updates missing) = None
begin coord (Block call missing rows) = None
begin coord (Install call missing) = None
