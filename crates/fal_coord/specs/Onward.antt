-- How a call goes on, and what is sent for it, by how its walks end.
use Rattle.std.specs.Prelude.{ℕ, ◌+◌, List, [], ◌∷◌, Option, None, Some, if◌then◌else◌, IsTrue}
use Rattle.fal_base.specs.declared.call.CallRec.{CallRec}
use Rattle.fal_base.specs.declared.event.Point.TheVariants.{Here}
use Rattle.fal_base.specs.declared.op.Op.{Op}
use Rattle.fal_base.specs.declared.reply.Errno.{Errno}
use Rattle.fal_base.specs.declared.reply.Errno.TheVariants.{Ebusy}
use Rattle.fal_base.specs.declared.reply.Reply.TheVariants.{Fail}
use Rattle.fal_wire.specs.declared.letter.Letter.{Letter}
use Rattle.fal_wire.specs.declared.message.Message.TheVariants as message
use Rattle.fal_wire.specs.Letters.{reply_letter}
use Rattle.fal_coord.specs.declared.patch.Next.{Next}
use Rattle.fal_coord.specs.declared.patch.Next.TheVariants as next
use Rattle.fal_coord.specs.declared.paths_walk.PathsWalk.{PathsWalk}
use Rattle.fal_coord.specs.declared.paths_walk.PathsWalk.TheVariants.{Stopped, Lacking, Ready}
use Rattle.fal_coord.specs.declared.walks.Learned.{Learned}
use Rattle.fal_coord.specs.Begin.{ask_letter}
use Rattle.fal_coord.specs.Judged.{is_for_rows}
use Rattle.fal_coord.specs.Known.{with_learned}
use Rattle.fal_coord.specs.Nodes.{numbers_below, to_nodes}
use Rattle.fal_coord.specs.State.{CoordState}
use Rattle.fal_coord.specs.Place.{place_refusal}
use Rattle.fal_coord.specs.Walks.{is_busy, parents_of, placing_of, walk_paths, walked_paths, with_ends}
use Rattle.fal_place.specs.Placement.{Placing}

-- the walks of the call's paths, with what is being learned
abbrev pub walk_of : CoordState → Option Learned → CallRec → PathsWalk
walk_of coord learned call = walk_paths (with_learned coord.replica learned) call.cred (walked_paths call.op)

-- walks that are ready have a directory for each path
abbrev pub SuitsWalk : Op → PathsWalk → Type 0
SuitsWalk call (Stopped errno) = Unit {0}
SuitsWalk call (Lacking key) = Unit {0}
SuitsWalk call (Ready walks) = IsTrue (is_for_rows call (parents_of walks))

abbrev pub next_of : ℕ → Op → PathsWalk → Next
next_of nodes call (Stopped errno) = next.Rest
next_of nodes call (Lacking key) = next.Ask key
next_of nodes call (Ready walks) = next.Lock (with_ends [] (walked_paths call) walks) walks (numbers_below nodes)

-- what is sent, by the operation with this number
abbrev pub walk_letters : CoordState → ℕ → CallRec → PathsWalk → List Letter
walk_letters coord operation call (Stopped errno) = reply_letter call (Here 0) (Fail errno) ∷ []
walk_letters coord operation call (Lacking key) = ask_letter coord key ∷ []
walk_letters coord operation call (Ready walks) = to_nodes coord.table.nodes (message.Lock operation (with_ends [] (walked_paths call.op) walks))

-- of a placement, by why it is refused
abbrev pub place_next : ℕ → Option Errno → Next
place_next nodes None = next.Block (numbers_below nodes)
place_next nodes (Some errno) = next.Rest

abbrev pub place_letters : CoordState → CallRec → Placing → Option Errno → List Letter
place_letters coord call placing None = to_nodes coord.table.nodes (message.Block (coord.operation + 1) placing.name)
place_letters coord call placing (Some errno) = reply_letter call (Here 0) (Fail errno) ∷ []

-- of a call that begins, by what it places
abbrev pub begun_next : CoordState → CallRec → Option Placing → Next
begun_next coord call None = next_of coord.table.nodes call.op (walk_of coord None call)
begun_next coord call (Some placing) = place_next coord.table.nodes (place_refusal coord.table call.cred placing)

abbrev pub begun_letters : CoordState → CallRec → Option Placing → List Letter
begun_letters coord call None = walk_letters coord (coord.operation + 1) call (walk_of coord None call)
begun_letters coord call (Some placing) = place_letters coord call placing (place_refusal coord.table call.cred placing)

abbrev pub start_next : CoordState → CallRec → Next
start_next coord call = if is_busy call.op then next.Rest else begun_next coord call (placing_of call.op)

abbrev pub start_letters : CoordState → CallRec → List Letter
start_letters coord call = if is_busy call.op then reply_letter call (Here 0) (Fail Ebusy) ∷ [] else begun_letters coord call (placing_of call.op)
