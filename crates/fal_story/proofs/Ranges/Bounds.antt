-- What holds of every value that an actor keeps, so that each record that it makes is within the ranges of the format, and no counter passes the end of its type.
use Rattle.std.proofs.Common.{◌≡◌, ℕ, ◌+◌, ◌*◌, ◌≤◌, List, [], ◌∷◌, length, Some}
use Rattle.std.specs.Prelude.{slice_get}
use Rattle.fal_base.specs.declared.call.CallRec.{CallRec}
use Rattle.fal_base.specs.declared.event.Envelope.{Envelope}
use Rattle.fal_base.specs.declared.inode.Dentry.{Dentry}
use Rattle.fal_base.specs.declared.inode.Inode.{Inode}
use Rattle.fal_base.specs.declared.key.Key.{Key}
use Rattle.fal_base.specs.Maps.{value_at}
use Rattle.fal_base.specs.Tree.{IsInOrder, row_at}
use Rattle.fal_client.specs.declared.current.Current.{Current}
use Rattle.fal_client.specs.declared.event.ClientEvent.{ClientEvent}
use Rattle.fal_client.specs.declared.event.ClientEvent.TheVariants as client
use Rattle.fal_client.specs.State.{ClientState}
use Rattle.fal_client.specs.Step.{attempt_of, dir_of}
use Rattle.fal_coord.specs.declared.event.CoordEvent.{CoordEvent}
use Rattle.fal_coord.specs.declared.event.CoordEvent.TheVariants as coord
use Rattle.fal_node.specs.declared.event.NodeEvent.{NodeEvent}
use Rattle.fal_node.specs.declared.event.NodeEvent.TheVariants as node
use Rattle.fal_node.specs.declared.item.Item.{Item}
use Rattle.fal_node.specs.State.{NodeState}
use Rattle.fal_wire.specs.declared.message.Message.{Message}
use Rattle.fal_wire.specs.declared.message.Message.TheVariants as message
use Rattle.fal_wire.specs.Messages.{FieldsFit, spelling}
use Rattle.fal_wire.specs.Ops.{call_field}
use Rattle.fal_wire.specs.Rows.{inode_field, dentry_field}
use Rattle.fal_story.proofs.Lists.Each.{Each}
use Rattle.fal_story.proofs.Ranges.CoordBounds.{IsCoordRanged}
use Rattle.fal_story.proofs.Ranges.RecordFits.{HasDir, IsDirRanged, RecordFits}
use Rattle.fal_story.specs.World.{World}

-- the call can be spelled
abbrev pub CallFits : CallRec → Type 0
CallFits call = call_field.Fits call

-- every call, row, directory and item that a node keeps can be spelled, its rows are in order, and a batch is no larger than 64 calls
pub record IsNodeRanged (x : NodeState) : Type 0 where
  pub rows : (key : Key) (inode : Inode) → row_at x.rows key ≡ Some inode → inode_field.Fits inode
  pub sorted : IsInOrder x.rows
  pub replica : (key : Key) (dentry : Dentry) → value_at x.replica key ≡ Some dentry → dentry_field.Fits dentry
  pub waiting : Each (λ w. CallFits w.call) x.waiting.calls
  pub items : Each (λ item. FieldsFit item.message × HasDir item.message) x.items
  pub batches : Each (λ batch. (length batch.calls ≤ 64) × Each (λ planned. CallFits planned.call) batch.calls) x.batches

-- how many operations begin to keep calls off some keys, and so cancel the pending fetches, once this item is served
abbrev pub cancels : Message → ℕ
cancels (message.Lock operation keys) = 1
cancels other = 0

abbrev pub cancelling : List Item → ℕ
cancelling [] = 0
cancelling (item ∷ items) = cancels item.message + cancelling items

-- the counters of a node after so many events of the cluster: each event raises one of them by one, but for fetches, of which one Gather may open several.
-- These are counted by the pending ones, of which there are no more than waiting calls, and so at most 16, one for each lane. As many are cancelled at most
-- by each operation that the node has taken, and none yet by one of which the item is still to be served
pub record IsNodeCounted (events : ℕ) (x : NodeState) : Type 0 where
  pub tickets : x.waiting.tickets ≤ events
  pub items : x.items_numbered ≤ events
  pub batches : x.batches_numbered ≤ events
  pub fetches : x.waiting.opened + x.waiting.tickets + 16 * cancelling x.items ≤ events + length x.waiting.fetches + 16 * x.last_operation

-- the bytes of an envelope are a record
abbrev pub IsRecord : Envelope → Type 0
IsRecord envelope = (m : Message) × RecordFits m × (envelope.bytes ≡ spelling m)

-- a client tries a call anew only by a later table, and the directory that it lists has a number
pub record IsClientRanged (c : ClientState) : Type 0 where
  pub tried : attempt_of c.current ≤ 1 + c.table.version
  pub dir : (current : Current) (dir : ℕ) → c.current ≡ Some current → dir_of current.listing ≡ Some dir → IsDirRanged dir

pub record IsRanged (w : World) : Type 0 where
  pub clients : (l : ℕ) → IsClientRanged (w.clients l)
  pub nodes : (n : ℕ) → IsNodeRanged (w.nodes n)
  pub counted : (n : ℕ) → IsNodeCounted w.events (w.nodes n)
  pub coord : IsCoordRanged w.events w.coord
  pub envelopes : Each IsRecord w.envelopes

-- an envelope that comes was sent
abbrev pub Comes : World → NodeEvent → Type 0
Comes w (node.Deliver envelope) = (number : ℕ) × (slice_get w.envelopes number ≡ Some envelope)
Comes w other = Unit {0}

-- and so was one that comes to a client
abbrev pub ComesToClient : World → ClientEvent → Type 0
ComesToClient w (client.Get envelope) = (number : ℕ) × (slice_get w.envelopes number ≡ Some envelope)
ComesToClient w client.Send = Unit {0}

-- and one that comes to the coordinator
abbrev pub ComesToCoord : World → CoordEvent → Type 0
ComesToCoord w (coord.Hear envelope) = (number : ℕ) × (slice_get w.envelopes number ≡ Some envelope)
ComesToCoord w coord.Start = Unit {0}
