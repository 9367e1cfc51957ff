-- The event table: what an actor of a run makes of an event of its own, given the envelope that the event names. All else that is said of events is said by it.
use Rattle.std.specs.Prelude.{Bool, true, false, List, map, Option, None, Some, slice_get}
use Rattle.fal_base.specs.declared.call.Config.{Config}
use Rattle.fal_base.specs.declared.event.Envelope.{Envelope}
use Rattle.fal_base.specs.declared.event.Event.{Event}
use Rattle.fal_base.specs.declared.event.Event.TheVariants as event
use Rattle.fal_base.specs.declared.event.Outputs.{Outputs}
use Rattle.fal_wire.specs.Letters.{output_of}
use Rattle.fal_client.specs.declared.event.ClientEvent.TheVariants as client
use Rattle.fal_client.specs.State.{ClientState, Work as ClientWork}
use Rattle.fal_client.specs.Step.{client_step}
use Rattle.fal_coord.specs.declared.event.CoordEvent.TheVariants as coord_event
use Rattle.fal_coord.specs.State.{CoordState, Work as CoordWork}
use Rattle.fal_coord.specs.Step.{coord_step}
use Rattle.fal_node.specs.declared.event.NodeEvent.TheVariants as node
use Rattle.fal_node.specs.Letters.{Work}
use Rattle.fal_node.specs.State.{NodeState}
use Rattle.fal_node.specs.Step.{node_step}
use Rattle.fal_story.specs.Clusters.{is_lane, is_node}

-- the state of an actor of any kind
pub data Machine : Type 0 where
  ClientMachine : ClientState → Machine
  NodeMachine : NodeState → Machine
  CoordMachine : CoordState → Machine

-- an actor after an event, and what it made
abbrev pub Made : Type 0
Made = Machine × Outputs

-- ---- the envelope that an event names

-- it has to be sent before it comes
abbrev pub envelope_named : List Envelope → Event → Option Envelope
envelope_named sent (event.Get lane number) = slice_get sent number
envelope_named sent (event.Deliver number envelope) = slice_get sent envelope
envelope_named sent (event.Hear number) = slice_get sent number
envelope_named sent other = None

abbrev pub client_hears : ClientState → Option Envelope → Option ClientWork
client_hears c None = None
client_hears c (Some envelope) = client_step c (client.Get envelope)

abbrev pub node_hears : NodeState → Option Envelope → Option Work
node_hears n None = None
node_hears n (Some envelope) = node_step n (node.Deliver envelope)

abbrev pub coord_hears : CoordState → Option Envelope → Option CoordWork
coord_hears c None = None
coord_hears c (Some envelope) = coord_step c (coord_event.Hear envelope)

-- ---- the table

-- what is there only where the test is passed
abbrev pub only_where : {A : Type 0} → Bool → Option A → Option A
only_where true x = x
only_where false x = None

-- what a client makes of an event, if that is its own, of a lane that is there, and enabled
abbrev pub client_work : Config → ClientState → Event → Option Envelope → Option ClientWork
client_work config c (event.Send lane) envelope = only_where (is_lane config lane) (client_step c client.Send)
client_work config c (event.Get lane number) envelope = only_where (is_lane config lane) (client_hears c envelope)
client_work config c other envelope = None

-- what a node makes of an event, in the same way
abbrev pub node_work : Config → NodeState → Event → Option Envelope → Option Work
node_work config n (event.Deliver number at) envelope = only_where (is_node config number) (node_hears n envelope)
node_work config n (event.Gather number) envelope = only_where (is_node config number) (node_step n node.Gather)
node_work config n (event.Exec number batch) envelope = only_where (is_node config number) (node_step n (node.Exec batch))
node_work config n (event.Release number batch) envelope = only_where (is_node config number) (node_step n (node.Release batch))
node_work config n (event.Serve number item) envelope = only_where (is_node config number) (node_step n (node.Serve item))
node_work config n other envelope = None

-- what the coordinator makes of an event
abbrev pub coord_work : CoordState → Event → Option Envelope → Option CoordWork
coord_work c (event.Hear number) envelope = coord_hears c envelope
coord_work c event.Start envelope = coord_step c coord_event.Start
coord_work c other envelope = None

-- ---- the same of an actor of any kind

abbrev pub client_made : Option ClientWork → Option Made
client_made None = None
client_made (Some move) = Some (ClientMachine move.client, record { sent = map output_of move.sent; notes = move.notes })

abbrev pub node_made : Option Work → Option Made
node_made None = None
node_made (Some work) = Some (NodeMachine work.node, record { sent = map output_of work.sent; notes = work.notes })

abbrev pub coord_made : Option CoordWork → Option Made
coord_made None = None
coord_made (Some work) = Some (CoordMachine work.coord, record { sent = map output_of work.sent; notes = work.notes })

-- the actor after the event, given the envelope that the event names, and what it makes; none where the event is not its own, or not enabled
abbrev pub machine_step : Config → Machine → Event → Option Envelope → Option Made
machine_step config (ClientMachine c) e envelope = client_made (client_work config c e envelope)
machine_step config (NodeMachine n) e envelope = node_made (node_work config n e envelope)
machine_step config (CoordMachine c) e envelope = coord_made (coord_work c e envelope)
