-- The fresh events that a cluster's clients, nodes, coordinator and queues show.
use Rattle.std.specs.Prelude.{ℕ, List, [], ◌∷◌, ◌++◌, map, is_some, if◌then◌else◌}
use Rattle.std.specs.List.{enumerate_from, flat_map, zip}
use Rattle.fal_base.specs.declared.event.Actor.{Actor}
use Rattle.fal_base.specs.declared.event.Actor.TheVariants.{Client, Node, Coord}
use Rattle.fal_base.specs.declared.event.Event.{Event}
use Rattle.fal_base.specs.declared.event.Event.TheVariants as event
use Rattle.fal_client.specs.declared.event.ClientEvent.TheVariants as client
use Rattle.fal_client.specs.State.{ClientState}
use Rattle.fal_client.specs.Step.{client_step}
use Rattle.fal_coord.specs.declared.event.CoordEvent.TheVariants as coord_event
use Rattle.fal_coord.specs.State.{CoordState}
use Rattle.fal_coord.specs.Step.{coord_step}
use Rattle.fal_node.specs.Due.{dues}
use Rattle.fal_node.specs.Patch.{SeenNode}
use Rattle.fal_story.specs.Fresh.{event_of_node}
use Rattle.fal_alone.specs.Queues.{QueueSeen}

-- the envelope of a number comes to an actor
abbrev pub arrival : Actor → ℕ → Event
arrival (Client lane) number = event.Get lane number
arrival (Node node) number = event.Deliver node number
arrival Coord number = event.Hear number

-- what comes to an actor
abbrev pub arrivals : Actor → QueueSeen → List Event
arrivals actor queue = map (λ number. arrival actor number) queue.items

-- what comes to a lane
abbrev pub gets : ℕ → QueueSeen → List Event
gets lane queue = arrivals (Client lane) queue

-- what comes to a node, and then its own events
abbrev pub node_events : ℕ → QueueSeen → SeenNode → List Event
node_events number queue n = arrivals (Node number) queue ++ map (λ e. event_of_node number e) (dues n.state)

-- the coordinator's Start, where it has one
abbrev pub starts : CoordState → List Event
starts coord = if is_some (coord_step coord coord_event.Start) then event.Start ∷ [] else []

-- what comes to the coordinator, and then its Start
abbrev pub coord_events : QueueSeen → CoordState → List Event
coord_events queue coord = arrivals Coord queue ++ starts coord

-- a lane's Send, where it has one
abbrev pub sends : ℕ → ClientState → List Event
sends lane c = if is_some (client_step c client.Send) then event.Send lane ∷ [] else []

-- what comes to the lanes, of which the first has this number
abbrev pub all_gets : ℕ → List QueueSeen → List Event
all_gets first queues = flat_map (λ p. gets p.0 p.1) (enumerate_from first queues)

-- what is fresh at the nodes, of which the first has this number
abbrev pub all_node_events : ℕ → List QueueSeen → List SeenNode → List Event
all_node_events first queues nodes = flat_map (λ p. node_events p.0 p.1.0 p.1.1) (enumerate_from first (zip queues nodes))

-- what is fresh at the lanes, of which the first has this number: a Send, and then what comes
abbrev pub all_lane_events : ℕ → List QueueSeen → List ClientState → List Event
all_lane_events first queues clients = flat_map (λ p. sends p.0 p.1.1 ++ gets p.0 p.1.0) (enumerate_from first (zip queues clients))
