-- Who makes an event, and the numbers of actors.
use Rattle.std.specs.Prelude.{ℕ, ◌+◌, Bool, true, false, nat_lt, nat_le, ◌&&◌, if◌then◌else◌, ◌==◌, List, filter}
use Rattle.fal_base.specs.declared.event.Actor.{Actor}
use Rattle.fal_base.specs.declared.event.Actor.TheVariants.{Client, Node, Coord}
use Rattle.fal_base.specs.declared.event.Event.{Event}
use Rattle.fal_base.specs.declared.event.Event.TheVariants as event

-- who makes an event
abbrev pub actor_of : Event → Actor
actor_of (event.Send lane) = Client lane
actor_of (event.Get lane number) = Client lane
actor_of (event.Deliver number envelope) = Node number
actor_of (event.Gather number) = Node number
actor_of (event.Exec number batch) = Node number
actor_of (event.Release number batch) = Node number
actor_of (event.Serve number item) = Node number
actor_of (event.Hear number) = Coord
actor_of event.Start = Coord

abbrev pub is_actor : Actor → Actor → Bool
is_actor (Client a) (Client b) = a == b
is_actor (Node a) (Node b) = a == b
is_actor Coord Coord = true
is_actor a b = false

-- those of the events that the actor makes, in their order
abbrev pub own_events : Actor → List Event → List Event
own_events actor events = filter (λ e. is_actor actor (actor_of e)) events

-- ---- numbers

-- the number of a lane's client, which is 17 to 32, and 255 of a lane that no cluster has
abbrev pub client_number : ℕ → ℕ
client_number lane = if nat_lt 0 lane && nat_le lane 16 then 16 + lane else 255

-- the number of a node, which is 0 to 15, and 255 of a node that no cluster has
abbrev pub node_number : ℕ → ℕ
node_number number = if nat_lt number 16 then number else 255

-- the number of an actor, which is 16 of the coordinator
abbrev pub number_of : Actor → ℕ
number_of (Client lane) = client_number lane
number_of (Node number) = node_number number
number_of Coord = 16

-- the number of the actor that makes the event, whatever the cluster
unfoldable pub actor_number : Event → ℕ
actor_number e = number_of (actor_of e)
