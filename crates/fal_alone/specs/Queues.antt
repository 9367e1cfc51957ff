-- The envelopes that each actor has yet to take, in one list of queues: those of the lanes first, from lane 1, then the coordinator's, and then those of the nodes, from node 0. So the number of lanes alone tells whose queue stands at a place.
use Rattle.std.specs.Prelude.{◌≡◌, ◌≤◌, ◌+◌, ◌-◌, ◌++◌, ℕ, zero, suc, Bool, false, ◌&&◌, List, [], nat_lt, nat_le, Option, Some, None, slice_get, if◌then◌else◌}
use Rattle.fal_base.specs.declared.event.Actor.{Actor}
use Rattle.fal_base.specs.declared.event.Actor.TheVariants.{Client, Node, Coord}
use Rattle.fal_base.specs.declared.event.Envelope.{Envelope}
use Rattle.fal_base.specs.declared.event.Event.{Event}
use Rattle.fal_base.specs.declared.event.Event.TheVariants as event
use Rattle.fal_story.specs.Fresh.{is_actor, due_with, due}

-- the numbers in a queue, and for how many more there is room
pub record QueueSeen : Type 0 where
  pub items : List ℕ
  pub spare : ℕ

-- whose queue stands so many places after those of the lanes
abbrev pub other_at : ℕ → Actor
other_at zero = Coord
other_at (suc number) = Node number

-- whose queue stands at a place
abbrev pub actor_at : ℕ → ℕ → Actor
actor_at lanes place = if nat_lt place lanes then Client (place + 1) else other_at (place - lanes)

-- the place of an actor's queue, if it has one
abbrev pub queue_place : ℕ → ℕ → Actor → Option ℕ
queue_place lanes nodes (Client lane) = if nat_lt 0 lane && nat_le lane lanes then Some (lane - 1) else None
queue_place lanes nodes (Node node) = if nat_lt node nodes then Some (lanes + 1 + node) else None
queue_place lanes nodes Coord = Some lanes

-- the queue at each place holds these numbers
abbrev pub Holds : (ℕ → List ℕ) → List QueueSeen → Type 0
Holds numbers queues = (place : ℕ) (queue : QueueSeen) → slice_get queues place ≡ Some queue → queue.items ≡ numbers place

-- each queue holds the numbers of its actor's envelopes that did not come
abbrev pub HoldDue : ℕ → (ℕ → Bool) → List Envelope → List QueueSeen → Type 0
HoldDue lanes came envelopes queues = Holds (λ place. due (actor_at lanes place) came envelopes) queues

-- each queue has room for so many more
abbrev pub HaveRoom : ℕ → List QueueSeen → Type 0
HaveRoom n queues = (place : ℕ) (queue : QueueSeen) → slice_get queues place ≡ Some queue → n ≤ queue.spare

-- the numbers with one more, in the queue of one actor
abbrev pub given : ℕ → (ℕ → List ℕ) → Actor → ℕ → ℕ → List ℕ
given lanes numbers to number place = numbers place ++ due_with (is_actor (actor_at lanes place) to) false number []

-- what an event takes was sent to the actor that takes it
abbrev pub WasSentTo : Actor → ℕ → List Envelope → Type 0
WasSentTo actor number envelopes = (envelope : Envelope) × ((slice_get envelopes number ≡ Some envelope) × (envelope.to ≡ actor))

abbrev pub TakesItsOwn : Event → List Envelope → Type 0
TakesItsOwn (event.Get lane number) envelopes = WasSentTo (Client lane) number envelopes
TakesItsOwn (event.Deliver node number) envelopes = WasSentTo (Node node) number envelopes
TakesItsOwn (event.Send lane) envelopes = Unit {0}
TakesItsOwn (event.Gather node) envelopes = Unit {0}
TakesItsOwn (event.Exec node batch) envelopes = Unit {0}
TakesItsOwn (event.Release node batch) envelopes = Unit {0}
TakesItsOwn (event.Serve node item) envelopes = Unit {0}
TakesItsOwn (event.Hear number) envelopes = WasSentTo Coord number envelopes
TakesItsOwn event.Start envelopes = Unit {0}
