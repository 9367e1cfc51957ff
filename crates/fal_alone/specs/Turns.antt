-- What one event of an actor does to the cluster.
use Rattle.std.specs.Prelude.{◌≡◌, ◌∷◌, [], ◌++◌, ◌-◌, ℕ, Bool, true, List, length, Option, Some, None}
use Rattle.fal_base.specs.declared.call.Config.{Config}
use Rattle.fal_base.specs.declared.event.Actor.{Actor}
use Rattle.fal_base.specs.declared.event.Actor.TheVariants.{Client, Node, Coord}
use Rattle.fal_base.specs.declared.event.Envelope.{Envelope}
use Rattle.fal_base.specs.declared.event.Event.{Event}
use Rattle.fal_client.specs.declared.event.ClientEvent.{ClientEvent}
use Rattle.fal_client.specs.declared.event.ClientEvent.TheVariants as client
use Rattle.fal_client.specs.State.{ClientState}
use Rattle.fal_client.specs.Step.{client_step}
use Rattle.fal_coord.specs.declared.event.CoordEvent.{CoordEvent}
use Rattle.fal_coord.specs.declared.event.CoordEvent.TheVariants as coord_event
use Rattle.fal_coord.specs.State.{CoordState}
use Rattle.fal_coord.specs.Step.{coord_step}
use Rattle.fal_node.specs.declared.event.NodeEvent.{NodeEvent}
use Rattle.fal_node.specs.declared.event.NodeEvent.TheVariants as node
use Rattle.fal_node.specs.State.{NodeState}
use Rattle.fal_node.specs.Step.{node_step}
use Rattle.fal_story.specs.Actors.{actor_of}
use Rattle.fal_story.specs.Clusters.{is_lane, is_node}
use Rattle.fal_story.specs.Machines.{Machine, ClientMachine, NodeMachine, CoordMachine, Made, client_made, node_made, coord_made, envelope_named, machine_step, only_where}
use Rattle.fal_story.specs.Run.{Deed, deed, run, envelopes_at, machine_in, with_machine}
use Rattle.fal_story.specs.Told.{Told}
use Rattle.fal_story.specs.World.{World}

-- the world after a run
abbrev pub world_of : Told → Option World
world_of told = run told.config told.events

-- the envelopes of a run
abbrev pub told_envelopes : Told → List Envelope
told_envelopes told = envelopes_at (world_of told)

-- the run with one more event
abbrev pub with_event : Told → Event → Told
with_event told event = record told { events = told.events ++ event ∷ [] }

abbrev pub deed_in : Config → Option World → Event → Option Deed
deed_in config None event = None
deed_in config (Some w) event = deed config w event

-- what an event does after a run; none where it is not enabled
abbrev pub deed_after : Told → Event → Option Deed
deed_after told event = deed_in told.config (world_of told) event

-- ---- which actor's event it is

-- the event's actor is in this state, and makes this of the event
abbrev pub IsOwnIn : Config → Option World → Event → Machine → Option Made → Type 0
IsOwnIn config None event m made = ⊥
IsOwnIn config (Some w) event m made = (machine_in w (actor_of event) ≡ m) × (machine_step config m event (envelope_named w.envelopes event) ≡ made)

abbrev pub IsOwn : Told → Event → Machine → Option Made → Type 0
IsOwn told event m made = IsOwnIn told.config (world_of told) event m made

-- what comes by an own event is the envelope that the event names
abbrev pub ClientGets : ClientEvent → Option Envelope → Type 0
ClientGets (client.Get envelope) named = named ≡ Some envelope
ClientGets client.Send named = Unit {0}

abbrev pub NodeGets : NodeEvent → Option Envelope → Type 0
NodeGets (node.Deliver envelope) named = named ≡ Some envelope
NodeGets other named = Unit {0}

abbrev pub CoordGets : CoordEvent → Option Envelope → Type 0
CoordGets (coord_event.Hear envelope) named = named ≡ Some envelope
CoordGets coord_event.Start named = Unit {0}

-- in this world the event is an own one of an actor, given by what the actor makes of it in each state: that, where the actor is there, and else nothing
pub record IsEventAt {State : Type 0} (config : Config) (w : World) (event : Event) (actor : Actor) (there : Bool) (machine : State → Machine) (made : State → Option Made) (Takes : Option Envelope → Type 0) : Type 0 where
  pub by : actor_of event ≡ actor
  pub gets : Takes (envelope_named w.envelopes event)
  pub makes : (s : State) → machine_step config (machine s) event (envelope_named w.envelopes event) ≡ only_where there (made s)

abbrev pub IsEventIn : {State : Type 0} → Config → Option World → Event → Actor → Bool → (State → Machine) → (State → Option Made) → (Option Envelope → Type 0) → Type 0
IsEventIn config None event actor there machine made Takes = ⊥
IsEventIn config (Some w) event actor there machine made Takes = IsEventAt config w event actor there machine made Takes

-- the event is this own one of a lane's client
abbrev pub IsEventOfClientIn : Config → Option World → Event → ℕ → ClientEvent → Type 0
IsEventOfClientIn config o event lane own = IsEventIn config o event (Client lane) (is_lane config lane) ClientMachine (λ c. client_made (client_step c own)) (ClientGets own)

abbrev pub IsEventOfClient : Told → Event → ℕ → ClientEvent → Type 0
IsEventOfClient told event lane own = IsEventOfClientIn told.config (world_of told) event lane own

-- the event is this own one of a node
abbrev pub IsEventOfNodeIn : Config → Option World → Event → ℕ → NodeEvent → Type 0
IsEventOfNodeIn config o event number own = IsEventIn config o event (Node number) (is_node config number) NodeMachine (λ n. node_made (node_step n own)) (NodeGets own)

abbrev pub IsEventOfNode : Told → Event → ℕ → NodeEvent → Type 0
IsEventOfNode told event number own = IsEventOfNodeIn told.config (world_of told) event number own

-- the event is this own one of the coordinator, which is always there
abbrev pub IsEventOfCoordIn : Config → Option World → Event → CoordEvent → Type 0
IsEventOfCoordIn config o event own = IsEventIn config o event Coord true CoordMachine (λ c. coord_made (coord_step c own)) (CoordGets own)

abbrev pub IsEventOfCoord : Told → Event → CoordEvent → Type 0
IsEventOfCoord told event own = IsEventOfCoordIn told.config (world_of told) event own

-- ---- the actors of a run

-- the state that stands at a place of the world after the run is this one
abbrev pub IsStateIn : {State : Type 0} → Option World → (World → State) → State → Type 0
IsStateIn None state s = ⊥
IsStateIn (Some w) state s = s ≡ state w

-- this is the lane's client after the run
abbrev pub IsClientIn : Option World → ℕ → ClientState → Type 0
IsClientIn o lane c = IsStateIn o (λ w. w.clients lane) c

-- this is the node after the run
abbrev pub IsNodeIn : Option World → ℕ → NodeState → Type 0
IsNodeIn o number n = IsStateIn o (λ w. w.nodes number) n

-- this is the coordinator after the run
abbrev pub IsCoordIn : Option World → CoordState → Type 0
IsCoordIn o c = IsStateIn o (λ w. w.coord) c

-- ---- from one world to the next

-- the actor is in this state, the others stay, and envelopes are sent
pub record Next (w u : World) (actor : Actor) (m : Machine) : Type 0 where
  pub clients : u.clients ≡ (with_machine w actor m).clients
  pub nodes : u.nodes ≡ (with_machine w actor m).nodes
  pub coord : u.coord ≡ (with_machine w actor m).coord
  pub sent : List Envelope
  pub envelopes : u.envelopes ≡ w.envelopes ++ sent

abbrev pub NextIn : Option World → Option World → Actor → Machine → Type 0
NextIn (Some w) (Some u) actor m = Next w u actor m
NextIn (Some w) None actor m = ⊥
NextIn None u actor m = ⊥

-- how many envelopes an event sends
abbrev pub sent_count : Told → Event → ℕ
sent_count told event = length (told_envelopes (with_event told event)) - length (told_envelopes told)
