-- Legal runs: each event is enabled after those before it, and a record is delivered only after it was sent, any number of times and in any order.
use Rattle.std.specs.Prelude.{◌≡◌, ℕ, ◌<◌, ◌^◌, List, [], ◌∷◌, length, Option, Some, None, IsSome, IsSomeAnd}
use Rattle.fal_base.specs.declared.call.Config.{Config}
use Rattle.fal_base.specs.declared.entry.Entry.{Entry}
use Rattle.fal_base.specs.declared.event.Actor.{Actor}
use Rattle.fal_base.specs.declared.event.Actor.TheVariants.{Client, Node, Coord}
use Rattle.fal_base.specs.declared.event.Envelope.{Envelope}
use Rattle.fal_base.specs.declared.event.Event.{Event}
use Rattle.fal_base.specs.declared.event.Note.{Note}
use Rattle.fal_base.specs.declared.event.Output.{Output}
use Rattle.fal_client.specs.State.{Work as ClientWork}
use Rattle.fal_node.specs.Letters.{Work}
use Rattle.fal_story.specs.Actors.{actor_of}
use Rattle.fal_story.specs.Clusters.{IsCluster}
use Rattle.fal_story.specs.Machines.{Machine, ClientMachine, NodeMachine, CoordMachine, Made, envelope_named, client_made, node_made, machine_step}
pub use Rattle.fal_story.specs.Machines.{only_where, client_hears, node_hears}
use Rattle.fal_story.specs.World.{World, put, posted, opening_world}

-- ---- what an event does to the cluster

-- an event under way: the actors after it, who made it, and the records and notes that are still to be posted
pub record Deed : Type 0 where
  pub world : World
  pub from : Actor
  pub sent : List Output
  pub notes : List Note

-- an actor of the world
abbrev pub machine_in : World → Actor → Machine
machine_in w (Client lane) = ClientMachine (w.clients lane)
machine_in w (Node number) = NodeMachine (w.nodes number)
machine_in w Coord = CoordMachine w.coord

-- the world in which that actor is this one, which is of the same kind
abbrev pub with_machine : World → Actor → Machine → World
with_machine w (Client lane) (ClientMachine c) = record w { clients = put w.clients lane c }
with_machine w (Node number) (NodeMachine n) = record w { nodes = put w.nodes number n }
with_machine w Coord (CoordMachine c) = record w { coord = c }
with_machine w actor other = w

-- what an actor made
abbrev pub deed_by : World → Actor → Option Made → Option Deed
deed_by w from None = None
deed_by w from (Some made) = Some (record { world = with_machine w from made.0; from = from; sent = made.1.sent; notes = made.1.notes })

abbrev pub client_deed : World → ℕ → Option ClientWork → Option Deed
client_deed w lane move = deed_by w (Client lane) (client_made move)

abbrev pub node_deed : World → ℕ → Option Work → Option Deed
node_deed w number work = deed_by w (Node number) (node_made work)

-- what the actor of the event makes of it; none where the event is not enabled
unfoldable pub deed : Config → World → Event → Option Deed
deed config w e = deed_by w (actor_of e) (machine_step config (machine_in w (actor_of e)) e (envelope_named w.envelopes e))

abbrev pub done : Config → Option Deed → Option World
done config None = None
done config (Some d) = Some (posted config d.world d.from d.sent d.notes)

-- the world after one event, if it is enabled
abbrev pub step : Config → World → Event → Option World
step config w event = done config (deed config w event)

-- ---- runs

-- the world after events, if each of them was enabled
abbrev pub run_from : Config → Option World → List Event → Option World
run_from config w [] = w
run_from config None (event ∷ events) = None
run_from config (Some w) (event ∷ events) = run_from config (step config w event) events

unfoldable pub run : Config → List Event → Option World
run config events = run_from config (Some (opening_world config)) events

-- events of a cluster that may run, each enabled after those before it
pub record IsLegal (config : Config) (events : List Event) : Type 0 where
  pub cluster : IsCluster config
  pub enabled : IsSome (run config events)
  pub few : length events < 2 ^ 63

abbrev pub entries_at : Option World → List Entry
entries_at None = []
entries_at (Some w) = w.entries

abbrev pub envelopes_at : Option World → List Envelope
envelopes_at None = []
envelopes_at (Some w) = w.envelopes

abbrev pub commits_at : Option World → ℕ
commits_at None = 0
commits_at (Some w) = length w.commits

-- what a run records
abbrev pub transcript : Config → List Event → List Entry
transcript config events = entries_at (run config events)

-- ---- what an event adds to a run

-- the event is enabled in this world, and makes these outputs
abbrev pub Makes : Config → Option World → Event → List Output → List Note → Type 0
Makes config world event sent notes = IsSomeAnd world (λ w. IsSomeAnd (deed config w event) (λ d. (d.sent ≡ sent) × (d.notes ≡ notes)))

-- the event is enabled after these events, and makes these outputs
abbrev pub Follows : Config → List Event → Event → List Output → List Note → Type 0
Follows config events event sent notes = Makes config (run config events) event sent notes

-- the event is enabled after these events
abbrev pub IsEnabled : Config → List Event → Event → Type 0
IsEnabled config events event = IsSomeAnd (run config events) (λ w. IsSome (deed config w event))
