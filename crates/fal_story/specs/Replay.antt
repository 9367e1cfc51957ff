-- The replay of one actor: its opening state, changed by its own events alone, with the envelopes that were sent.
use Rattle.std.specs.Prelude.{◌≡◌, List, [], ◌∷◌, Option, Some, None}
use Rattle.std.specs.Option.{option_map}
use Rattle.fal_base.specs.declared.call.Config.{Config}
use Rattle.fal_base.specs.declared.event.Actor.{Actor}
use Rattle.fal_base.specs.declared.event.Envelope.{Envelope}
use Rattle.fal_base.specs.declared.event.Event.{Event}
use Rattle.fal_story.specs.Actors.{own_events}
use Rattle.fal_story.specs.Machines.{Machine, Made, machine_step, envelope_named}
use Rattle.fal_story.specs.Run.{run, envelopes_at, machine_in}
use Rattle.fal_story.specs.World.{opening_world}

-- an event of an actor that got so far
abbrev pub try_step : Config → List Envelope → Option Machine → Event → Option Made
try_step config sent None e = None
try_step config sent (Some m) e = machine_step config m e (envelope_named sent e)

-- the actor after an event, if that was enabled
abbrev pub machine_after : Option Made → Option Machine
machine_after None = None
machine_after (Some made) = Some made.0

-- an actor after further events of its own
abbrev pub replay_from : Config → List Envelope → Option Machine → List Event → Option Machine
replay_from config sent m [] = m
replay_from config sent m (e ∷ es) = replay_from config sent (machine_after (try_step config sent m e)) es

-- the actor before its first event
abbrev pub opening_machine : Config → Actor → Machine
opening_machine config actor = machine_in (opening_world config) actor

-- the actor after these events, which are its own, each given the envelope that it names; none where one of them was not enabled
unfoldable pub replay : Config → List Envelope → Actor → List Event → Option Machine
replay config sent actor own = replay_from config sent (Some (opening_machine config actor)) own

-- each actor of a run is the replay of its own events
abbrev pub IsReplayed : Config → List Event → Type 0
IsReplayed config events = (actor : Actor) → replay config (envelopes_at (run config events)) actor (own_events actor events) ≡ option_map (λ w. machine_in w actor) (run config events)
