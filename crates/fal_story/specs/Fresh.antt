-- Which events are fresh: those that are enabled, where a delivery is of an envelope that did not come before. And when a cluster is quiet.
use Rattle.std.specs.Prelude.{◌≡◌, ℕ, suc, Bool, true, false, List, [], ◌∷◌, ◌++◌, length, map, take, Option, Some, None, is_some, if◌then◌else◌, slice_get}
use Rattle.std.specs.List.{flat_map, range_with_len}
use Rattle.fal_base.specs.declared.call.Config.{Config}
use Rattle.fal_base.specs.declared.entry.Entry.{Entry}
use Rattle.fal_base.specs.declared.entry.Entry.TheVariants as entry
use Rattle.fal_base.specs.declared.event.Actor.{Actor}
use Rattle.fal_base.specs.declared.event.Actor.TheVariants.{Client, Node, Coord}
use Rattle.fal_base.specs.declared.event.Envelope.{Envelope}
use Rattle.fal_base.specs.declared.event.Event.{Event}
use Rattle.fal_base.specs.declared.event.Event.TheVariants as event
use Rattle.fal_base.specs.declared.reply.Reply.{Reply}
use Rattle.fal_client.specs.declared.event.ClientEvent.TheVariants as client
use Rattle.fal_client.specs.Step.{client_step}
use Rattle.fal_node.specs.declared.event.OwnEvent.{OwnEvent}
use Rattle.fal_node.specs.declared.event.OwnEvent.TheVariants as own
use Rattle.fal_coord.specs.declared.event.CoordEvent.TheVariants as coord_event
use Rattle.fal_coord.specs.State.{is_quiet as is_coord_quiet}
use Rattle.fal_coord.specs.Step.{coord_step}
use Rattle.fal_node.specs.Due.{dues, is_quiet}
pub use Rattle.fal_story.specs.Actors.{is_actor}
use Rattle.fal_story.specs.Run.{run}
use Rattle.fal_story.specs.World.{World, put}

-- ---- which envelopes came

-- whether each envelope, by its number, came at least once; with one more event
abbrev pub came_with : Event → (ℕ → Bool) → ℕ → Bool
came_with (event.Get lane number) came = put came number true
came_with (event.Deliver node number) came = put came number true
came_with (event.Hear number) came = put came number true
came_with other came = came

abbrev pub came_from : (ℕ → Bool) → List Event → ℕ → Bool
came_from came [] = came
came_from came (event ∷ events) = came_from (came_with event came) events

-- whether each envelope came at least once in a run
unfoldable pub came : List Event → ℕ → Bool
came events = came_from (λ number. false) events

-- ---- what is due

-- the number at the front where the envelope is the actor's and did not come
abbrev pub due_with : Bool → Bool → ℕ → List ℕ → List ℕ
due_with true false number numbers = number ∷ numbers
due_with true true number numbers = numbers
due_with false came number numbers = numbers

-- the numbers of the envelopes to an actor that did not come. The list begins with this number
abbrev pub due_from : Actor → (ℕ → Bool) → ℕ → List Envelope → List ℕ
due_from actor came number [] = []
due_from actor came number (envelope ∷ envelopes) = due_with (is_actor actor envelope.to) (came number) number (due_from actor came (suc number) envelopes)

abbrev pub due : Actor → (ℕ → Bool) → List Envelope → List ℕ
due actor came envelopes = due_from actor came 0 envelopes

-- ---- fresh events, in their order

-- a node's own event, as an event of the run
abbrev pub event_of_node : ℕ → OwnEvent → Event
event_of_node number own.Gather = event.Gather number
event_of_node number (own.Exec batch) = event.Exec number batch
event_of_node number (own.Release batch) = event.Release number batch
event_of_node number (own.Serve item) = event.Serve number item

abbrev pub fresh_send : World → ℕ → List Event
fresh_send w lane = if is_some (client_step (w.clients lane) client.Send) then event.Send lane ∷ [] else []

-- what comes to a lane, by envelope number
abbrev pub fresh_gets : World → (ℕ → Bool) → ℕ → List Event
fresh_gets w came lane = map (λ number. event.Get lane number) (due (Client lane) came w.envelopes)

-- what comes to a node, by envelope number, and then its own events
abbrev pub fresh_at_node : World → (ℕ → Bool) → ℕ → List Event
fresh_at_node w came number =
    map (λ envelope. event.Deliver number envelope) (due (Node number) came w.envelopes) ++ map (λ e. event_of_node number e) (dues (w.nodes number))

abbrev pub fresh_start : World → List Event
fresh_start w = if is_some (coord_step w.coord coord_event.Start) then event.Start ∷ [] else []

-- what comes to the coordinator, by envelope number, and then its Start
abbrev pub fresh_at_coord : World → (ℕ → Bool) → List Event
fresh_at_coord w came = map (λ number. event.Hear number) (due Coord came w.envelopes) ++ fresh_start w

-- the lanes, from 1, then the nodes, from 0, and then the coordinator
abbrev pub fresh : Config → World → (ℕ → Bool) → List Event
fresh config w came =
    flat_map (λ lane. fresh_send w lane ++ fresh_gets w came lane) (range_with_len 1 (length config.lanes))
    ++ flat_map (λ number. fresh_at_node w came number) (range_with_len 0 config.nodes)
    ++ fresh_at_coord w came

-- the same without Sends
abbrev pub fresh_replies : Config → World → (ℕ → Bool) → List Event
fresh_replies config w came =
    flat_map (λ lane. fresh_gets w came lane) (range_with_len 1 (length config.lanes))
    ++ flat_map (λ number. fresh_at_node w came number) (range_with_len 0 config.nodes)
    ++ fresh_at_coord w came

-- ---- quiet

-- every envelope came, no node has a batch, a waiting call or an item, and no call waits for the coordinator, which has no operation under way
pub record IsQuiet (config : Config) (w : World) (came : ℕ → Bool) : Type 0 where
  pub all_came : (number : ℕ) (envelope : Envelope) → slice_get w.envelopes number ≡ Some envelope → came number ≡ true
  pub nodes : (number : ℕ) → is_quiet (w.nodes number) ≡ true
  pub coord : is_coord_quiet w.coord ≡ true

abbrev pub IsQuietAt : Config → Option World → (ℕ → Bool) → Type 0
IsQuietAt config None came = ⊥
IsQuietAt config (Some w) came = IsQuiet config w came

-- ---- drains

abbrev pub fresh_at : Config → Option World → (ℕ → Bool) → List Event
fresh_at config None came = []
fresh_at config (Some w) came = fresh config w came

abbrev pub fresh_replies_at : Config → Option World → (ℕ → Bool) → List Event
fresh_replies_at config None came = []
fresh_replies_at config (Some w) came = fresh_replies config w came

-- the first fresh event of a run, other than a Send
abbrev pub first_reply : Config → List Event → Option Event
first_reply config events = slice_get (fresh_replies_at config (run config events) (came events)) 0

-- more events, each of which was the first fresh one, until there is none
pub record IsDrained (config : Config) (events more : List Event) : Type 0 where
  pub each : (k : ℕ) (event : Event) → slice_get more k ≡ Some event → first_reply config (events ++ take k more) ≡ Some event
  pub none : first_reply config (events ++ more) ≡ None

-- each call that was sent is answered
abbrev pub AreAnswered : List Entry → Type 0
AreAnswered entries = (j lane seq : ℕ) → slice_get entries j ≡ Some (entry.Sent lane seq)
    → (i : ℕ) × ((point : ℕ) × ((reply : Reply) × (slice_get entries i ≡ Some (entry.Answered lane seq point reply))))
