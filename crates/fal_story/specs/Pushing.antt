-- What may be pushed onto a list of events, legal or not: an event is judged by the replay of its actor's own events and by what was sent so far, and by nothing else.
use Rattle.std.specs.Prelude.{◌≡◌, ℕ, ◌+◌, List, [], ◌∷◌, ◌++◌, length, Option, Some, None}
use Rattle.fal_base.specs.declared.call.Config.{Config}
use Rattle.fal_base.specs.declared.event.Actor.{Actor}
use Rattle.fal_base.specs.declared.event.Envelope.{Envelope}
use Rattle.fal_base.specs.declared.event.Event.{Event}
use Rattle.fal_base.specs.declared.event.Outputs.{Outputs}
use Rattle.fal_base.specs.Transcript.{commits_of}
use Rattle.fal_story.specs.Actors.{actor_of, own_events}
use Rattle.fal_story.specs.Clusters.{IsCluster}
use Rattle.fal_story.specs.Machines.{Machine, Made}
use Rattle.fal_story.specs.Replay.{try_step, replay}
use Rattle.fal_story.specs.World.{envelopes_of, entries_of}

-- what was sent, and how many commits were made
pub record Sent : Type 0 where
  pub envelopes : List Envelope
  pub commits : ℕ

-- what the event makes after a list, of which this was sent
abbrev pub outcome_with : Config → Sent → List Event → Event → Option Made
outcome_with config so_far before e = try_step config so_far.envelopes (replay config so_far.envelopes (actor_of e) (own_events (actor_of e) before)) e

-- what was sent with the records and notes of one more event, which has this number. An event that is not enabled makes none
abbrev pub sent_after : Config → Sent → Actor → ℕ → Option Made → Sent
sent_after config so_far from number None = so_far
sent_after config so_far from number (Some made) = record {
  envelopes = so_far.envelopes ++ envelopes_of from number so_far.commits made.1.sent;
  commits = so_far.commits + length (commits_of config (entries_of so_far.commits made.1.notes));
}

-- what was sent with one more event after this list
abbrev pub sent_then : Config → Sent → List Event → Event → Sent
sent_then config so_far before e = sent_after config so_far (actor_of e) (length before) (outcome_with config so_far before e)

-- what was sent with more events after this list
abbrev pub sent_from : Config → Sent → List Event → List Event → Sent
sent_from config so_far before [] = so_far
sent_from config so_far before (e ∷ es) = sent_from config (sent_then config so_far before e) (before ++ e ∷ []) es

-- what these events sent, and how many commits they made
unfoldable pub sent_by : Config → List Event → Sent
sent_by config es = sent_from config (record { envelopes = []; commits = 0 }) [] es

-- the envelopes that these events sent, by their numbers
abbrev pub all_sent : Config → List Event → List Envelope
all_sent config es = (sent_by config es).envelopes

-- what the event makes after this list, if it is enabled
abbrev pub outcome : Config → List Event → Event → Option Made
outcome config es e = outcome_with config (sent_by config es) es e

-- the event is enabled after this list in a cluster that may run, and makes these outputs
pub record MayPush (config : Config) (es : List Event) (e : Event) (outputs : Outputs) : Type 0 where
  pub cluster : IsCluster config
  pub after : Machine
  pub makes : outcome config es e ≡ Some (after, outputs)
