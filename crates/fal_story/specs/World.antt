-- The cluster as a whole while it runs: its actors, all records that were sent, and what was recorded.
use Rattle.std.specs.Prelude.{ℕ, ◌+◌, List, [], ◌++◌, length, map, if◌then◌else◌, ◌==◌}
use Rattle.fal_base.specs.declared.call.Config.{Config}
use Rattle.fal_base.specs.declared.entry.Entry.{Entry}
use Rattle.fal_base.specs.declared.entry.Entry.TheVariants as entry
use Rattle.fal_base.specs.declared.event.Actor.{Actor}
use Rattle.fal_base.specs.declared.event.Envelope.{Envelope}
use Rattle.fal_base.specs.declared.event.Note.{Note}
use Rattle.fal_base.specs.declared.event.Note.TheVariants as note
use Rattle.fal_base.specs.declared.event.Output.{Output}
use Rattle.fal_base.specs.declared.event.Point.{Point}
use Rattle.fal_base.specs.declared.event.Point.TheVariants.{Here, Carried}
use Rattle.fal_base.specs.Commits.{Commit}
use Rattle.fal_base.specs.Transcript.{commits_of}
use Rattle.fal_client.specs.State.{ClientState, opening_client}
use Rattle.fal_coord.specs.State.{CoordState, opening_coord}
use Rattle.fal_node.specs.State.{NodeState, opening_node}
use Rattle.fal_story.specs.Clusters.{calls_of_lane}

-- clients by lane from 1, nodes from 0, and the coordinator; how many events there were; the envelopes, entries and commits of them, in order
pub record World : Type 0 where
  pub clients : ℕ → ClientState
  pub nodes : ℕ → NodeState
  pub coord : CoordState
  pub events : ℕ
  pub envelopes : List Envelope
  pub entries : List Entry
  pub commits : List Commit

-- the function that gives this value at one place
abbrev pub put : {A : Type 0} → (ℕ → A) → ℕ → A → ℕ → A
put f n x m = if m == n then x else f m

-- a point of an event that begins after so many commits
abbrev pub point_of : ℕ → Point → ℕ
point_of commits (Here k) = commits + k
point_of commits (Carried point) = point

-- the record on its way, sent by this actor in the event of this number
abbrev pub envelope_of : Actor → ℕ → ℕ → Output → Envelope
envelope_of from event commits output =
    record { from = from; to = output.to; sent_at = event; point = point_of commits output.point; bytes = output.bytes }

abbrev pub envelopes_of : Actor → ℕ → ℕ → List Output → List Envelope
envelopes_of from event commits outputs = map (λ output. envelope_of from event commits output) outputs

-- the entry of a note, with its point resolved
abbrev pub entry_of : ℕ → Note → Entry
entry_of commits (note.Sent lane seq) = entry.Sent lane seq
entry_of commits (note.Commit lane seq ino) = entry.Commit lane seq ino
entry_of commits (note.Opened lane seq ino point) = entry.Opened lane seq ino (point_of commits point)
entry_of commits (note.Placed lane seq version) = entry.Placed lane seq version
entry_of commits (note.Stale lane seq old new) = entry.Stale lane seq old new
entry_of commits (note.Answered lane seq point reply) = entry.Answered lane seq (point_of commits point) reply

abbrev pub entries_of : ℕ → List Note → List Entry
entries_of commits notes = map (λ note. entry_of commits note) notes

-- the world after an event of this actor with these records and notes
unfoldable pub posted : Config → World → Actor → List Output → List Note → World
posted config w from outputs notes = record w {
  events = w.events + 1;
  envelopes = w.envelopes ++ envelopes_of from w.events (length w.commits) outputs;
  entries = w.entries ++ entries_of (length w.commits) notes;
  commits = w.commits ++ commits_of config (entries_of (length w.commits) notes);
}

abbrev pub opening_world : Config → World
opening_world config = record {
  clients = λ lane. opening_client lane config.nodes (calls_of_lane config lane);
  nodes = λ node. opening_node node config.nodes config.batch;
  coord = opening_coord config.nodes;
  events = 0;
  envelopes = [];
  entries = [];
  commits = [];
}
