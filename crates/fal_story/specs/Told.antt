-- What a book tells, and what it keeps beside that.
use Rattle.std.specs.Prelude.{◌≡◌, ℕ, ◌<◌, ◌^◌, List, length, Option, Some, None}
use Rattle.fal_base.specs.declared.call.Config.{Config}
use Rattle.fal_base.specs.declared.entry.Entry.{Entry}
use Rattle.fal_base.specs.declared.event.Envelope.{Envelope}
use Rattle.fal_base.specs.declared.event.Event.{Event}
use Rattle.fal_story.specs.Clusters.{IsCluster}
use Rattle.fal_story.specs.Run.{run}
use Rattle.fal_story.specs.World.{World}

-- the cluster, and the events of its run
pub record Told : Type 0 where
  pub config : Config
  pub events : List Event

-- how many more events, envelopes and entries a book takes before it needs memory
pub record BookRoom : Type 0 where
  pub events : ℕ
  pub sent : ℕ
  pub entries : ℕ

-- a book: what it tells, and its room
pub record SeenBook : Type 0 where
  pub told : Told
  pub room : BookRoom

-- the run is legal, and these are its envelopes and entries, and so many its commits and events
abbrev pub HasAt : Option World → List Envelope → List Entry → ℕ → ℕ → Type 0
HasAt None sent entries commits events = ⊥
HasAt (Some w) sent entries commits events = (sent ≡ w.envelopes) × (entries ≡ w.entries) × (commits ≡ length w.commits) × (events ≡ w.events)

pub record IsBook (config : Config) (events : List Event) (sent : List Envelope) (entries : List Entry) (commits : ℕ) : Type 0 where
  pub cluster : IsCluster config
  pub few : length events < 2 ^ 63
  pub few_commits : commits < 2 ^ 63
  pub at : HasAt (run config events) sent entries commits (length events)
