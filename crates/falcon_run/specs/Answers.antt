-- The statuses of a run, and what each of them leaves.
use Rattle.std.specs.Prelude.{◌≡◌, ◌⊎◌, ℕ, Option, List, [], None, Some}
use Rattle.std.specs.Io.KnownBytes.{Appends}
use Rattle.fal_base.specs.declared.call.Config.{Config}
use Rattle.fal_base.specs.declared.event.Event.{Event}
use Rattle.fal_io.specs.Causes.{Rose, AppendsFront}
use Rattle.fal_script.specs.declared.script.Script.{Script}
use Rattle.fal_story.specs.Run.{IsLegal}
use Rattle.falcon_run.specs.Headline.{Wrote, IsRunOf, cluster_of}
use Rattle.falcon_run.specs.Recorded.{run_text}

-- a refusal's line was written, and its status answered, unless the sink wants memory
pub record Refuses (status : ℕ) (line : List ℕ) (held holds : Option (List ℕ)) (before now : ℕ) (result : ℕ) : Type 0 where
  pub answered : (result ≡ status) ⊎ (result ≡ 6)
  pub whole : result ≡ status → Wrote line held holds before now
  pub front : AppendsFront held holds line

-- nothing was written and the trace has a legal run or none, or a front of the text of the trace's run was
abbrev pub IsFrontOf : Script → Option (List ℕ) → Option (List ℕ) → Option Config → List Event → Type 0
IsFrontOf script held holds None events = (events ≡ []) × Appends held holds []
IsFrontOf script held holds (Some config) events =
    (config ≡ cluster_of script) × IsLegal config events × (Appends held holds [] ⊎ (IsRunOf script config events × AppendsFront held holds (run_text config events)))

-- the text of the trace's run was written, and the status says how that went
pub record Writes (script : Script) (held holds : Option (List ℕ)) (before now : ℕ) (traced : Option Config) (events : List Event) (result : ℕ) : Type 0 where
  pub answered : (result ≡ 0) ⊎ (result ≡ 5) ⊎ (result ≡ 6)
  pub failed : result ≡ 5 → Rose before now
  pub whole : result ≡ 0 → (config : Config) × ((traced ≡ Some config) × IsRunOf script config events × Appends held holds (run_text config events))
  pub cut_off : result ≡ 5 → (config : Config) × ((traced ≡ Some config) × IsRunOf script config events × AppendsFront held holds (run_text config events))
  pub memory : result ≡ 6 → IsFrontOf script held holds traced events

-- the status that is owed, or want of memory, or the sink failed
abbrev pub IsOwed : ℕ → ℕ → ℕ → ℕ → Type 0
IsOwed status before now result = (result ≡ status) ⊎ (result ≡ 6) ⊎ ((status ≡ 0) × (result ≡ 5) × Rose before now)
