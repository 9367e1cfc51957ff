-- What a run leaves that wants memory.
use Rattle.std.proofs.Common.{◌≡◌, ℕ, inl, inr, ⊎_elim, List, [], Option, Some, None, Err, refl, subst, arith}
use Rattle.fal_base.specs.declared.call.Config.{Config}
use Rattle.fal_base.specs.declared.event.Event.{Event}
use Rattle.fal_io.specs.Causes.{AppendsFront}
use Rattle.fal_script.specs.declared.script.Script.{Script}
use Rattle.falcon_run.specs.declared.reading.Unread.{Unread}
use Rattle.falcon_run.specs.declared.reading.Unread.TheVariants.{NoScript}
use Rattle.falcon_run.specs.Answers.{IsFrontOf, Refuses}
use Rattle.falcon_run.specs.Headline.{GaveNoScript, GaveScript, IsTraced, LostFront, WantsMemory, script_line, usage_line}
use Rattle.falcon_run.specs.Reading.{GivesScript}
use Rattle.falcon_run.specs.Recorded.{run_text}
use Rattle.falcon_run.proofs.Owed.{nothing_appended}

-- a script was read, and nothing more was written than a front of its run's text
pub run_wants : (script : Script) (left rest held holds : Option (List ℕ)) (traced : Option Config) (events : List Event) → GaveScript left rest script → LostFront left rest → IsFrontOf script held holds traced events
    → WantsMemory left rest held holds traced events
run_wants script left rest held holds None events gave lost is = record { text = usage_line; is_written = inl refl; front = (0, omega arith, is.1); lost = lost; run = is.0 }
run_wants script left rest held holds (Some config) events gave lost is =
    ⊎_elim
    (λ none. record { text = usage_line; is_written = inl refl; front = (0, omega arith, none); lost = lost; run = (script, (gave, is.0, is.1)) })
    (λ some. record { text = run_text config events; is_written = inr (inr (inr (inr (script, (config, (gave, refl, some.0, refl)))))); front = some.1; lost = lost; run = (script, (gave, is.0, is.1)) })
    is.2

nothing_traced : (left rest : Option (List ℕ)) (traced : Option Config) (events : List Event) → traced ≡ None → events ≡ [] → IsTraced left rest traced events
nothing_traced left rest None events untraced none = none
nothing_traced left rest (Some config) events untraced none = absurd (cc)

-- nothing was written, and the trace is empty
pub reading_wants : (left rest held : Option (List ℕ)) (traced : Option Config) (events : List Event) → LostFront left rest → traced ≡ None → events ≡ [] → WantsMemory left rest held held traced events
reading_wants left rest held traced events lost untraced none =
    record { text = usage_line; is_written = inl refl; front = (0, omega arith, nothing_appended held); lost = lost; run = nothing_traced left rest traced events untraced none }

-- a script's fault was told, of which a front was written, and the trace is empty
pub fault_wants : (left rest held holds : Option (List ℕ)) (traced : Option Config) (events : List Event) (line rule : ℕ) → GaveNoScript left rest line rule → LostFront left rest → AppendsFront held holds (script_line line rule)
    → traced ≡ None → events ≡ [] → WantsMemory left rest held holds traced events
fault_wants left rest held holds traced events line rule gave lost front untraced none =
    record { text = script_line line rule; is_written = inr (inl (line, rule, (gave, refl))); front = front; lost = lost; run = nothing_traced left rest traced events untraced none }

-- another spelling of the same line
pub refused_as : (line other : List ℕ) (held holds : Option (List ℕ)) (before now result : ℕ) → line ≡ other → Refuses 3 line held holds before now result → Refuses 3 other held holds before now result
refused_as line other held holds before now result same refused = subst (λ l. Refuses 3 l held holds before now result) same refused

pub gave_fault : (left rest : Option (List ℕ)) (before now : ℕ) (unread : Unread) (line rule : ℕ) → unread ≡ NoScript line rule → GivesScript left rest before now (Err unread) → GaveNoScript left rest line rule
gave_fault left rest before now unread line rule same is = subst (λ u. GivesScript left rest before now (Err u)) same is
