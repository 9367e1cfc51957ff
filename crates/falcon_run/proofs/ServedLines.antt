-- Calls are served one after another.
use Rattle.std.proofs.Common.{◌≡◌, ℕ, ◌+◌, ◌<◌, cond, List, [], ◌∷◌, ◌++◌, length, take, Option, Some, None, sym, ap, ◌∙◌, subst, arith}
use Rattle.std.specs.Prelude.{slice_get, ◌==◌, IsNone, IsSome, IsSomeAnd}
use Rattle.std.proofs.lemmas.List.{take_more}
use Rattle.std.proofs.lemmas.Option.{get_or_from_slice_get}
use Rattle.fal_base.specs.declared.call.Config.{Config}
use Rattle.fal_base.specs.declared.event.Event.{Event}
use Rattle.fal_base.specs.EachOnce.{IsEachOnce}
use Rattle.fal_base.specs.History.{IsLegalHistory}
use Rattle.fal_base.specs.Linear.{IsLinear}
use Rattle.fal_base.specs.Listing.{AreListings}
use Rattle.fal_base.specs.Places.{AreOlder, ArePlaced}
use Rattle.fal_base.specs.Transcript.{sents}
use Rattle.fal_alone.specs.Turns.{deed_in}
use Rattle.fal_story.specs.Clusters.{calls_of_lane}
use Rattle.fal_story.specs.Fresh.{IsQuietAt, AreAnswered, came}
use Rattle.fal_story.specs.Run.{IsEnabled, IsLegal, deed, run, transcript}
use Rattle.fal_story.specs.Sending.{calls_sent}
use Rattle.falcon_run.specs.Recorded.{IsRecorded}
use Rattle.falcon_run.specs.Serial.{counts}
use Rattle.falcon_run.specs.Serving.{AreServed, HasCallsFor, IsServedAlone}
use Rattle.falcon_run.proofs.AllAnswered.{all_answered}
use Rattle.falcon_run.proofs.Serials.{call_counts, counts_join, serial_more}

-- ---- one call

not_both : {A : Type 0} (o : Option A) → IsSome o → IsNone o → ⊥
not_both None some none = cc
not_both (Some x) some none = cc

-- an event that is enabled is not refused
pub never_refused : (config : Config) (events : List Event) (event : Event) → IsEnabled config events event → IsNone (deed_in config (run config events) event) → ⊥
never_refused config events event enabled none =
    elim (run config events) as (λ o. IsSomeAnd o (λ w. IsSome (deed config w event)) → IsNone (deed_in config o event) → ⊥) [
      | None ↦ λ some none. absurd some
      | Some w ↦ λ some none. not_both (deed config w event) some none
    ] enabled none

-- ---- the calls

-- a lane has its next call left
pub call_left : (config first : Config) (lanes : List ℕ) (k lane : ℕ) (events : List Event) → config ≡ first → HasCallsFor first lanes → AreServed config (take k lanes) events → slice_get lanes k ≡ Some lane
    → calls_sent lane events < length (calls_of_lane config lane)
call_left config first lanes k lane events same calls served at =
    let sent = served.sent lane in
    let left = call_counts lanes k lane at in
    let all = calls lane in
    let here : length (calls_of_lane config lane) ≡ length (calls_of_lane first lane) = ap (λ c. length (calls_of_lane c lane)) same in
    omega arith

one_call : (lanes : List ℕ) (k lane : ℕ) → k < length lanes → slice_get lanes k ≡ Some lane → take (k + 1) lanes ≡ take k lanes ++ lane ∷ []
one_call lanes k lane low at = take_more lanes k lane low ∙ ap (λ l. take k lanes ++ l ∷ []) (get_or_from_slice_get lanes k lane lane at)

-- one call more
pub call_served : (before after : Config) (lanes : List ℕ) (k lane : ℕ) (events all : List Event) → after ≡ before → k < length lanes → slice_get lanes k ≡ Some lane
    → AreServed before (take k lanes) events → IsServedAlone before lane events all → ((other : ℕ) → calls_sent other all ≡ calls_sent other events + cond (lane == other) 1 0)
    → IsQuietAt after (run after all) (came all) → AreAnswered (transcript after all) → AreServed after (take (k + 1) lanes) all
call_served before after lanes k lane events all same low at served one more quiet answered =
    let serial = serial_more before (take k lanes) events all lane served.serial one in
    subst (λ (ls : List ℕ). AreServed after ls all) (sym (one_call lanes k lane low at))
    (subst (λ (c : Config). AreServed c (take k lanes ++ lane ∷ []) all) (sym same)
    (record {
      serial = serial;
      sent = λ other. one_more other;
      quiet = subst (λ (c : Config). IsQuietAt c (run c all) (came all)) same quiet;
      answered = subst (λ (c : Config). AreAnswered (transcript c all)) same answered;
    }))
  where
    one_more : (other : ℕ) → calls_sent other all ≡ counts other (take k lanes ++ lane ∷ [])
    one_more other = let before_it = served.sent other in let it = more other in let joined = counts_join other (take k lanes) (lane ∷ []) in omega arith

-- ---- all calls

-- a run that served a call for each of the lanes, which are all the calls of the cluster, is a whole one
pub recorded : (config : Config) (lanes : List ℕ) (events : List Event) → HasCallsFor config lanes → AreServed config lanes events → IsLegal config events → ((lane : ℕ) → sents lane (transcript config events) ≡ calls_sent lane events)
    → IsEachOnce config (transcript config events) → IsLinear config (transcript config events) → IsLegalHistory config (transcript config events)
    → AreListings config (transcript config events) → AreOlder (transcript config events) → ArePlaced config (transcript config events) → IsRecorded config lanes events
recorded config lanes events calls served legal counted once linear history listings stale placed =
    record {
      legal = legal;
      serial = served.serial;
      quiet = served.quiet;
      answered = all_answered config (transcript config events) once served.answered (λ lane. counted lane ∙ served.sent lane ∙ calls lane);
      once = once;
      linear = linear;
      history = history;
      listings = listings;
      stale = stale;
      placed = placed;
    }
