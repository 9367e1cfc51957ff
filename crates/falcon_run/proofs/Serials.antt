-- Serial orders that grow by a call at their end.
use Rattle.std.proofs.Common.{◌≡◌, ℕ, zero, suc, ◌+◌, ◌<◌, cond, List, [], ◌∷◌, ◌++◌, take, Some, refl, sym, ap, ◌∙◌, subst, arith, append_assoc, append-nil, eq-eqb}
use Rattle.std.specs.Prelude.{slice_get, ◌==◌}
use Rattle.std.proofs.lemmas.Option.{same_Some}
use Rattle.fal_base.specs.declared.call.Config.{Config}
use Rattle.fal_base.specs.declared.event.Event.{Event}
use Rattle.fal_base.specs.declared.event.Event.TheVariants.{Send}
use Rattle.fal_alone.specs.Extends.{DrainsTo}
use Rattle.fal_story.specs.Fresh.{IsDrained}
use Rattle.fal_story.specs.Sending.{calls_sent}
use Rattle.fal_story.specs.Told.{Told}
use Rattle.falcon_run.specs.Serial.{IsSerialFrom, IsSerialRun, counts}
use Rattle.falcon_run.specs.Serving.{IsServedAlone}

-- ---- how many calls are sent

sends_join : (lane : ℕ) (events more : List Event) → calls_sent lane (events ++ more) ≡ calls_sent lane events + calls_sent lane more
sends_join lane [] more = omega arith
sends_join lane (event ∷ events) more = let rest = sends_join lane events more in omega arith

-- a Send and then a drain are one call more of the lane, and of no other
pub one_sent : (before sent after : Told) (lane other : ℕ) → sent ≡ record before { events = before.events ++ Send lane ∷ [] } → ((config : Config) (events more : List Event) → IsDrained config events more → calls_sent other more ≡ 0)
    → DrainsTo sent after → calls_sent other after.events ≡ calls_sent other before.events + cond (lane == other) 1 0
one_sent before sent after lane other is drained drains =
    let more = drains.0 in
    let split : calls_sent other after.events ≡ calls_sent other (sent.events ++ more) = ap (calls_sent other) drains.1.0 in
    let joined = sends_join other sent.events more in
    let one : calls_sent other sent.events ≡ calls_sent other (before.events ++ Send lane ∷ []) = ap (λ (told : Told). calls_sent other told.events) is in
    let parts = sends_join other before.events (Send lane ∷ []) in
    let none = drained sent.config sent.events more drains.1.1 in
    omega arith

pub counts_join : (lane : ℕ) (lanes more : List ℕ) → counts lane (lanes ++ more) ≡ counts lane lanes + counts lane more
counts_join lane [] more = omega arith
counts_join lane (other ∷ lanes) more = let rest = counts_join lane lanes more in omega arith

-- ---- one more call

one_more : (config : Config) (before : List Event) (lanes : List ℕ) (rest : List Event) (lane : ℕ) (more : List Event)
    → IsSerialFrom config before lanes rest → IsDrained config ((before ++ rest) ++ Send lane ∷ []) more → IsSerialFrom config before (lanes ++ lane ∷ []) (rest ++ Send lane ∷ more)
one_more config before [] rest lane more is drained = (
  more,
  (
    [],
    (
      ap (λ (es : List Event). es ++ Send lane ∷ more) is ∙ ap (λ (es : List Event). Send lane ∷ es) (sym (append-nil more)),
      subst (λ (es : List Event). IsDrained config (es ++ Send lane ∷ []) more) (ap (λ (es : List Event). before ++ es) is ∙ append-nil before) drained,
      refl,
    ),
  ),
)
one_more config before (l ∷ lanes) rest lane more is drained =
    let first = is.0 in
    let later = is.1.0 in
    let here : before ++ rest ≡ (before ++ Send l ∷ first) ++ later = ap (λ (es : List Event). before ++ es) is.1.1.0 ∙ sym (append_assoc before (Send l ∷ first) later) in (
      first,
      (
        later ++ Send lane ∷ more,
        (
          ap (λ (es : List Event). es ++ Send lane ∷ more) is.1.1.0 ∙ ap (λ (es : List Event). Send l ∷ es) (append_assoc first later (Send lane ∷ more)),
          is.1.1.1,
          one_more config (before ++ Send l ∷ first) lanes later lane more is.1.1.2 (subst (λ (es : List Event). IsDrained config (es ++ Send lane ∷ []) more) here drained),
        ),
      ),
    )

pub serial_more : (config : Config) (lanes : List ℕ) (before after : List Event) (lane : ℕ) → IsSerialRun config lanes before → IsServedAlone config lane before after → IsSerialRun config (lanes ++ lane ∷ []) after
serial_more config lanes before after lane serial served =
    subst (λ (es : List Event). IsSerialRun config (lanes ++ lane ∷ []) es) (sym served.1.0) (one_more config [] lanes before lane served.0 serial served.1.1)

-- ---- the lanes of the calls

-- a call that is still to come counts
pub call_counts : (lanes : List ℕ) (k lane : ℕ) → slice_get lanes k ≡ Some lane → counts lane (take k lanes) < counts lane lanes
call_counts [] k lane at = absurd (cc)
call_counts (first ∷ lanes) zero lane at =
    let same : first ≡ lane = same_Some first lane at in
    subst (λ b. 0 < cond b 1 0 + counts lane lanes) (sym (eq-eqb first lane same)) (omega arith)
call_counts (first ∷ lanes) (suc k) lane at = let rest = call_counts lanes k lane at in omega arith
