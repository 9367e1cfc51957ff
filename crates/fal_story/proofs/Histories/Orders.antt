-- The envelopes of a run stand in the order of the events that sent them, so those of the events before some event stand in front.
use Rattle.std.proofs.Common.{◌≡◌, ◌∙◌, ap, refl, sym, subst, ◌<◌, ◌≤◌, drop, get_or, ℕ, zero, suc, ◌+◌, List, [], ◌∷◌, ◌++◌, length, Bool, true, false, if◌then◌else◌, ◌==◌, ◌&&◌, Some, None, arith}
use Rattle.std.specs.Prelude.{nat_le, slice_get, IsSome}
use Rattle.std.proofs.lemmas.Bool.Decides.{nat_tests}
use Rattle.std.proofs.lemmas.Option.{none-some, same_Some, slice_get_read}
use Rattle.fal_base.specs.declared.call.Config.{Config}
use Rattle.fal_base.specs.declared.event.Actor.{Actor}
use Rattle.fal_base.specs.declared.event.Envelope.{Envelope}
use Rattle.fal_base.specs.declared.event.Event.{Event}
use Rattle.fal_base.specs.declared.event.Output.{Output}
use Rattle.fal_story.proofs.Histories.Deeds.{deed_does}
use Rattle.fal_story.specs.Actors.{number_of}
use Rattle.fal_story.specs.Arriving.{arrived_next, arrived, AreSentIn, AreSentInOrder}
use Rattle.fal_story.specs.Run.{Deed, deed, done, run_from, run, IsLegal, envelopes_at}
use Rattle.fal_story.specs.World.{World, posted, envelopes_of, opening_world}

-- ---- lists in order

sent_later : (first last later : ℕ) (xs : List Envelope) → AreSentIn first last xs → last ≤ later → AreSentIn first later xs
sent_later first last later [] a more = omega arith
sent_later first last later (x ∷ xs) a more = (a.0, sent_later x.sent_at last later xs a.1 more)

sent_earlier : (before first last : ℕ) (xs : List Envelope) → before ≤ first → AreSentIn first last xs → AreSentIn before last xs
sent_earlier before first last [] less a = omega arith
sent_earlier before first last (x ∷ xs) less a = (omega arith, a.1)

sent_append : (first middle last : ℕ) (xs ys : List Envelope) → AreSentIn first middle xs → AreSentIn middle last ys → AreSentIn first last (xs ++ ys)
sent_append first middle last [] ys a b = sent_earlier first middle last ys a b
sent_append first middle last (x ∷ xs) ys a b = (a.0, sent_append x.sent_at middle last xs ys a.1 b)

sent_by_one : (from : Actor) (event commits : ℕ) (outputs : List Output) → AreSentIn event event (envelopes_of from event commits outputs)
sent_by_one from event commits [] = omega arith
sent_by_one from event commits (o ∷ os) = (omega arith, sent_by_one from event commits os)

sent_after : (first last i : ℕ) (xs : List Envelope) (x : Envelope) → AreSentIn first last xs → slice_get xs i ≡ Some x → first ≤ x.sent_at
sent_after first last i [] x a at = absurd (none-some x at)
sent_after first last zero (y ∷ ys) x a at = subst (λ (z : Envelope). first ≤ z.sent_at) (same_Some y x at) a.0
sent_after first last (suc i) (y ∷ ys) x a at = let rest : y.sent_at ≤ x.sent_at = sent_after y.sent_at last i ys x a.1 at in let here : first ≤ y.sent_at = a.0 in omega arith

-- ---- what stands in front

and_false : (b : Bool) → (b && false) ≡ false
and_false true = refl
and_false false = refl

passes : (next number from : ℕ) (x : Envelope) (xs : List Envelope) → x.sent_at < from → arrived_next next number from (x ∷ xs) ≡ arrived_next (next + 1) number from xs
passes next number from x xs before =
    let late : nat_le from x.sent_at ≡ false = grind (arith, nat_tests) in
    ap (λ b. if (number_of x.to == number && b) then record { number = next; envelope = x } ∷ arrived_next (next + 1) number from xs else arrived_next (next + 1) number from xs) late
    ∙ ap (λ b. if b then record { number = next; envelope = x } ∷ arrived_next (next + 1) number from xs else arrived_next (next + 1) number from xs) (and_false (number_of x.to == number))

skip : (next number from first last i : ℕ) (xs : List Envelope) (x : Envelope) → AreSentIn first last xs → slice_get xs i ≡ Some x → x.sent_at < from
    → arrived_next next number from xs ≡ arrived_next (next + suc i) number from (drop (suc i) xs)
skip next number from first last i [] x a at before = absurd (none-some x at)
skip next number from first last zero (y ∷ ys) x a at before = passes next number from y ys (subst (λ (z : Envelope). z.sent_at < from) (sym (same_Some y x at)) before)
skip next number from first last (suc i) (y ∷ ys) x a at before =
    let order : y.sent_at ≤ x.sent_at = sent_after y.sent_at last i ys x a.1 at in
    let same : next + 1 + suc i ≡ next + suc (suc i) = omega arith in
    passes next number from y ys (omega arith) ∙ (skip (next + 1) number from y.sent_at last i ys x a.1 at before ∙ ap (λ n. arrived_next n number from (drop (suc i) ys)) same)

-- an envelope that was sent before event `from` does not arrive, nor do those before it
pub arrived_past : (from i : ℕ) (sent : List Envelope) (x : Envelope) → AreSentInOrder sent → i < length sent → x ≡ get_or sent i x → x.sent_at < from
    → (number : ℕ) → arrived number from sent ≡ arrived_next (i + 1) number from (drop (i + 1) sent)
arrived_past from i sent x order below is before number =
    let at : slice_get sent i ≡ Some x = slice_get_read sent (length sent) i x refl below is in
    let next : 0 + suc i ≡ i + 1 = omega arith in
    let same : suc i ≡ i + 1 = omega arith in
    skip 0 number from 0 order.0 i sent x order.1 at before ∙ (ap (λ n. arrived_next n number from (drop (suc i) sent)) next ∙ ap (λ n. arrived_next (i + 1) number from (drop n sent)) same)

-- ---- runs

abbrev pub InTime : World → Type 0
InTime w = AreSentIn 0 w.events w.envelopes

then_in_time : (config : Config) (w : World) (e : Event) (d : Deed) → InTime w → deed config w e ≡ Some d → InTime (posted config d.world d.from d.sent d.notes)
unfolding posted
then_in_time config w e d time is =
    let does = deed_does config w e d is in
    let before : AreSentIn 0 d.world.events d.world.envelopes = subst (λ n. AreSentIn 0 n d.world.envelopes) (sym does.events) (subst (λ xs. AreSentIn 0 w.events xs) (sym does.envelopes) time) in
    let news : List Envelope = envelopes_of d.from d.world.events (length d.world.commits) d.sent in
    sent_later 0 d.world.events (d.world.events + 1) (d.world.envelopes ++ news)
    (sent_append 0 d.world.events d.world.events d.world.envelopes news before (sent_by_one d.from d.world.events (length d.world.commits) d.sent)) (omega arith)

dead : (config : Config) (es : List Event) (u : World) → run_from config None es ≡ Some u → ⊥
dead config [] u z = none-some u z
dead config (x ∷ xs) u z = none-some u z

on_in_time : (config : Config) (es : List Event) (w u : World) → InTime w → run_from config (Some w) es ≡ Some u → InTime u
on_in_time config [] w u time at = subst InTime (same_Some w u at) time
on_in_time config (e ∷ es) w u time at =
    elim (deed config w e) as (λ o. deed config w e ≡ o → run_from config (done config o) es ≡ Some u → InTime u) [
      | None ↦ λ t z. absurd (dead config es u z)
      | Some d ↦ λ t z. on_in_time config es (posted config d.world d.from d.sent d.notes) u (then_in_time config w e d time t) z
    ] refl at

-- the envelopes of a legal run stand in the order of the events that sent them
pub legal_in_order : (config : Config) (es : List Event) → IsLegal config es → AreSentInOrder (envelopes_at (run config es))
unfolding run
legal_in_order config es legal =
    let o = run_from config (Some (opening_world config)) es in
    elim o as (λ p. o ≡ p → IsSome p → AreSentInOrder (envelopes_at p)) [
      | None ↦ λ t y. absurd (cc)
      | Some w ↦ λ t y. (w.events, on_in_time config es (opening_world config) w (omega arith) t)
    ] refl legal.enabled
