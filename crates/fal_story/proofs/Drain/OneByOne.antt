-- A lane sends its next call only after the last one was answered.
use Rattle.std.proofs.Common.{◌≡◌, inr, ℕ, zero, suc, ◌+◌, ◌<◌, ◌≤◌, ◌^◌, nat_lt, Bool, true, false, List, [], ◌∷◌, ◌++◌, length, take, Some, None, refl, sym, ap, ◌∙◌, subst, arith}
use Rattle.std.specs.Prelude.{slice_get, IsSome}
use Rattle.std.proofs.lemmas.Bool.Decides.{nat_tests}
use Rattle.std.proofs.lemmas.Option.{none-some, same_Some}
use Rattle.fal_base.specs.declared.call.Config.{Config}
use Rattle.fal_base.specs.declared.entry.Entry.{Entry}
use Rattle.fal_base.specs.declared.entry.Entry.TheVariants.{Sent, Commit, Opened, Placed, Stale, Answered}
use Rattle.fal_base.specs.declared.event.Event.{Event}
use Rattle.fal_base.specs.EachOnce.{IsAnsweredBefore, AreOneByOne}
use Rattle.fal_base.specs.Transcript.{sents}
use Rattle.fal_story.proofs.Drain.FollowRuns.{IsLive, opening_live, step_lives}
use Rattle.fal_story.proofs.Drain.SendCounts.{step_sends}
use Rattle.fal_story.proofs.Drain.MovingRuns.{legal_holds}
use Rattle.fal_story.proofs.Events.LegalRuns.{IsKept, step_kept}
use Rattle.fal_story.proofs.Histories.Deeds.{deed_does}
use Rattle.fal_story.proofs.Lists.Grown.{slice_get_front, slice_get_below}
use Rattle.fal_story.proofs.Trees.Once.{sents_past}
use Rattle.fal_story.specs.Fresh.{came_with}
use Rattle.fal_story.specs.Run.{IsLegal, deed, done, entries_at, run, step, transcript}
use Rattle.fal_story.specs.Sending.{calls_sent_by}
use Rattle.fal_story.specs.World.{World, posted, entries_of}

-- ---- lists

in_front : {A : Type 0} (xs ys : List A) (k : ℕ) (y : A) → slice_get (xs ++ ys) k ≡ Some y → k < length xs → slice_get xs k ≡ Some y
in_front [] ys k y at below = absurd (omega arith)
in_front (x ∷ xs) ys zero y at below = at
in_front (x ∷ xs) ys (suc k) y at below = in_front xs ys k y at (omega arith)

-- the calls sent in front are among those sent up to a later place
sents_front : (l j : ℕ) (xs ys : List Entry) → length xs ≤ j → sents l xs ≤ sents l (take j (xs ++ ys))
sents_front l j [] ys past = omega arith
sents_front l zero (x ∷ xs) ys past = absurd (omega arith)
sents_front l (suc j) (Sent a s ∷ xs) ys past = let h = sents_front l j xs ys (omega arith) in omega arith
sents_front l (suc j) (Commit a s i ∷ xs) ys past = sents_front l j xs ys (omega arith)
sents_front l (suc j) (Opened a s i p ∷ xs) ys past = sents_front l j xs ys (omega arith)
sents_front l (suc j) (Placed a s v ∷ xs) ys past = sents_front l j xs ys (omega arith)
sents_front l (suc j) (Stale a s old new ∷ xs) ys past = sents_front l j xs ys (omega arith)
sents_front l (suc j) (Answered a s k r ∷ xs) ys past = sents_front l j xs ys (omega arith)

-- ---- one event

-- what is recorded stays in front
entries_grow : (config : Config) (w u : World) (e : Event) → step config w e ≡ Some u → (news : List Entry) × (u.entries ≡ w.entries ++ news)
unfolding posted
entries_grow config w u e at =
    elim (deed config w e) as (λ o. deed config w e ≡ o → done config o ≡ Some u → (news : List Entry) × (u.entries ≡ w.entries ++ news)) [
      | None ↦ λ t z. absurd (none-some u z)
      | Some d ↦ λ t z. (entries_of (length d.world.commits) d.notes, sym (ap (λ (v : World). v.entries) (same_Some _ u z)) ∙ ap (λ es. es ++ entries_of (length d.world.commits) d.notes) (deed_does config w e d t).entries)
    ] refl at

-- ---- runs

before_more : (xs ys : List Entry) (j i l s : ℕ) → j ≤ i → IsAnsweredBefore xs j l s → IsAnsweredBefore (xs ++ ys) i l s
before_more xs ys j i l s within b =
    let below = b.before in
    record { place = b.place; point = b.point; reply = b.reply; before = omega arith; answered = slice_get_front xs ys b.place (Answered l s b.point b.reply) b.answered }

one_more : (config : Config) (w u : World) (e : Event) (c : ℕ → Bool) → IsKept config w → IsKept config u → IsLive config w c → AreOneByOne w.entries → step config w e ≡ Some u → AreOneByOne u.entries
one_more config w u e c k kept live paced at j l s is some =
    let grown = entries_grow config w u e at in
    let news = grown.0 in
    let here : slice_get (w.entries ++ news) j ≡ Some (Sent l (s + 1)) = ap (λ es. slice_get es j) (sym grown.1) ∙ is in
    subst (λ es. IsAnsweredBefore es j l s) (sym grown.1)
    (elim (nat_lt j (length w.entries)) as (λ b. nat_lt j (length w.entries) ≡ b → IsAnsweredBefore (w.entries ++ news) j l s) [
      | true ↦ λ t. let below : j < length w.entries = grind (arith, nat_tests) in before_more w.entries news j j l s (omega arith) (paced j l s (in_front w.entries news j (Sent l (s + 1)) here below) some)
      | false ↦ λ t. let past : length w.entries ≤ j = grind (arith, nat_tests) in new news past grown.1
    ] refl)
  where
    new : (news : List Entry) → length w.entries ≤ j → u.entries ≡ w.entries ++ news → IsAnsweredBefore (w.entries ++ news) j l s
    new news past grown =
        let old : sents l w.entries ≡ (w.clients l).seq = k.shows.good.script.once.sent l in
        let all : sents l u.entries ≡ (u.clients l).seq = kept.shows.good.script.once.sent l in
        let number : s + 1 ≡ sents l (take j u.entries) + 1 = (kept.shows.good.script.once.each.sent j l (s + 1) is).0 in
        let more = sents_past l (s + 1) j u.entries is in
        let front : sents l w.entries ≤ sents l (take j u.entries) = subst (λ es. sents l w.entries ≤ sents l (take j es)) (sym grown) (sents_front l j w.entries news past) in
        let pace = step_sends config w u l k e at in
        let seq = pace.seq in
        let few = pace.few in
        let some_call : 0 < calls_sent_by l e = omega arith in
        let last : s ≡ (w.clients l).seq = omega arith in
        told news past (live.followed.over l s some (inr (last, pace.idle some_call)))
      where
        told : (news : List Entry) → length w.entries ≤ j → (i : ℕ) × ((point : ℕ) × ((reply : _) × (slice_get w.entries i ≡ Some (Answered l s point reply)))) → IsAnsweredBefore (w.entries ++ news) j l s
        told news past t =
            let below = slice_get_below w.entries t.0 (Answered l s t.1.0 t.1.1.0) t.1.1.1 in
            record { place = t.0; point = t.1.0; reply = t.1.1.0; before = omega arith; answered = slice_get_front w.entries news t.0 (Answered l s t.1.0 t.1.1.0) t.1.1.1 }

record IsPaced (config : Config) (w : World) (c : ℕ → Bool) : Type 0 where
  live : IsLive config w c
  paced : AreOneByOne w.entries

-- a lane of a legal run sends each next call only after its last one was answered
pub legal_one_by_one : (config : Config) (events : List Event) → IsLegal config events → AreOneByOne (transcript config events)
legal_one_by_one config events legal =
    elim (run config events) as (λ o. run config events ≡ o → IsSome o → AreOneByOne (entries_at o)) [
      | None ↦ λ t y. absurd (cc)
      | Some w ↦ λ t y. (legal_holds config (IsPaced config) steps (record { live = opening_live config legal.cluster; paced = λ j l s is some. absurd (cc) }) events w legal t).1.paced
    ] refl legal.enabled
  where
    steps : (v u : World) (c : ℕ → Bool) (e : Event) → v.events < 2 ^ 63 → IsKept config v → IsPaced config v c → step config v e ≡ Some u → IsPaced config u (came_with e c)
    steps v u c e few k p is = record {
      live = step_lives config v u c e legal.cluster few k p.live is;
      paced = one_more config v u e c k (step_kept config v u e legal.cluster few k is) p.live p.paced is;
    }
