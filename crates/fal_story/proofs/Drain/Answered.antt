-- Where nothing but Send is fresh each call that was sent is answered.
use Rattle.std.proofs.Common.{◌≡◌, inl, inr, ⊎_elim, ℕ, ◌+◌, ◌<◌, ◌≤◌, Bool, true, false, List, [], ◌++◌, length, Some, None, refl, ap, ◌∙◌, subst, arith}
use Rattle.std.specs.Prelude.{slice_get, take, ◌==◌}
use Rattle.std.proofs.lemmas.Bool.Decides.{nat_tests}
use Rattle.fal_base.specs.declared.call.CallId.{CallId}
use Rattle.fal_base.specs.declared.call.Config.{Config}
use Rattle.fal_base.specs.declared.entry.Entry.TheVariants as entry
use Rattle.fal_base.specs.declared.event.Event.{Event}
use Rattle.fal_base.specs.Transcript.{sents}
use Rattle.fal_client.specs.declared.current.Current.{Current}
use Rattle.fal_client.specs.Step.{id_at}
use Rattle.fal_coord.specs.declared.stage.Stage.{Stage}
use Rattle.fal_coord.specs.declared.stage.Stage.TheVariants as stage
use Rattle.fal_coord.specs.State.{CoordState, is_idle, is_quiet as is_coord_quiet}
use Rattle.fal_node.specs.declared.batch.Batch.{Batch}
use Rattle.fal_story.proofs.Drain.Follow.{IsUnder, Asked, Waiting, Planned, Hosted, Answered, Stale, Opened, calls_of, hosted, marks_in, passed_on, IsTold}
use Rattle.fal_story.proofs.Drain.FollowRuns.{IsLive, legal_lives}
use Rattle.fal_story.proofs.Drain.Moving.{items_in}
use Rattle.fal_story.proofs.Drain.MovingCoord.{no_length, both_are, quiet_lists}
use Rattle.fal_story.proofs.Listing.Parts.{IsPartOnWay, Asks, Keeps, Tells, Renews, some_missing}
use Rattle.fal_story.proofs.Drain.Quiet.{envelope_at, none_is_quiet, quiet_items}
use Rattle.fal_story.proofs.Events.LegalRuns.{IsKept}
use Rattle.fal_story.proofs.Events.Shows.{IsListed, calls_in, posts_of}
use Rattle.fal_story.proofs.Lists.Grown.{tells}
use Rattle.fal_story.proofs.Lists.Members.{IsIn}
use Rattle.fal_story.proofs.Trees.Once.{sents_past}
use Rattle.fal_story.specs.Fresh.{IsQuiet, IsQuietAt, came, first_reply, AreAnswered}
use Rattle.fal_story.specs.Run.{IsLegal, run, transcript, entries_at}
use Rattle.fal_story.specs.World.{World}

-- ---- a quiet cluster

idle_stage : (t : Stage) → is_idle t ≡ true → calls_of t ≡ []
idle_stage stage.Idle e = refl
idle_stage (stage.Walk call fetch key) e = absurd (cc)
idle_stage (stage.Lock operation missing rows) e = absurd (cc)
idle_stage (stage.Count operation rows dir updates missing counts) e = absurd (cc)
idle_stage (stage.Finish keys updates missing) e = absurd (cc)
idle_stage (stage.Block call missing rows) e = absurd (cc)
idle_stage (stage.Install call missing) e = absurd (cc)

-- a quiet coordinator keeps no call
none_hosted : (coord : CoordState) → is_coord_quiet coord ≡ true → hosted coord ≡ []
none_hosted coord quiet =
    let parts = both_are (length coord.waiting == 0) (is_idle coord.stage) quiet in
    ap (λ cs. cs ++ coord.waiting) (idle_stage coord.stage parts.1) ∙ no_length coord.waiting parts.0

-- no call is under way
none_under : (config : Config) (w : World) (came : ℕ → Bool) (id : CallId) → IsQuiet config w came → IsUnder (posts_of w.envelopes) came (marks_in w) w.nodes w.coord id → ⊥
none_under config w came id q (Asked k p n call at fresh is newer suited) = let x = envelope_at w.envelopes k _ at in let there = q.all_came k x.0 x.1 in absurd (cc)
none_under config w came id q (Waiting n x at is) = let none : IsIn x [] = subst (IsIn x) (quiet_lists (w.nodes n) (q.nodes n)).1 at in absurd none
none_under config w came id q (Planned n x at is) = let none : IsIn x (calls_in []) = subst (λ (bs : List Batch). IsIn x (calls_in bs)) (quiet_lists (w.nodes n) (q.nodes n)).0 at in absurd none
none_under config w came id q (Hosted c at is) = let none : IsIn c [] = subst (IsIn c) (none_hosted w.coord q.coord) at in absurd none
none_under config w came id q (Answered k p reply at fresh) = let x = envelope_at w.envelopes k _ at in let there = q.all_came k x.0 x.1 in absurd (cc)
none_under config w came id q (Stale k p old new changes at fresh) = let x = envelope_at w.envelopes k _ at in let there = q.all_came k x.0 x.1 in absurd (cc)
none_under config w came id q (Opened k p dir at fresh) = let x = envelope_at w.envelopes k _ at in let there = q.all_came k x.0 x.1 in absurd (cc)

-- nor is a part on the way
none_asked : (config : Config) (w : World) (came : ℕ → Bool) (id : CallId) (n : ℕ) → IsQuiet config w came → IsPartOnWay (posts_of w.envelopes) came (items_in w) id n → ⊥
none_asked config w came id n q (Asks k p version dir at fresh) = let x = envelope_at w.envelopes k _ at in let there = q.all_came k x.0 x.1 in absurd (cc)
none_asked config w came id n q (Keeps item version dir at is) = let none : IsIn item [] = subst (IsIn item) (quiet_items (w.nodes n) (q.nodes n)) at in absurd none
none_asked config w came id n q (Tells k p names at fresh) = let x = envelope_at w.envelopes k _ at in let there = q.all_came k x.0 x.1 in absurd (cc)
none_asked config w came id n q (Renews k p old new changes at fresh) = let x = envelope_at w.envelopes k _ at in let there = q.all_came k x.0 x.1 in absurd (cc)

-- ---- calls that were sent

-- so no call is under way
none_current : (config : Config) (w : World) (came : ℕ → Bool) (lane : ℕ) (current : Current) → IsKept config w → IsLive config w came → IsQuiet config w came → (w.clients lane).current ≡ Some current → ⊥
none_current config w came lane current k live q busy =
    elim current.listing as (λ o. current.listing ≡ o → IsListed config.nodes (k.ghost.phase lane) o → ⊥) [
      | None ↦ λ unlisted listed. let b = live.followed.busy lane current busy unlisted in none_under config w came (passed_on (id_at lane (w.clients lane).seq current.attempt) b.hop) q b.under
      | Some listing ↦ λ is listed.
          let x = some_missing listing.parts listed.2 in
          let there : x.0 < config.nodes = subst (λ i. x.0 < i) listed.1 x.1.0 in
          none_asked config w came (id_at lane (w.clients lane).seq current.attempt) x.0 q (live.asked lane current listing x.0 busy is there x.1.1)
    ] refl ((k.shows.heard lane).some current busy).3

sent_below : (config : Config) (w : World) (j lane seq : ℕ) → IsKept config w → slice_get w.entries j ≡ Some (entry.Sent lane seq) → (0 < seq) × (seq ≤ (w.clients lane).seq)
sent_below config w j lane seq k at =
    let once = k.shows.good.script.once in
    let number : seq ≡ sents lane (take j w.entries) + 1 = (once.each.sent j lane seq at).0 in
    let all : sents lane w.entries ≡ (w.clients lane).seq = once.sent lane in
    let past = sents_past lane seq j w.entries at in
    (omega arith, omega arith)

answered_at : (config : Config) (w : World) (came : ℕ → Bool) → IsKept config w → IsLive config w came → IsQuiet config w came → AreAnswered w.entries
answered_at config w came k live q j lane seq at =
    let below = sent_below config w j lane seq k at in
    let high = below.1 in
    let c = w.clients lane in
    let told : IsTold w.entries lane seq =
    elim (w.clients lane).current as (λ o. (w.clients lane).current ≡ o → IsTold w.entries lane seq) [
      | None ↦ λ none. ⊎_elim (λ t. live.followed.over lane seq below.0 (inr (t.1, none))) (λ t. live.followed.over lane seq below.0 (inl (less seq c.seq t.0 high))) (tells seq c.seq)
      | Some current ↦ λ busy. absurd (none_current config w came lane current k live q busy)
    ] refl in
    told
  where
    less : (a b : ℕ) → (a == b) ≡ false → a ≤ b → a < b
    less a b t le = grind (arith, nat_tests)

-- where nothing is fresh after a legal run but Sends, each call that was sent is answered
pub none_is_answered : (config : Config) (events : List Event) → IsLegal config events → first_reply config events ≡ None → AreAnswered (transcript config events)
none_is_answered config events legal none =
    elim (run config events) as (λ o. run config events ≡ o → IsQuietAt config o (came events) → AreAnswered (entries_at o)) [
      | None ↦ λ at quiet. absurd quiet
      | Some w ↦ λ at quiet. let k = legal_lives config events w legal at in answered_at config w (came events) k.0 k.1 quiet
    ] refl (none_is_quiet config events legal none)
