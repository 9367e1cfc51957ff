-- Calls move from one place to another.
use Rattle.std.proofs.Common.{◌≡◌, ◌≢◌, ◌⊎◌, inl, inr, ⊎_elim, ℕ, ◌<◌, List, Some, None, sym, ◌∙◌, subst, false}
use Rattle.std.specs.Prelude.{slice_get}
use Rattle.fal_base.specs.declared.call.Config.{Config}
use Rattle.fal_base.specs.declared.key.Key.{Key}
use Rattle.fal_story.proofs.Families.Asking.{IsCrossed, asking_moved}
use Rattle.fal_story.proofs.Families.Barring.{bars_moved}
use Rattle.fal_story.proofs.Families.Bars.{IsBarred}
use Rattle.fal_story.proofs.Families.Clear.{IsShut, clear_moved}
use Rattle.fal_story.proofs.Families.Knowing.{Untold, held_untold, knowing_moved}
use Rattle.fal_story.proofs.Families.Lanes.{IsRight, lanes_moved}
use Rattle.fal_story.proofs.Families.Listings.{listings_moved}
use Rattle.fal_story.proofs.Families.OperationCalls.{operation_moved}
use Rattle.fal_story.proofs.Families.Plans.{IsPlanned, plans_moved}
use Rattle.fal_story.proofs.Families.Records.{records_moved}
use Rattle.fal_story.proofs.Families.Script.{script_moved}
use Rattle.fal_story.proofs.Good.{Good}
use Rattle.fal_story.proofs.Phase.{Phase, Idle, Asked, Waits, Plans, Runs, Tells, Replies, Opens, Lists, Goes, IsSteady, IsCrossing, IsFor, IsHeld, Stays, goes_live, goes_same, held_live, held_taken, stays_taken, steady_held, steady_same, Told}
use Rattle.fal_story.proofs.View.{Asking, View, now}

-- none of these keys is shut at the node
abbrev pub IsClear : View → ℕ → List Key → Type 0
IsClear v n keys = (key : Key) → IsCrossed keys key → IsShut (v.op.shut n) key → ⊥

-- from one place, a call of this lane may move to the other, which rests on these keys
abbrev pub MayMove : Config → View → ℕ → Phase → Phase → List Key → Type 0
MayMove config v l from Idle keys = ⊥
MayMove config v l from (Asked n) keys = ⊥
MayMove config v l from (Waits n None) keys = IsHeld n from
MayMove config v l from (Waits n (Some number)) keys = IsHeld n from × (number < v.opened n) × ((j : ℕ) (f : Asking) → slice_get (v.fetches n) j ≡ Some f → f.number ≢ number) × IsClear v n keys
MayMove config v l from (Plans n x) keys = IsHeld n from × (n < config.nodes) × IsPlanned v.map.table (now v) n (v.call l) keys x × IsClear v n keys × (x.denied ≡ false → IsBarred (v.map.barred n) x.last.name → ⊥)
MayMove config v l from Runs keys = ⊥
MayMove config v l from (Told old new) keys = ⊥
MayMove config v l from (Tells (Opens k dir)) keys = ⊥
MayMove config v l from (Tells (Lists k dir)) keys = ⊥
MayMove config v l from (Tells (Replies k reply)) keys = ((n : ℕ) × IsHeld n from) × IsRight v.commits (v.seq l) (v.call l) (v.since l) l k reply

moved_goes : (config : Config) (v : View) (l : ℕ) (p q : Phase) (keys : List Key) → MayMove config v l p q keys → Goes p q × IsSteady p q × Stays p q
moved_goes config v l p Idle keys m = absurd m
moved_goes config v l p (Asked n) keys m = absurd m
moved_goes config v l p (Waits n None) keys m = (goes_live p (Waits n None) (held_live n p m), steady_held n p (Waits n None) m tt, stays_taken p (Waits n None) (held_taken n p m))
moved_goes config v l p (Waits n (Some number)) keys m = (goes_live p (Waits n (Some number)) (held_live n p m.0), steady_held n p (Waits n (Some number)) m.0 tt, stays_taken p (Waits n (Some number)) (held_taken n p m.0))
moved_goes config v l p (Plans n x) keys m = (goes_live p (Plans n x) (held_live n p m.0), steady_held n p (Plans n x) m.0 tt, stays_taken p (Plans n x) (held_taken n p m.0))
moved_goes config v l p Runs keys m = absurd m
moved_goes config v l p (Told old new) keys m = absurd m
moved_goes config v l p (Tells (Opens k dir)) keys m = absurd m
moved_goes config v l p (Tells (Lists k dir)) keys m = absurd m
moved_goes config v l p (Tells (Replies k reply)) keys m = (goes_live p (Tells (Replies k reply)) (held_live m.0.0 p m.0.1), steady_held m.0.0 p (Tells (Replies k reply)) m.0.1 tt, stays_taken p (Tells (Replies k reply)) (held_taken m.0.0 p m.0.1))

pub held_for : (n : ℕ) (p : Phase) → IsHeld n p → IsFor n p
held_for n Idle h = h
held_for n (Asked m) h = absurd h
held_for n (Waits m f) h = h
held_for n (Plans m x) h = h
held_for n Runs h = absurd h
held_for n (Told old new) h = absurd h
held_for n (Tells answer) h = h

moved_for : (config : Config) (v : View) (l n : ℕ) (p q : Phase) (keys : List Key) → MayMove config v l p q keys → IsFor n q → IsFor n p
moved_for config v l n p Idle keys m h = absurd h
moved_for config v l n p (Asked i) keys m h = absurd m
moved_for config v l n p (Waits i None) keys m h = held_for n p (subst (λ z. IsHeld z p) h m)
moved_for config v l n p (Waits i (Some number)) keys m h = held_for n p (subst (λ z. IsHeld z p) h m.0)
moved_for config v l n p (Plans i x) keys m h = held_for n p (subst (λ z. IsHeld z p) h m.0)
moved_for config v l n p Runs keys m h = absurd h
moved_for config v l n p (Told old new) keys m h = absurd h
moved_for config v l n p (Tells (Opens k dir)) keys m h = absurd m
moved_for config v l n p (Tells (Lists k dir)) keys m h = absurd m
moved_for config v l n p (Tells (Replies k reply)) keys m h = absurd h

-- the new place rests on no shut key
moved_off : (config : Config) (v : View) (l : ℕ) (p q : Phase) (keys : List Key) → MayMove config v l p q keys → (n : ℕ) (key : Key) → IsCrossing n q → IsCrossed keys key → IsShut (v.op.shut n) key → ⊥
moved_off config v l p Idle keys m n key at crossed is = absurd at
moved_off config v l p (Asked i) keys m n key at crossed is = absurd at
moved_off config v l p (Waits i None) keys m n key at crossed is = absurd at
moved_off config v l p (Waits i (Some number)) keys m n key at crossed is = m.3 key crossed (subst (λ z. IsShut (v.op.shut z) key) (sym at) is)
moved_off config v l p (Plans i x) keys m n key at crossed is = m.3 key crossed (subst (λ z. IsShut (v.op.shut z) key) (sym at) is)
moved_off config v l p Runs keys m n key at crossed is = absurd at
moved_off config v l p (Told old new) keys m n key at crossed is = absurd at
moved_off config v l p (Tells (Opens k dir)) keys m n key at crossed is = absurd at
moved_off config v l p (Tells (Lists k dir)) keys m n key at crossed is = absurd at
moved_off config v l p (Tells (Replies k reply)) keys m n key at crossed is = absurd at

moved_untold : (config : Config) (v : View) (l : ℕ) (p q : Phase) (keys : List Key) → MayMove config v l p q keys → Untold p
moved_untold config v l p Idle keys m = absurd m
moved_untold config v l p (Asked n) keys m = absurd m
moved_untold config v l p (Waits n None) keys m = held_untold n p m
moved_untold config v l p (Waits n (Some number)) keys m = held_untold n p m.0
moved_untold config v l p (Plans n x) keys m = held_untold n p m.0
moved_untold config v l p Runs keys m = absurd m
moved_untold config v l p (Told old new) keys m = absurd m
moved_untold config v l p (Tells (Opens k dir)) keys m = absurd m
moved_untold config v l p (Tells (Lists k dir)) keys m = absurd m
moved_untold config v l p (Tells (Replies k reply)) keys m = held_untold m.0.0 p m.0.1

pub moved_good : (config : Config) (v : View) (phase : ℕ → Phase) (crossed : ℕ → List Key)
    → ((l : ℕ) → ((phase l ≡ v.phase l) × (v.op.crossed l ≡ crossed l)) ⊎ MayMove config v l (v.phase l) (phase l) (crossed l))
    → Good config v → Good config (record v { phase = phase; op = record v.op { crossed = crossed } })
moved_good config v phase crossed moves g =
    let both = λ (l : ℕ). ⊎_elim {C = Goes (v.phase l) (phase l) × IsSteady (v.phase l) (phase l) × Stays (v.phase l) (phase l)} (λ same. (goes_same (v.phase l) (phase l) same.0, steady_same (v.phase l) (phase l) same.0, λ n e. same.0 ∙ e)) (λ m. moved_goes config v l (v.phase l) (phase l) (crossed l) m) (moves l) in
    let goes = λ (l : ℕ). (both l).0 in
    record {
      ground = g.ground;
      clear = clear_moved g.clear crossed phase (λ l n key at among is. ⊎_elim
          (λ same. g.clear.ways l n key (subst (IsCrossing n) same.0 at) (subst (λ keys. IsCrossed keys key) (sym same.1) among) is)
          (λ m. moved_off config v l (v.phase l) (phase l) (crossed l) m n key at among is)
          (moves l));
      asking = asking_moved g.asking phase crossed (λ l n number e. ⊎_elim
          (λ same. (g.asking.waits_drawn l n number (sym same.0 ∙ e), inl (sym same.0 ∙ e, same.1)))
          (λ m. let z = subst (λ q. MayMove config v l (v.phase l) q (crossed l)) e m in (z.1, inr z.2))
          (moves l));
      plans = plans_moved g.plans phase crossed (λ l n x e. ⊎_elim
          (λ same. inl (sym same.0 ∙ e, same.1))
          (λ m. let z = subst (λ q. MayMove config v l (v.phase l) q (crossed l)) e m in inr (z.1, z.2))
          (moves l));
      lanes = lanes_moved g.lanes phase goes
          (λ l k reply e _. ⊎_elim (λ same. inl (sym same.0 ∙ e)) (λ m. inr (subst (λ q. MayMove config v l (v.phase l) q (crossed l)) e m).1) (moves l))
          (λ l n is. ⊎_elim (λ same. subst (IsFor n) same.0 is) (λ m. moved_for config v l n (v.phase l) (phase l) (crossed l) m is) (moves l));
      script = script_moved g.script phase goes (λ l k reply e. ⊎_elim (λ same. inl (sym same.0 ∙ e)) (λ m. let z = subst (λ q. MayMove config v l (v.phase l) q (crossed l)) e m in inr z.1.tree) (moves l));
      records = records_moved g.records phase goes (λ l. (both l).2);
      operation = operation_moved g.operation phase (λ l. (both l).1);
      bars = bars_moved g.bars phase (λ l n x e. ⊎_elim
          (λ same. inl (sym same.0 ∙ e))
          (λ m. inr (subst (λ q. MayMove config v l (v.phase l) q (crossed l)) e m).4)
          (moves l));
      knowing = knowing_moved g.knowing phase (λ l. (goes l).still)
          (λ l old new e. ⊎_elim (λ same. sym same.0 ∙ e) (λ m. absurd (subst (λ q. MayMove config v l (v.phase l) q (crossed l)) e m)) (moves l))
          (λ l old new e. ⊎_elim (λ same. same.0 ∙ e) (λ m. absurd (subst Untold e (moved_untold config v l (v.phase l) (phase l) (crossed l) m))) (moves l))
          (λ l. (goes l).listing);
      listings = listings_moved g.listings phase (λ l. (goes l).still)
          (λ l k dir h. ⊎_elim
          (λ same. same.0)
          (λ m. absurd (⊎_elim (λ e. subst (λ q. MayMove config v l (v.phase l) q (crossed l)) e m) (λ e. subst (λ q. MayMove config v l (v.phase l) q (crossed l)) e m) h))
          (moves l))
          (λ l. (goes l).listing);
    }
