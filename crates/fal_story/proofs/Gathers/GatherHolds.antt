-- What the batches of a node hold when it has gathered: each planned call's keys, of those that were planned and of those of the new batch.
use Rattle.std.proofs.Common.{◌≡◌, ◌≢◌, ◌⊎◌, inl, inr, ⊎_elim, ℕ, ◌+◌, ◌<◌, ◌==◌, true, false, ◌&&◌, ◌||◌, cond, List, [], ◌∷◌, ◌++◌, Some, None, refl, sym, ap, subst, ◌∙◌, eq-eqb, arith}
use Rattle.std.specs.List.{find}
use Rattle.std.specs.Option.{option_or}
use Rattle.std.proofs.lemmas.List.Folds.{find-append, list_any-append}
use Rattle.fal_base.specs.declared.call.Config.{Config}
use Rattle.fal_base.specs.declared.key.Key.{Key}
use Rattle.fal_batch.proofs.KeyLists.{same_turned}
use Rattle.fal_dentry.specs.Walk.{is_among}
use Rattle.fal_locks.specs.Keys.{has_key}
use Rattle.fal_locks.specs.declared.holder.Holder.{Holder}
use Rattle.fal_node.specs.declared.batch.Batch.{Batch}
use Rattle.fal_node.specs.Gather.{setting_at}
use Rattle.fal_node.specs.State.{NodeState}
use Rattle.fal_run.specs.declared.call.BatchCall.{BatchCall}
use Rattle.fal_wait.specs.declared.pending_fetch.PendingFetch.{PendingFetch}
use Rattle.fal_wait.specs.Waiting.{WaitList}
use Rattle.fal_story.proofs.Events.Besides.{holds_kept}
use Rattle.fal_story.proofs.Gathers.GatherPhases.{crossed, phase, planned_crossed, joined_keys}
use Rattle.fal_story.proofs.Gathers.ListedPhases.{listed_cases}
use Rattle.fal_story.proofs.Events.Shows.{Ghost, Shows, Holds, IsHeldBy, is_holding, planned_lane}
use Rattle.fal_story.proofs.Lists.Each.{Each, each_weaker, each_join}
use Rattle.fal_story.proofs.Lists.GatherKeys.{HasKeys}
use Rattle.fal_story.proofs.Lists.GatherLists.{IsGathered, Leaver}
use Rattle.fal_story.proofs.Lists.Grown.{or_second}
use Rattle.fal_story.proofs.Lists.Members.{IsIn, find_absent}
use Rattle.fal_story.proofs.Phase.{Phase, Waits, Plans}
use Rattle.fal_story.specs.World.{World}

-- ---- the node with one batch more

abbrev pub new_batch : NodeState → List BatchCall → Batch
new_batch x batch = record { number = x.batches_numbered; calls = batch; executed = false }

abbrev new_holder : NodeState → List Key → Holder
new_holder x keys = record { number = x.batches_numbered; keys = keys }

-- the batches are those that there were
pub record IsUnbatched (x y : NodeState) (batch : List BatchCall) : Type 0 where
  pub none : batch ≡ []
  pub batches : y.batches ≡ x.batches
  pub holders : y.locks.holders ≡ x.locks.holders
  pub numbered : y.batches_numbered ≡ x.batches_numbered

-- there is one more, which holds these keys
pub record IsBatched (x y : NodeState) (batch : List BatchCall) (keys : List Key) : Type 0 where
  pub batches : y.batches ≡ x.batches ++ new_batch x batch ∷ []
  pub holders : y.locks.holders ≡ x.locks.holders ++ record { number = x.batches_numbered; keys = keys } ∷ []
  pub numbered : y.batches_numbered ≡ x.batches_numbered + 1

abbrev pub IsGrown : NodeState → NodeState → List BatchCall → List Key → Type 0
IsGrown x y batch keys = IsUnbatched x y batch ⊎ IsBatched x y batch keys

among_has : (key : Key) (keys : List Key) → is_among key keys ≡ has_key keys key
among_has key [] = refl
among_has key (k ∷ keys) = (λ i. same_turned k key i || among_has key keys i)

module _ (x y : NodeState) (batch : List BatchCall) (keys : List Key) (b : IsBatched x y batch keys) (below : Each (λ (z : Batch). z.number < x.batches_numbered) x.batches) where
  below_more : Each (λ (z : Batch). z.number < y.batches_numbered) y.batches
  below_more =
      subst (λ (bs : List Batch). Each (λ (z : Batch). z.number < y.batches_numbered) bs) (sym b.batches)
      (subst (λ count. Each (λ (z : Batch). z.number < count) (x.batches ++ new_batch x batch ∷ [])) (sym b.numbered)
      (each_join (λ (z : Batch). z.number < x.batches_numbered + 1) x.batches (new_batch x batch ∷ []) (each_weaker _ _ x.batches (λ z less. omega arith) below) (omega arith, tt)))

  holds_by : (number : ℕ) (key : Key) → is_holding y.locks number key
      ≡ (is_holding x.locks number key || (((x.batches_numbered == number) && has_key keys key) || false))
  holds_by number key =
      ap (λ hs. is_holding (record { holders = hs; shut = y.locks.shut }) number key) b.holders
      ∙ list_any-append (λ (h : Holder). (h.number == number) && has_key h.keys key) x.locks.holders (new_holder x keys ∷ [])

  -- a call of an earlier batch
  held_more : (l : ℕ) (rests : List Key) (p : BatchCall) → IsHeldBy l rests x p → IsHeldBy l rests y p
  held_more l rests p held = record {
    batch = held.batch;
    there = ap (λ (bs : List Batch). find (λ (z : Batch). z.number == held.batch.number) bs) b.batches
        ∙ find-append (λ (z : Batch). z.number == held.batch.number) x.batches (new_batch x batch ∷ [])
        ∙ ap (λ o. option_or o (find (λ (z : Batch). z.number == held.batch.number) (new_batch x batch ∷ []))) held.there;
    pending = held.pending;
    among = held.among;
    lane = held.lane;
    keys_held = λ key among. holds_by held.batch.number key ∙ ap (λ t. t || (((x.batches_numbered == held.batch.number) && has_key keys key) || false)) (held.keys_held key among);
  }

  -- a call of the new batch
  held_new : (l : ℕ) (rests : List Key) (p : BatchCall) → IsIn p batch → planned_lane p ≡ l → ((key : Key) → is_among key rests ≡ true → is_among key keys ≡ true) → IsHeldBy l rests y p
  held_new l rests p there lane covered = record {
    batch = new_batch x batch;
    there = ap (λ (bs : List Batch). find (λ (z : Batch). z.number == x.batches_numbered) bs) b.batches
        ∙ find-append (λ (z : Batch). z.number == x.batches_numbered) x.batches (new_batch x batch ∷ [])
        ∙ ap (λ o. option_or o (find (λ (z : Batch). z.number == x.batches_numbered) (new_batch x batch ∷ [])))
        (find_absent (λ (z : Batch). z.number) x.batches_numbered x.batches (each_weaker _ _ x.batches (λ z less same. omega arith) below))
        ∙ ap (λ t. cond t (Some (new_batch x batch)) None) (eq-eqb x.batches_numbered x.batches_numbered refl);
    pending = refl;
    among = there;
    lane = lane;
    keys_held = λ key among. holds_by x.batches_numbered key
        ∙ or_second (is_holding x.locks x.batches_numbered key) _
        ((λ i. ((eq-eqb x.batches_numbered x.batches_numbered refl i) && (sym (among_has key keys) ∙ covered key among) i) || false));
  }

-- ---- the calls that are planned then

module _ (config : Config) (w : World) (n : ℕ) (h : Ghost) (there : n < config.nodes) (other : n ≢ 255) (s : Shows config w h) (after : WaitList) (opened : List PendingFetch) (batch : List BatchCall) (left : List Leaver)
    (g : IsGathered (setting_at (w.nodes n)) (w.nodes n).waiting after opened batch left) where
  abbrev later : ℕ → Phase
  later = phase config w n h there other s after opened batch left g

  abbrev rests : ℕ → List Key
  rests = crossed config w n h there other s

  -- it was planned before, or is one of the new batch
  planned_cases : (l m : ℕ) (p : BatchCall) → later l ≡ Plans m p → (h.phase l ≡ Plans m p) ⊎ ((m ≡ n) × IsIn p batch × (planned_lane p ≡ l))
  planned_cases l m p e =
      ⊎_elim
      (λ same. inl (sym same ∙ e))
      (λ y. ⊎_elim
      (λ z. let wrong : Plans m p ≡ Waits n z.0.fetch = sym e ∙ z.1.2 in absurd (cc))
      (λ z.
      let same : Plans m p ≡ Plans n z.0 = sym e ∙ z.1.2 in
      let node : m ≡ n = cc in
      let one : z.0 ≡ p = cc in
      inr (node, subst (λ c. IsIn c batch) one z.1.0, ap planned_lane (sym one) ∙ z.1.1))
      y)
      (listed_cases n after.calls batch h.phase l)

  -- elsewhere it was planned before
  pub others_planned : (m l : ℕ) (p : BatchCall) → m ≢ n → later l ≡ Plans m p → (h.phase l ≡ Plans m p) × (h.crossed l ≡ rests l)
  others_planned m l p apart e = ⊎_elim {C = (h.phase l ≡ Plans m p) × (h.crossed l ≡ rests l)} (λ was. (was, planned_crossed config w n h there other s l m p was)) (λ new. absurd (apart new.0)) (planned_cases l m p e)

  pub holds_after : (y : NodeState) (keys : List Key) → IsGrown (w.nodes n) y batch keys → Each (HasKeys (setting_at (w.nodes n)) keys) batch → Holds later rests n y
  holds_after y keys grown covered = ⊎_elim none some grown
    where
      none : IsUnbatched (w.nodes n) y batch → Holds later rests n y
      none u = holds_kept h.phase later h.crossed rests n (w.nodes n) y u.batches u.holders u.numbered
          (λ l p e. ⊎_elim {C = (h.phase l ≡ Plans n p) × (h.crossed l ≡ rests l)} (λ was. (was, planned_crossed config w n h there other s l n p was)) (λ new. absurd (subst (IsIn p) u.none new.1)) (planned_cases l n p e))
          (s.beside.holding n)

      some : IsBatched (w.nodes n) y batch keys → Holds later rests n y
      some b =
          let below = (s.beside.holding n).below in
          record {
            below = below_more (w.nodes n) y batch keys b below;
            planned = λ l p e. ⊎_elim
                (λ was. held_more (w.nodes n) y batch keys b below l (rests l) p (subst (λ ks. IsHeldBy l ks (w.nodes n) p) (planned_crossed config w n h there other s l n p was) ((s.beside.holding n).planned l p was)))
                (λ new. held_new (w.nodes n) y batch keys b below l (rests l) p new.1 new.2 (joined_keys config w n h there other s after opened batch left g keys covered l p new.1 new.2))
                (planned_cases l n p e);
          }
