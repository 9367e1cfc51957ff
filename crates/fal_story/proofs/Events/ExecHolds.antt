-- What the batches of a node hold when one of them was executed: the calls that are still planned are of the others.
use Rattle.std.proofs.Common.{◌≡◌, ◌≢◌, ⊎_elim, ℕ, ◌<◌, ◌==◌, true, false, cond, List, [], ◌∷◌, map, Some, refl, sym, ap, subst, ◌∙◌}
use Rattle.std.specs.List.{find}
use Rattle.std.proofs.lemmas.Option.{same_Some}
use Rattle.fal_dentry.specs.Walk.{is_among}
use Rattle.fal_node.specs.declared.batch.Batch.{Batch}
use Rattle.fal_node.specs.Exec.{as_executed}
use Rattle.fal_node.specs.State.{NodeState, batch_of}
use Rattle.fal_run.specs.declared.call.BatchCall.{BatchCall}
use Rattle.fal_story.proofs.Events.Running.{IsRunning, IsUnplanned, running_planned}
use Rattle.fal_story.proofs.Events.Shows.{Ghost, Holds, IsHeldBy, is_holding, planned_lane}
use Rattle.fal_story.proofs.Lists.Each.{Each, each_weaker}
use Rattle.fal_story.proofs.Lists.Grown.{tells, unequal}
use Rattle.fal_story.proofs.Lists.Members.{IsIn, each_in, each_map}
use Rattle.fal_story.proofs.Phase.{Plans}

-- ---- batches that are marked

-- a batch keeps its number
marked_number : (number : ℕ) (b : Batch) → (as_executed number b).number ≡ b.number
marked_number number b = elim (b.number == number) as (λ t. (cond t (record b { executed = true }) b).number ≡ b.number) [ true ↦ refl | false ↦ refl ]

-- a batch of another number stays
marked_other : (number : ℕ) (b : Batch) → b.number ≢ number → as_executed number b ≡ b
marked_other number b apart = ap (λ t. cond t (record b { executed = true }) b) (unequal b.number number apart)

-- and is found where it was
find_marked : (bs : List Batch) (number k : ℕ) (b : Batch) → k ≢ number → find (λ (z : Batch). z.number == k) bs ≡ Some b → find (λ (z : Batch). z.number == k) (map (as_executed number) bs) ≡ Some b
find_marked [] number k b apart e = absurd (cc)
find_marked (c ∷ bs) number k b apart e =
    let rest = find (λ (z : Batch). z.number == k) bs in
    let later = find (λ (z : Batch). z.number == k) (map (as_executed number) bs) in
    let marked = as_executed number c in
    ⊎_elim {C = cond (marked.number == k) (Some marked) later ≡ Some b}
    (λ t.
    let stays : marked ≡ c = marked_other number c (λ same. apart (sym t.1 ∙ same)) in
    (λ i. cond ((stays i).number == k) (Some (stays i)) later) ∙ ap (λ q. cond q (Some c) later) t.0 ∙ sym (ap (λ q. cond q (Some c) rest) t.0) ∙ e)
    (λ t.
    ap (λ i. cond (i == k) (Some marked) later) (marked_number number c) ∙ ap (λ q. cond q (Some marked) later) t.0
    ∙ find_marked bs number k b apart (sym (ap (λ q. cond q (Some c) rest) t.0) ∙ e))
    (tells c.number k)

below_marked : (count number : ℕ) (bs : List Batch) → Each (λ (b : Batch). b.number < count) bs → Each (λ (b : Batch). b.number < count) (map (as_executed number) bs)
below_marked count number bs below =
    each_map (λ (b : Batch). b.number < count) (as_executed number) bs (each_weaker _ _ bs (λ b less. subst (λ i. i < count) (sym (marked_number number b)) less) below)

-- ---- the node

-- a batch of a node was executed, and its calls are planned no more
pub holds_executed : (n number : ℕ) (x y : NodeState) (batch : Batch) (h later : Ghost) → batch_of x number ≡ Some batch → y.batches ≡ map (as_executed number) x.batches → y.locks.holders ≡ x.locks.holders
    → y.batches_numbered ≡ x.batches_numbered → IsRunning n h later → Each (λ p. IsUnplanned (later.phase (planned_lane p))) batch.calls → Holds h.phase h.crossed n x → Holds later.phase later.crossed n y
holds_executed n number x y batch h later found batches holders numbered running run holds = record {
  below = subst (λ (bs : List Batch). Each (λ (b : Batch). b.number < y.batches_numbered) bs) (sym batches)
      (subst (λ (count : ℕ). Each (λ (b : Batch). b.number < count) (map (as_executed number) x.batches)) (sym numbered) (below_marked x.batches_numbered number x.batches holds.below));
  planned = λ l p e.
      let was = running_planned n h later running n l p e in
      let held = holds.planned l p was.0 in
      record {
        batch = held.batch;
        there = ap (λ (bs : List Batch). find (λ (b : Batch). b.number == held.batch.number) bs) batches ∙ find_marked x.batches number held.batch.number held.batch (other l p e held) held.there;
        pending = held.pending;
        among = held.among;
        lane = held.lane;
        keys_held = λ key among. ap (λ hs. is_holding (record { holders = hs; shut = y.locks.shut }) held.batch.number key) holders
            ∙ held.keys_held key (ap (is_among key) was.1 ∙ among);
      };
}
  where
    other : (l : ℕ) (p : BatchCall) → later.phase l ≡ Plans n p → (held : IsHeldBy l (h.crossed l) x p) → held.batch.number ≢ number
    other l p e held same =
        let one : held.batch ≡ batch = same_Some held.batch batch (sym held.there ∙ ap (batch_of x) same ∙ found) in
        let off = each_in (λ (q : BatchCall). IsUnplanned (later.phase (planned_lane q))) batch.calls p run (subst (λ (b : Batch). IsIn p b.calls) one held.among) in
        off n p (ap later.phase held.lane ∙ e)
