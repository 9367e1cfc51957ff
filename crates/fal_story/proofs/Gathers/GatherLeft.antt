-- What nodes keep and clients know when calls have left a node that gathers: all but those calls is as the lists say.
use Rattle.std.proofs.Common.{◌≡◌, ◌≢◌, ◌⊎◌, inl, inr, ⊎_elim, ℕ, ◌<◌, List, ◌++◌, filter_map, Option, Some, None, refl, sym, ap, subst, ◌∙◌}
use Rattle.fal_base.specs.declared.call.CallRec.{CallRec}
use Rattle.fal_base.specs.declared.call.Config.{Config}
use Rattle.fal_base.specs.declared.key.Key.{Key}
use Rattle.fal_client.specs.State.{ClientState}
use Rattle.fal_node.specs.Gather.{setting_at}
use Rattle.fal_node.specs.State.{NodeState}
use Rattle.fal_run.specs.declared.call.BatchCall.{BatchCall}
use Rattle.fal_wait.specs.declared.pending_fetch.PendingFetch.{PendingFetch}
use Rattle.fal_wait.specs.declared.waiting_call.WaitingCall.{WaitingCall}
use Rattle.fal_wait.specs.Waiting.{WaitList}
use Rattle.fal_story.proofs.Events.Besides.{StaysThere}
use Rattle.fal_story.proofs.Events.Elsewhere.{for_elsewhere}
use Rattle.fal_story.proofs.Gathers.GatherHolds.{IsGrown, holds_after, others_planned}
use Rattle.fal_story.proofs.Gathers.GatherPhases.{crossed, phase, moves_at, held_after, left_free, left_was, waits_at}
use Rattle.fal_story.proofs.Gathers.GatherSends.{calls_after, left_call, left_cases, left_phase, phases_after}
use Rattle.fal_story.proofs.Events.HeldCalls.{AsksNone, MovesAt, for_asks_none, for_not_idle, listed_none, one_node}
use Rattle.fal_story.proofs.Events.Shows.{Ghost, Shows, Held, Heard, IsListed, Holds, PlannedAt, WaitsAt, calls_in, lane_of, planned_lane}
use Rattle.fal_story.proofs.Lists.Each.{Each, each_both, each_join, each_weaker}
use Rattle.fal_story.proofs.Lists.GatherKeys.{HasKeys}
use Rattle.fal_story.proofs.Lists.GatherLetters.{Errand, leaver_of}
use Rattle.fal_story.proofs.Lists.GatherLists.{IsGathered, Leaver, left_lane}
use Rattle.fal_story.proofs.Lists.Members.{IsIn, each_in}
use Rattle.fal_story.proofs.Phase.{Phase, Idle, Plans, Waits, IsFor, IsHeld}
use Rattle.fal_story.proofs.Steps.Moved.{held_for}
use Rattle.fal_story.proofs.View.{plain}
use Rattle.fal_story.specs.World.{World}

-- ---- calls of other lanes

-- of each call that is kept, the record and the place are the same
abbrev Same : (ℕ → CallRec) → (ℕ → CallRec) → (ℕ → Phase) → (ℕ → Phase) → ℕ → Type 0
Same call call' phase phase' l = (call' l ≡ call l) × (phase' l ≡ phase l)

held_same : (call call' : ℕ → CallRec) (phase phase' : ℕ → Phase) (n : ℕ) (ws : List WaitingCall) (ps : List BatchCall) → Each (λ w. Same call call' phase phase' (lane_of w)) ws → Each (λ x. Same call call' phase phase' (planned_lane x)) ps
    → Held call phase n ws ps → Held call' phase' n ws ps
held_same call call' phase phase' n ws ps waits plans h = record {
  waiters = each_both _ (WaitsAt call phase n) (WaitsAt call' phase' n) ws (λ w same at. (same.1 ∙ at.0, at.1 ∙ sym same.0, at.2, at.3)) waits h.waiters;
  planned = each_both _ (PlannedAt call phase n) (PlannedAt call' phase' n) ps (λ x same at. (same.1 ∙ at.0, at.1 ∙ sym same.0, at.2)) plans h.planned;
  waiters_apart = h.waiters_apart;
  planned_apart = h.planned_apart;
}

heard_same : (config : Config) (call call' : ℕ → CallRec) (phase phase' : ℕ → Phase) (l : ℕ) (c : ClientState) → (plain (call' l) ≡ plain (call l)) × ((call' l).id.attempt ≡ (call l).id.attempt) → (phase l ≡ Idle → phase' l ≡ Idle) → (phase' l ≡ Idle → phase l ≡ Idle) → (phase' l ≡ phase l) ⊎ (AsksNone (phase l) × AsksNone (phase' l))
    → Heard config call phase l c → Heard config call' phase' l c
heard_same config call call' phase phase' l c same idle busy lists h = record {
  lane = h.lane;
  nodes = h.nodes;
  left = h.left;
  none = λ e. idle (h.none e);
  some = λ current e. let s = h.some current e in (
    λ i. s.0 (busy i),
    s.1 ∙ sym same.0,
    s.2 ∙ sym same.1,
    ⊎_elim (λ e. subst (λ p. IsListed config.nodes p current.listing) (sym e) s.3) (λ y. listed_none config.nodes (phase l) (phase' l) current.listing y.0 y.1 s.3) lists,
  );
}

-- a call that left is under way, and not planned
left_not_idle : (x : NodeState) (call : CallRec) (to : Option ℕ) → left_phase x call to ≢ Idle
left_not_idle x call None e = cc
left_not_idle x call (Some m) e = cc

left_asks_none : (x : NodeState) (call : CallRec) (to : Option ℕ) → AsksNone (left_phase x call to)
left_asks_none x call None = tt
left_asks_none x call (Some m) = tt

left_not_planned : (x : NodeState) (call : CallRec) (to : Option ℕ) (n : ℕ) (p : BatchCall) → left_phase x call to ≢ Plans n p
left_not_planned x call None n p e = cc
left_not_planned x call (Some m) n p e = cc

left_plain : (call : CallRec) (to : Option ℕ) → (plain (left_call call to) ≡ plain call) × ((left_call call to).id.attempt ≡ call.id.attempt)
left_plain call None = (refl, refl)
left_plain call (Some m) = (refl, refl)

module _ (config : Config) (w : World) (n : ℕ) (h : Ghost) (there : n < config.nodes) (other : n ≢ 255) (s : Shows config w h) (after : WaitList) (opened : List PendingFetch) (batch : List BatchCall) (left : List Leaver)
    (g : IsGathered (setting_at (w.nodes n)) (w.nodes n).waiting after opened batch left) (errands : List Errand) (are : filter_map leaver_of errands ≡ left) where
  abbrev later : ℕ → Phase
  later = phase config w n h there other s after opened batch left g

  abbrev rests : ℕ → List Key
  rests = crossed config w n h there other s

  abbrev pub calls : ℕ → CallRec
  calls = calls_after errands h.call

  abbrev pub gone : ℕ → Phase
  gone = phases_after (w.nodes n) errands later

  -- ---- the calls that have left

  -- each was free here
  was_free : (y : Leaver) → IsIn y left → h.phase (left_lane y) ≡ Waits n None
  was_free y m = left_free config w n h there other s after opened batch left g y m

  pub left_same : (y : Leaver) → IsIn y left → y.call ≡ h.call (left_lane y)
  left_same y m =
      let was = left_was config w n h there other s after opened batch left g y m in
      was.1.2 ∙ (waits_at config w n h there other s was.0 was.1.0).1 ∙ ap (λ (c : CallRec). h.call c.id.client) (sym was.1.2)

  cases : (l : ℕ) → ((calls l ≡ h.call l) × (gone l ≡ later l)) ⊎ ((y : Leaver) × (IsIn y left × (left_lane y ≡ l) × (calls l ≡ left_call y.call y.to) × (gone l ≡ left_phase (w.nodes n) y.call y.to)))
  cases l = ⊎_elim (λ same. inl same) (λ z. inr (z.0, (subst (IsIn z.0) are z.1.0, z.1.1, z.1.2, z.1.3))) (left_cases (w.nodes n) errands h.call later l)

  -- a lane from which none left has its call where it was
  lane_kept : (l : ℕ) → ((y : Leaver) → IsIn y left → left_lane y ≢ l) → (calls l ≡ h.call l) × (gone l ≡ later l)
  lane_kept l none = ⊎_elim (λ same. same) (λ z. absurd (none z.0 z.1.0 z.1.1)) (cases l)

  was_here : (l : ℕ) (y : Leaver) → IsIn y left → left_lane y ≡ l → h.phase l ≡ Waits n None
  was_here l y m lane = subst (λ i. h.phase i ≡ Waits n None) lane (was_free y m)

  was_for : (l : ℕ) (y : Leaver) → IsIn y left → left_lane y ≡ l → IsFor n (h.phase l)
  was_for l y m lane = subst (IsFor n) (sym (was_here l y m lane)) refl

  pub gone_moves : MovesAt n h.phase gone
  gone_moves l = ⊎_elim
      (λ same. ⊎_elim (λ e. inl (same.1 ∙ e)) (λ y. inr (y.0, (λ e. y.1 (sym same.1 ∙ e)), subst AsksNone (sym same.1) y.2)) (moves_at config w n h there other s after opened batch left g l))
      (λ z. inr (was_for l z.0 z.1.0 z.1.1, (λ e. left_not_idle (w.nodes n) z.0.call z.0.to (sym z.1.3 ∙ e)), subst AsksNone (sym z.1.3) (left_asks_none (w.nodes n) z.0.call z.0.to)))
      (cases l)

  -- ---- the coordinator, clients, and other nodes

  pub gone_stays : (l : ℕ) → StaysThere h.call calls h.phase gone l
  gone_stays l = ⊎_elim
      (λ same. ⊎_elim (λ e. inl (same.1 ∙ e, same.0)) (λ y. inr (for_elsewhere n (h.phase l) other y.0)) (moves_at config w n h there other s after opened batch left g l))
      (λ z. inr (for_elsewhere n (h.phase l) other (was_for l z.0 z.1.0 z.1.1)))
      (cases l)

  same_call : (l : ℕ) → (plain (calls l) ≡ plain (h.call l)) × ((calls l).id.attempt ≡ (h.call l).id.attempt)
  same_call l = ⊎_elim
      (λ same. (ap plain same.0, ap (λ (c : CallRec). c.id.attempt) same.0))
      (λ z.
      let own = left_plain z.0.call z.0.to in
      let was : z.0.call ≡ h.call l = left_same z.0 z.1.0 ∙ ap h.call z.1.1 in
      (ap plain z.1.2 ∙ own.0 ∙ ap plain was, ap (λ (c : CallRec). c.id.attempt) z.1.2 ∙ own.1 ∙ ap (λ (c : CallRec). c.id.attempt) was))
      (cases l)

  pub gone_heard : (l : ℕ) → Heard config calls gone l (w.clients l)
  gone_heard l = heard_same config h.call calls h.phase gone l (w.clients l) (same_call l)
      (λ idle. ⊎_elim (λ same. same ∙ idle) (λ y. absurd (for_not_idle n (h.phase l) y.0 idle)) (gone_moves l))
      (λ idle. ⊎_elim (λ same. sym same ∙ idle) (λ y. absurd (y.1 idle)) (gone_moves l))
      (⊎_elim (λ same. inl same) (λ y. inr (for_asks_none n (h.phase l) y.0, y.2)) (gone_moves l))
      (s.heard l)

  -- a call that another node keeps stays
  other_kept : (m l : ℕ) → m ≢ n → IsHeld m (h.phase l) → Same h.call calls h.phase gone l
  other_kept m l apart held =
      let wrong = λ (at : IsFor n (h.phase l)). apart (one_node m n (h.phase l) (held_for m (h.phase l) held) at) in
      ⊎_elim
      (λ same. (same.0, same.1 ∙ ⊎_elim (λ e. e) (λ y. absurd (wrong y.0)) (moves_at config w n h there other s after opened batch left g l)))
      (λ z. absurd (wrong (was_for l z.0 z.1.0 z.1.1)))
      (cases l)

  pub gone_others : (m : ℕ) → m ≢ n → Held calls gone m (w.nodes m).waiting.calls (calls_in (w.nodes m).batches)
  gone_others m apart =
      let held = s.held m in
      held_same h.call calls h.phase gone m (w.nodes m).waiting.calls (calls_in (w.nodes m).batches)
      (each_weaker (WaitsAt h.call h.phase m) _ (w.nodes m).waiting.calls (λ c at. other_kept m (lane_of c) apart (subst (IsHeld m) (sym at.0) refl)) held.waiters)
      (each_weaker (PlannedAt h.call h.phase m) _ (calls_in (w.nodes m).batches) (λ x at. other_kept m (planned_lane x) apart (subst (IsHeld m) (sym at.0) refl)) held.planned)
      held

  -- ---- this node

  lanes_apart : (l : ℕ) → Each (λ y. left_lane y ≢ l) left → Same h.call calls later gone l
  lanes_apart l apart = lane_kept l (λ y m. each_in (λ v. left_lane v ≢ l) left y apart m)

  -- a call that was planned did not leave
  planned_kept : (x : BatchCall) → PlannedAt h.call h.phase n x → Same h.call calls later gone (planned_lane x)
  planned_kept x at = lane_kept (planned_lane x) (λ y m lane. let wrong : Waits n None ≡ Plans n x = sym (was_here (planned_lane x) y m lane) ∙ at.0 in absurd (cc))

  pub gone_held : Held calls gone n after.calls (calls_in (w.nodes n).batches ++ batch)
  gone_held =
      let lanes = (s.held n).waiters_apart in
      held_same h.call calls later gone n after.calls (calls_in (w.nodes n).batches ++ batch)
      (each_weaker _ _ after.calls (λ c apart. lanes_apart (lane_of c) apart) (g.left_apart lanes))
      (each_join (λ x. Same h.call calls later gone (planned_lane x)) (calls_in (w.nodes n).batches) batch
      (each_weaker (PlannedAt h.call h.phase n) _ (calls_in (w.nodes n).batches) planned_kept (s.held n).planned)
      (each_weaker _ _ batch (λ x apart. lanes_apart (planned_lane x) apart) (g.parted lanes)))
      (held_after config w n h there other s after opened batch left g)

  -- who is planned then was so by the lists
  planned_was : (m l : ℕ) (p : BatchCall) → gone l ≡ Plans m p → later l ≡ Plans m p
  planned_was m l p e = ⊎_elim (λ same. sym same.1 ∙ e) (λ z. absurd (left_not_planned (w.nodes n) z.0.call z.0.to m p (sym z.1.3 ∙ e))) (cases l)

  pub gone_planned : (m l : ℕ) (p : BatchCall) → m ≢ n → gone l ≡ Plans m p → (h.phase l ≡ Plans m p) × (h.crossed l ≡ rests l)
  gone_planned m l p apart e = others_planned config w n h there other s after opened batch left g m l p apart (planned_was m l p e)

  pub gone_holds : (y : NodeState) (keys : List Key) → IsGrown (w.nodes n) y batch keys → Each (HasKeys (setting_at (w.nodes n)) keys) batch → Holds gone rests n y
  gone_holds y keys grown covered =
      let holds = holds_after config w n h there other s after opened batch left g y keys grown covered in
      record { below = holds.below; planned = λ l p e. holds.planned l p (planned_was n l p e) }
