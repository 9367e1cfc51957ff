-- What nodes keep, and what clients know, when a lane's call gets another record.
use Rattle.std.proofs.Common.{◌≡◌, ℕ, List, refl, sym, ap, subst, ◌∙◌}
use Rattle.fal_base.specs.declared.call.CallRec.{CallRec}
use Rattle.fal_base.specs.declared.call.Config.{Config}
use Rattle.fal_client.specs.State.{ClientState}
use Rattle.fal_run.specs.declared.call.BatchCall.{BatchCall}
use Rattle.fal_wait.specs.declared.waiting_call.WaitingCall.{WaitingCall}
use Rattle.fal_story.proofs.Events.Shows.{Held, Heard, WaitsAt, PlannedAt, lane_of, planned_lane}
use Rattle.fal_story.proofs.Lists.Each.{each_weaker}
use Rattle.fal_story.proofs.Lists.Grown.{put_all, put_other}
use Rattle.fal_story.proofs.Phase.{Phase, IsHeld}
use Rattle.fal_story.proofs.View.{plain}
use Rattle.fal_story.specs.World.{put}

-- a node that does not keep the call keeps what it did
pub held_called : (call : ℕ → CallRec) (phase : ℕ → Phase) (n : ℕ) (ws : List WaitingCall) (ps : List BatchCall) (l : ℕ) (c : CallRec) → (IsHeld n (phase l) → ⊥) → Held call phase n ws ps → Held (put call l c) phase n ws ps
held_called call phase n ws ps l c free h = record {
  waiters = each_weaker (WaitsAt call phase n) (WaitsAt (put call l c) phase n) ws (λ w a. subst (λ d. WaitsAt (λ _. d) phase n w) (stays (lane_of w) (subst (IsHeld n) (sym a.0) refl)) a) h.waiters;
  planned = each_weaker (PlannedAt call phase n) (PlannedAt (put call l c) phase n) ps (λ x a. subst (λ d. PlannedAt (λ _. d) phase n x) (stays (planned_lane x) (subst (IsHeld n) (sym a.0) refl)) a) h.planned;
  waiters_apart = h.waiters_apart;
  planned_apart = h.planned_apart;
}
  where
    stays : (a : ℕ) → IsHeld n (phase a) → call a ≡ put call l c a
    stays a held = sym (put_other call l c a (λ e. free (subst (IsHeld n) (ap phase e) held)))

-- a client knows what it did, where the other record is of the same call and attempt
pub heard_called : (config : Config) (call : ℕ → CallRec) (phase : ℕ → Phase) (l : ℕ) (c : CallRec) → plain c ≡ plain (call l) → c.id.attempt ≡ (call l).id.attempt → (a : ℕ) (client : ClientState) → Heard config call phase a client
    → Heard config (put call l c) phase a client
heard_called config call phase l c same attempt a client h = record {
  lane = h.lane;
  nodes = h.nodes;
  left = h.left;
  none = h.none;
  some = λ current e.
      let s = h.some current e in
      let same_one = put_all (λ b d. (plain d ≡ plain (call b)) × (d.id.attempt ≡ (call b).id.attempt)) call l c (same, attempt) (λ b _. (refl, refl)) a in
      (s.0, s.1 ∙ sym same_one.0, s.2 ∙ sym same_one.1, s.3);
}
