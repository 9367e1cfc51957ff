-- A call that comes to the coordinator, or waits there, goes on: what nodes keep, what clients know, and which calls wait at the coordinator stays.
use Rattle.std.proofs.Common.{◌≡◌, ◌≢◌, ⊎_elim, ℕ, List, refl, sym, ap, ◌∙◌, subst}
use Rattle.fal_base.specs.declared.call.CallRec.{CallRec}
use Rattle.fal_base.specs.declared.call.Config.{Config}
use Rattle.fal_base.specs.declared.key.Key.{Key}
use Rattle.fal_node.specs.State.{NodeState}
use Rattle.fal_run.specs.declared.call.BatchCall.{BatchCall}
use Rattle.fal_wait.specs.declared.waiting_call.WaitingCall.{WaitingCall}
use Rattle.fal_story.proofs.Events.Besides.{holds_kept}
use Rattle.fal_story.proofs.Events.HeldCalls.{AsksNone, heard_moves, put_moves}
use Rattle.fal_story.proofs.Events.Shows.{Held, Heard, Holds, PlannedAt, WaitsAt, WaitsThere, lane_of, planned_lane}
use Rattle.fal_story.proofs.Lists.Each.{Each, each_both, each_weaker}
use Rattle.fal_story.proofs.Lists.Grown.{from_put, put_other}
use Rattle.fal_story.proofs.Phase.{Phase, Idle, Asked, Waits, Plans, Runs, Tells, IsFor, Told}
use Rattle.fal_story.specs.World.{World, put}

-- it was sent to the coordinator, or waits there
abbrev pub IsThere : Phase → Type 0
IsThere Idle = ⊥
IsThere (Asked n) = n ≡ 255
IsThere (Waits n f) = n ≡ 255
IsThere (Plans n x) = ⊥
IsThere Runs = ⊥
IsThere (Told old new) = ⊥
IsThere (Tells answer) = ⊥

for_there : (p : Phase) → IsThere p → IsFor 255 p
for_there Idle is = is
for_there (Asked n) is = is
for_there (Waits n f) is = is
for_there (Plans n x) is = absurd is
for_there Runs is = is
for_there (Told old new) is = is
for_there (Tells answer) is = is

module _ (call : ℕ → CallRec) (phase : ℕ → Phase) (l : ℕ) (q : Phase) (there : IsThere (phase l)) (busy : q ≢ Idle) (unplanned : (n : ℕ) (x : BatchCall) → q ≢ Plans n x) where
  abbrev later : ℕ → Phase
  later = put phase l q

  waits_kept : (n : ℕ) (x : WaitingCall) → WaitsAt call phase n x → WaitsAt call later n x
  waits_kept n x at = (put_other phase l q (lane_of x) (λ same. at.2 (subst IsThere (ap phase (sym same) ∙ at.0) there)) ∙ at.0, at.1, at.2, at.3)

  plans_kept : (n : ℕ) (x : BatchCall) → PlannedAt call phase n x → PlannedAt call later n x
  plans_kept n x at = (put_other phase l q (planned_lane x) (λ same. subst IsThere (ap phase (sym same) ∙ at.0) there) ∙ at.0, at.1, at.2)

  pub moved_held : (n : ℕ) (ws : List WaitingCall) (ps : List BatchCall) → Held call phase n ws ps → Held call later n ws ps
  moved_held n ws ps held = record {
    waiters = each_weaker (WaitsAt call phase n) (WaitsAt call later n) ws (waits_kept n) held.waiters;
    planned = each_weaker (PlannedAt call phase n) (PlannedAt call later n) ps (plans_kept n) held.planned;
    waiters_apart = held.waiters_apart;
    planned_apart = held.planned_apart;
  }

  pub moved_heard : AsksNone q → (config : Config) (w : World) → ((a : ℕ) → Heard config call phase a (w.clients a)) → (a : ℕ) → Heard config call later a (w.clients a)
  moved_heard none config w heard = heard_moves config w 255 call phase later (put_moves 255 l phase q (for_there (phase l) there) busy none) heard

  -- a planned call rests on the keys on which it did
  pub moved_holds : (crossed rests : ℕ → List Key) → ((a : ℕ) → a ≢ l → crossed a ≡ rests a) → (n : ℕ) (x : NodeState) → Holds phase crossed n x → Holds later rests n x
  moved_holds crossed rests same n x holds = holds_kept phase later crossed rests n x x refl refl refl
      (λ a p plans. ⊎_elim (λ here. absurd (unplanned n p here.1)) (λ other. (other.1, same a other.0)) (from_put phase l q a (Plans n p) plans)) holds

  -- the other calls wait there as they did
  pub moved_waiters : (waiting : List CallRec) → Each (λ (k : CallRec). k.id.client ≢ l) waiting → Each (WaitsThere call phase) waiting → Each (WaitsThere call later) waiting
  moved_waiters waiting others waits = each_both (λ (k : CallRec). k.id.client ≢ l) (WaitsThere call phase) (WaitsThere call later) waiting
      (λ k apart at. (put_other phase l q k.id.client apart ∙ at.0, at.1, at.2)) others waits
