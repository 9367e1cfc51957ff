-- Where each lane's call is, by lists of the calls that wait at a node and of those that are planned there.
use Rattle.std.proofs.Common.{◌≡◌, ◌≢◌, ◌⊎◌, inl, inr, ℕ, ◌==◌, List, Option, Some, None, refl, ap, ◌∙◌}
use Rattle.std.specs.List.{find}
use Rattle.fal_run.specs.declared.call.BatchCall.{BatchCall}
use Rattle.fal_wait.specs.declared.waiting_call.WaitingCall.{WaitingCall}
use Rattle.fal_story.proofs.Events.Shows.{lane_of, planned_lane}
use Rattle.fal_story.proofs.Lists.Each.{Each, Apart}
use Rattle.fal_story.proofs.Lists.Members.{IsIn, find_in, find_apart, find_absent, same_number}
use Rattle.fal_story.proofs.Phase.{Phase, Waits, Plans}

abbrev waits_or : ℕ → Option WaitingCall → Phase → Phase
waits_or n None p = p
waits_or n (Some w) p = Waits n w.fetch

abbrev plans_or : ℕ → Option BatchCall → Phase → Phase
plans_or n None p = p
plans_or n (Some x) p = Plans n x

-- a call of these lists waits or is planned at the node, and any other is where it was
unfoldable pub listed : ℕ → List WaitingCall → List BatchCall → (ℕ → Phase) → ℕ → Phase
listed n ws xs phase l = waits_or n (find (λ w. lane_of w == l) ws) (plans_or n (find (λ x. planned_lane x == l) xs) (phase l))

abbrev pub WaitsIn : ℕ → List WaitingCall → ℕ → Phase → Type 0
WaitsIn n ws l p = (w : WaitingCall) × (IsIn w ws × (lane_of w ≡ l) × (p ≡ Waits n w.fetch))

abbrev pub PlansIn : ℕ → List BatchCall → ℕ → Phase → Type 0
PlansIn n xs l p = (x : BatchCall) × (IsIn x xs × (planned_lane x ≡ l) × (p ≡ Plans n x))

abbrev pub IsListed : ℕ → List WaitingCall → List BatchCall → Phase → ℕ → Phase → Type 0
IsListed n ws xs was l p = (p ≡ was) ⊎ (WaitsIn n ws l p ⊎ PlansIn n xs l p)

plans_cases : (n : ℕ) (ws : List WaitingCall) (xs : List BatchCall) (was : Phase) (l : ℕ) → IsListed n ws xs was l (plans_or n (find (λ x. planned_lane x == l) xs) was)
plans_cases n ws xs was l =
    elim (find (λ x. planned_lane x == l) xs) as (λ o. find (λ x. planned_lane x == l) xs ≡ o → IsListed n ws xs was l (plans_or n o was)) [
      | None ↦ λ e. inl refl
      | Some x ↦ λ e. let found = find_in (λ y. planned_lane y == l) xs x e in inr (inr (x, (found.1, same_number (planned_lane x) l found.0, refl)))
    ] refl

pub listed_cases : (n : ℕ) (ws : List WaitingCall) (xs : List BatchCall) (phase : ℕ → Phase) (l : ℕ) → IsListed n ws xs (phase l) l (listed n ws xs phase l)
unfolding listed
listed_cases n ws xs phase l =
    elim (find (λ w. lane_of w == l) ws) as (λ o. find (λ w. lane_of w == l) ws ≡ o → IsListed n ws xs (phase l) l (waits_or n o (plans_or n (find (λ x. planned_lane x == l) xs) (phase l)))) [
      | None ↦ λ e. plans_cases n ws xs (phase l) l
      | Some w ↦ λ e. let found = find_in (λ y. lane_of y == l) ws w e in inr (inl (w, (found.1, same_number (lane_of w) l found.0, refl)))
    ] refl

pub listed_waits : (n : ℕ) (ws : List WaitingCall) (xs : List BatchCall) (phase : ℕ → Phase) (w : WaitingCall) → Apart lane_of ws → IsIn w ws → listed n ws xs phase (lane_of w) ≡ Waits n w.fetch
unfolding listed
listed_waits n ws xs phase w apart m = ap (λ o. waits_or n o (plans_or n (find (λ x. planned_lane x == lane_of w) xs) (phase (lane_of w)))) (find_apart lane_of ws w apart m)

pub listed_plans : (n : ℕ) (ws : List WaitingCall) (xs : List BatchCall) (phase : ℕ → Phase) (x : BatchCall) → Each (λ w. lane_of w ≢ planned_lane x) ws → Apart planned_lane xs → IsIn x xs
    → listed n ws xs phase (planned_lane x) ≡ Plans n x
unfolding listed
listed_plans n ws xs phase x others apart m =
    ap (λ o. waits_or n o (plans_or n (find (λ y. planned_lane y == planned_lane x) xs) (phase (planned_lane x)))) (find_absent lane_of (planned_lane x) ws others)
    ∙ ap (λ o. plans_or n o (phase (planned_lane x))) (find_apart planned_lane xs x apart m)

pub waits_same : (m n : ℕ) (a b : Option ℕ) → Waits m a ≡ Waits n b → a ≡ b
waits_same m n a b e = cc
