-- Where no two calls have one ticket, the calls of the free tickets are the free calls.
use Rattle.std.proofs.Common.{◌≡◌, ℕ, true, false, not, cond, List, [], ◌∷◌, map, filter, filter_map, Option, Some, None, is_none, ◌==◌, refl, sym, ap, ◌∙◌, arith}
use Rattle.std.specs.Option.{option_map}
use Rattle.std.specs.List.{find, list_any, cons_option}
use Rattle.std.proofs.lemmas.Bool.Decides.{nat_tests}
use Rattle.fal_wait.specs.declared.waiting_call.WaitingCall.{WaitingCall}
use Rattle.fal_wait.specs.Waiting.{WaitList}
use Rattle.fal_batch.specs.Plan.{free_call, free_calls, tickets_differ}
use Rattle.fal_batch.proofs.Truth.{both_first, both_second, neither_first, neither_second, not_true}

-- the first of the calls with this ticket
abbrev first_with : List WaitingCall → ℕ → Option WaitingCall
first_with calls ticket = find (λ v. v.ticket == ticket) calls

-- each of these is the first of the calls with its ticket
abbrev AreFirst : List WaitingCall → List WaitingCall → Type 0
AreFirst calls [] = calls ≡ calls
AreFirst calls (w ∷ ws) = (first_with calls w.ticket ≡ Some w) × AreFirst calls ws

itself : (n : ℕ) → (n == n) ≡ true
itself n = grind (arith, nat_tests)

turned : (m n : ℕ) → (m == n) ≡ false → (n == m) ≡ false
turned m n h = grind (arith, nat_tests)

one_more : (v : WaitingCall) (calls ws : List WaitingCall) → list_any (λ other. other.ticket == v.ticket) ws ≡ false → AreFirst calls ws → AreFirst (v ∷ calls) ws
one_more v calls [] apart h = refl
one_more v calls (w ∷ ws) apart h =
    let other : (v.ticket == w.ticket) ≡ false = turned w.ticket v.ticket (neither_first (w.ticket == v.ticket) (list_any (λ o. o.ticket == v.ticket) ws) apart) in
    (ap (λ b. cond b (Some v) (first_with calls w.ticket)) other ∙ h.0, one_more v calls ws (neither_second (w.ticket == v.ticket) (list_any (λ o. o.ticket == v.ticket) ws) apart) h.1)

first_all : (calls : List WaitingCall) → tickets_differ calls ≡ true → AreFirst calls calls
first_all [] h = refl
first_all (v ∷ vs) h =
    let alone = not_true (list_any (λ o. o.ticket == v.ticket) vs) (both_first (not (list_any (λ o. o.ticket == v.ticket) vs)) (tickets_differ vs) h) in
    let rest = first_all vs (both_second (not (list_any (λ o. o.ticket == v.ticket) vs)) (tickets_differ vs) h) in
    (ap (λ b. cond b (Some v) (first_with vs v.ticket)) (itself v.ticket), one_more v vs vs alone rest)

abbrev pub free_of : List WaitingCall → List WaitingCall
free_of calls = filter (λ w. is_none w.fetch) calls

picked : (list : WaitList) (ws : List WaitingCall) → AreFirst list.calls ws → filter_map (λ ticket. free_call list ticket) (map (λ w. w.ticket) (free_of ws)) ≡ free_of ws
picked list [] h = refl
picked list (w ∷ ws) h =
    let rest = picked list ws h.1 in
    elim w.fetch as (λ o. w.fetch ≡ o → filter_map (λ ticket. free_call list ticket) (map (λ v. v.ticket) (cond (is_none o) (w ∷ free_of ws) (free_of ws))) ≡ cond (is_none o) (w ∷ free_of ws) (free_of ws)) [
      | None ↦ λ e.
          ap (λ o. cons_option (option_map (λ call. record { ticket = w.ticket; call = call; fetch = None }) (option_map (λ v. v.call) o)) (filter_map (λ ticket. free_call list ticket) (map (λ v. v.ticket) (free_of ws)))) h.0
          ∙ ap (λ o. record { ticket = w.ticket; call = w.call; fetch = o } ∷ filter_map (λ ticket. free_call list ticket) (map (λ v. v.ticket) (free_of ws))) (sym e) ∙ ap (λ vs. w ∷ vs) rest
      | Some fetch ↦ λ e. rest
    ] refl

-- where tickets differ, a plan goes through the calls without a pending fetch
pub free_calls_are : (list : WaitList) → tickets_differ list.calls ≡ true → free_calls list ≡ free_of list.calls
free_calls_are list h = picked list list.calls (first_all list.calls h)
