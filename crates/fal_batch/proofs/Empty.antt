-- Where a plan has no calls, and where it does nothing.
use Rattle.std.proofs.Common.{◌≡◌, ℕ, suc, zero, Bool, true, false, not, ◌&&◌, cond, List, [], ◌∷◌, ◌++◌, length, nat_lt, ◌==◌, refl, sym, ap, ◌∙◌, arith}
use Rattle.std.specs.List.{list_any, list_all}
use Rattle.std.proofs.lemmas.Bool.Decides.{nat_tests}
use Rattle.fal_base.specs.declared.key.Key.{Key}
use Rattle.fal_base.specs.Tree.{same_key}
use Rattle.fal_wait.specs.declared.waiting_call.WaitingCall.{WaitingCall}
use Rattle.fal_batch.specs.declared.parts.Wanted.{Wanted}
use Rattle.fal_batch.specs.Fate.{Setting, Fate, Skips, Leaves, Waits, Joins, fate}
use Rattle.fal_batch.specs.Plan.{Planning, with_away, with_wait, with_planned, with_waiter, after_fate, plan_one, plan_calls, is_idle, is_skipped, is_skipped_by, is_joining, is_joining_by}
use Rattle.fal_batch.proofs.Truth.{and_is_true, and_is_false, and_not_or, and_assoc}

-- a list that grows is not empty
grown : {X : Type 0} (xs : List X) (x : X) → (length (xs ++ x ∷ []) == 0) ≡ false
grown [] x = refl
grown (y ∷ ys) x = grind (arith, nat_tests)

some : (n : ℕ) → (suc n == 0) ≡ false
some n = grind (arith, nat_tests)

-- a full batch that is empty has a limit of 0
full : (n limit : ℕ) → nat_lt n limit ≡ false → (n == 0) ≡ ((n == 0) && not (nat_lt 0 limit))
full zero limit h = sym (ap not h)
full (suc n) limit h = some n ∙ sym (ap (λ b. b && not (nat_lt 0 limit)) (some n))

room : (n limit : ℕ) → nat_lt n limit ≡ true → nat_lt 0 limit ≡ true
room n limit h = grind (arith, nat_tests)

empty_fate : (limit : ℕ) (p : Planning) (ticket : ℕ) (f : Fate) → (length (after_fate limit p ticket f).calls == 0) ≡ ((length p.calls == 0) && not (is_joining_by limit f))
unfolding with_away with_wait with_planned
empty_fate limit p ticket Skips = sym (and_is_true (length p.calls == 0))
empty_fate limit p ticket (Leaves to) = sym (and_is_true (length p.calls == 0))
empty_fate limit p ticket (Waits key) = sym (and_is_true (length p.calls == 0))
empty_fate limit p ticket (Joins denied parent last keys) =
    elim (nat_lt (length p.calls) limit) as (λ b. nat_lt (length p.calls) limit ≡ b
    → (length (cond b (with_planned p (record { ticket = ticket; denied = denied; parent = parent; last = last }) keys) p).calls == 0) ≡ ((length p.calls == 0) && not (nat_lt 0 limit))) [
      | true ↦ λ h. grown p.calls _ ∙ sym (ap (λ b. (length p.calls == 0) && not b) (room (length p.calls) limit h) ∙ and_is_false (length p.calls == 0))
      | false ↦ λ h. full (length p.calls) limit h
    ] refl

empty_one : (s : Setting) (p : Planning) (w : WaitingCall) → (length (plan_one s p w).calls == 0) ≡ ((length p.calls == 0) && not (is_joining s w.call))
unfolding plan_one
empty_one s p w = empty_fate s.limit p w.ticket (fate s w.call)

-- there is no call exactly where there was none and none joins
pub empty_calls : (s : Setting) (p : Planning) (calls : List WaitingCall)
    → (length (plan_calls s p calls).calls == 0) ≡ ((length p.calls == 0) && not (list_any (λ w. is_joining s w.call) calls))
empty_calls s p [] = sym (and_is_true (length p.calls == 0))
empty_calls s p (w ∷ ws) =
    empty_calls s (plan_one s p w) ws ∙ ap (λ b. b && not (list_any (λ v. is_joining s v.call) ws)) (empty_one s p w)
    ∙ and_not_or (length p.calls == 0) (is_joining s w.call) (list_any (λ v. is_joining s v.call) ws)

-- a key that is wanted has its fetch
waited : (fetches : List Wanted) (key : Key) (ticket : ℕ) → (length (with_waiter fetches key ticket) == 0) ≡ false
waited [] key ticket = refl
waited (w ∷ ws) key ticket =
    elim (same_key w.key key) as (λ b. (length (cond b (record { key = w.key; waiters = w.waiters ++ ticket ∷ [] } ∷ ws) (w ∷ with_waiter ws key ticket)) == 0) ≡ false) [
      | true ↦ some (length ws)
      | false ↦ some (length (with_waiter ws key ticket))
    ]

second : (a c : Bool) → (a && false && c) ≡ false
second true c = refl
second false c = refl

third : (a b : Bool) → (a && b && false) ≡ false
third true true = refl
third true false = refl
third false b = refl

limited : (n limit : ℕ) → nat_lt n limit ≡ true → (limit == 0) ≡ false
limited n limit h = grind (arith, nat_tests)

unlimited : (limit : ℕ) → nat_lt 0 limit ≡ false → (limit == 0) ≡ true
unlimited limit h = grind (arith, nat_tests)

full_idle : (a b : Bool) (n limit : ℕ) → nat_lt n limit ≡ false → (a && b && (n == 0)) ≡ ((a && b && (n == 0)) && (limit == 0))
full_idle a b zero limit h = sym (ap (λ c. (a && b && true) && c) (unlimited limit h) ∙ and_is_true (a && b && true))
full_idle a b (suc n) limit h =
    let none : (a && b && (suc n == 0)) ≡ false = ap (λ c. a && b && c) (some n) ∙ third a b in
    none ∙ sym (ap (λ c. c && (limit == 0)) none)

idle_fate : (limit : ℕ) (p : Planning) (ticket : ℕ) (f : Fate) → is_idle (after_fate limit p ticket f) ≡ (is_idle p && is_skipped_by limit f)
unfolding with_away with_wait with_planned
idle_fate limit p ticket Skips = sym (and_is_true (is_idle p))
idle_fate limit p ticket (Leaves to) = ap (λ b. b && (length p.fetches == 0) && (length p.calls == 0)) (grown p.away _) ∙ sym (and_is_false (is_idle p))
idle_fate limit p ticket (Waits key) =
    ap (λ b. (length p.away == 0) && b && (length p.calls == 0)) (waited p.fetches key ticket) ∙ second (length p.away == 0) (length p.calls == 0) ∙ sym (and_is_false (is_idle p))
idle_fate limit p ticket (Joins denied parent last keys) =
    elim (nat_lt (length p.calls) limit) as (λ b. nat_lt (length p.calls) limit ≡ b
    → is_idle (cond b (with_planned p (record { ticket = ticket; denied = denied; parent = parent; last = last }) keys) p) ≡ (is_idle p && (limit == 0))) [
      | true ↦ λ h.
          ap (λ b. (length p.away == 0) && (length p.fetches == 0) && b) (grown p.calls _) ∙ third (length p.away == 0) (length p.fetches == 0)
          ∙ sym (ap (λ b. is_idle p && b) (limited (length p.calls) limit h) ∙ and_is_false (is_idle p))
      | false ↦ λ h. full_idle (length p.away == 0) (length p.fetches == 0) (length p.calls) limit h
    ] refl

idle_one : (s : Setting) (p : Planning) (w : WaitingCall) → is_idle (plan_one s p w) ≡ (is_idle p && is_skipped s w.call)
unfolding plan_one
idle_one s p w = idle_fate s.limit p w.ticket (fate s w.call)

-- a plan does nothing exactly where each call is skipped
pub idle_calls : (s : Setting) (p : Planning) (calls : List WaitingCall) → is_idle (plan_calls s p calls) ≡ (is_idle p && list_all (λ w. is_skipped s w.call) calls)
idle_calls s p [] = sym (and_is_true (is_idle p))
idle_calls s p (w ∷ ws) =
    idle_calls s (plan_one s p w) ws ∙ ap (λ b. b && list_all (λ v. is_skipped s v.call) ws) (idle_one s p w)
    ∙ and_assoc (is_idle p) (is_skipped s w.call) (list_all (λ v. is_skipped s v.call) ws)
