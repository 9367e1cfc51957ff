-- All the calls that wait on a fetch of one key share one fetch.
use Rattle.std.proofs.Common.{◌≡◌, ℕ, Bool, true, false, ◌||◌, cond, List, [], ◌∷◌, ◌++◌, length, map, filter, nat_lt, refl, sym, ap, subst, ◌∙◌, append_assoc, append-nil}
use Rattle.fal_base.specs.declared.key.Key.{Key}
use Rattle.fal_base.specs.Tree.{same_key}
use Rattle.fal_base.proofs.Maps.{same_key_is}
use Rattle.fal_dentry.specs.Walk.{is_among}
use Rattle.fal_wait.specs.declared.waiting_call.WaitingCall.{WaitingCall}
use Rattle.fal_wait.specs.Waiting.{WaitList}
use Rattle.fal_batch.specs.declared.parts.Wanted.{Wanted}
use Rattle.fal_batch.specs.Fate.{Setting, Fate, Skips, Leaves, Waits, Joins, fate}
use Rattle.fal_batch.specs.Keys.{with_key, are_distinct}
use Rattle.fal_batch.specs.Plan.{Planning, no_plan, with_away, with_wait, with_planned, with_waiter, after_fate, plan_one, plan_calls, plan_of, free_calls, waits_for, waits_for_by, waiters_of, is_wanted, IsShared}
use Rattle.fal_batch.proofs.KeyLists.{distinct_with}

abbrev keys_of : List Wanted → List Key
keys_of fetches = map (λ wanted. wanted.key) fetches

among_is_wanted : (fetches : List Wanted) (key : Key) → is_among key (keys_of fetches) ≡ is_wanted fetches key
among_is_wanted [] key = refl
among_is_wanted (w ∷ ws) key = ap (λ b. same_key w.key key || b) (among_is_wanted ws key)

put_before : (x key : Key) (xs : List Key) (b : Bool) → x ∷ cond b xs (xs ++ key ∷ []) ≡ cond b (x ∷ xs) (x ∷ xs ++ key ∷ [])
put_before x key xs true = refl
put_before x key xs false = refl

keys_with : (fetches : List Wanted) (key : Key) (ticket : ℕ) → keys_of (with_waiter fetches key ticket) ≡ with_key (keys_of fetches) key
keys_with [] key ticket = refl
keys_with (w ∷ ws) key ticket =
    elim (same_key w.key key) as (λ b. keys_of (cond b (record { key = w.key; waiters = w.waiters ++ ticket ∷ [] } ∷ ws) (w ∷ with_waiter ws key ticket))
    ≡ cond (b || is_among key (keys_of ws)) (w.key ∷ keys_of ws) (w.key ∷ keys_of ws ++ key ∷ [])) [
      | true ↦ refl
      | false ↦ ap (λ ks. w.key ∷ ks) (keys_with ws key ticket) ∙ put_before w.key key (keys_of ws) (is_among key (keys_of ws))
    ]

one_fate : (limit : ℕ) (p : Planning) (ticket : ℕ) (f : Fate) → are_distinct (keys_of p.fetches) ≡ true → are_distinct (keys_of (after_fate limit p ticket f).fetches) ≡ true
unfolding with_away with_wait with_planned
one_fate limit p ticket Skips h = h
one_fate limit p ticket (Leaves to) h = h
one_fate limit p ticket (Waits key) h = ap are_distinct (keys_with p.fetches key ticket) ∙ distinct_with key (keys_of p.fetches) h
one_fate limit p ticket (Joins denied parent last keys) h =
    elim (nat_lt (length p.calls) limit) as (λ b. are_distinct (keys_of (cond b (with_planned p (record { ticket = ticket; denied = denied; parent = parent; last = last }) keys) p).fetches) ≡ true) [
      | true ↦ h
      | false ↦ h
    ]

one_one : (s : Setting) (p : Planning) (w : WaitingCall) → are_distinct (keys_of p.fetches) ≡ true → are_distinct (keys_of (plan_one s p w).fetches) ≡ true
unfolding plan_one
one_one s p w h = one_fate s.limit p w.ticket (fate s w.call) h

one_calls : (s : Setting) (p : Planning) (calls : List WaitingCall) → are_distinct (keys_of p.fetches) ≡ true → are_distinct (keys_of (plan_calls s p calls).fetches) ≡ true
one_calls s p [] h = h
one_calls s p (w ∷ ws) h = one_calls s (plan_one s p w) ws (one_one s p w h)

-- a ticket where the test says so
abbrev ticket_if : Bool → ℕ → List ℕ
ticket_if b ticket = cond b (ticket ∷ []) []

waiters_with : (fetches : List Wanted) (other : Key) (ticket : ℕ) (key : Key) → waiters_of (with_waiter fetches other ticket) key ≡ waiters_of fetches key ++ ticket_if (same_key other key) ticket
waiters_with [] other ticket key = refl
waiters_with (w ∷ ws) other ticket key =
    elim (same_key w.key other) as (λ b. same_key w.key other ≡ b
    → waiters_of (cond b (record { key = w.key; waiters = w.waiters ++ ticket ∷ [] } ∷ ws) (w ∷ with_waiter ws other ticket)) key ≡ waiters_of (w ∷ ws) key ++ ticket_if (same_key other key) ticket) [
      | true ↦ λ is.
          subst (λ k. cond (same_key w.key key) (w.waiters ++ ticket ∷ []) (waiters_of ws key) ≡ cond (same_key w.key key) w.waiters (waiters_of ws key) ++ ticket_if (same_key k key) ticket)
          ((same_key_is w.key other).0 is) (
          elim (same_key w.key key) as (λ b. cond b (w.waiters ++ ticket ∷ []) (waiters_of ws key) ≡ cond b w.waiters (waiters_of ws key) ++ ticket_if b ticket) [
            | true ↦ refl
            | false ↦ sym (append-nil (waiters_of ws key))
          ])
      | false ↦ λ is.
          elim (same_key w.key key) as (λ b. same_key w.key key ≡ b
          → cond b w.waiters (waiters_of (with_waiter ws other ticket) key) ≡ cond b w.waiters (waiters_of ws key) ++ ticket_if (same_key other key) ticket) [
            | true ↦ λ same.
                let apart : same_key other key ≡ false =
                elim (same_key other key) as (λ b. same_key other key ≡ b → b ≡ false) [
                  | true ↦ λ e. sym ((same_key_is w.key other).1 ((same_key_is w.key key).0 same ∙ sym ((same_key_is other key).0 e))) ∙ is
                  | false ↦ λ e. refl
                ] refl in
                sym (ap (λ b. w.waiters ++ ticket_if b ticket) apart ∙ append-nil w.waiters)
            | false ↦ λ same. waiters_with ws other ticket key
          ] refl
    ] refl

waiters_fate : (limit : ℕ) (p : Planning) (ticket : ℕ) (key : Key) (f : Fate) → waiters_of (after_fate limit p ticket f).fetches key ≡ waiters_of p.fetches key ++ ticket_if (waits_for_by key f) ticket
unfolding with_away with_wait with_planned
waiters_fate limit p ticket key Skips = sym (append-nil (waiters_of p.fetches key))
waiters_fate limit p ticket key (Leaves to) = sym (append-nil (waiters_of p.fetches key))
waiters_fate limit p ticket key (Waits other) = waiters_with p.fetches other ticket key
waiters_fate limit p ticket key (Joins denied parent last keys) =
    elim (nat_lt (length p.calls) limit) as (λ b. waiters_of (cond b (with_planned p (record { ticket = ticket; denied = denied; parent = parent; last = last }) keys) p).fetches key ≡ waiters_of p.fetches key ++ []) [
      | true ↦ sym (append-nil (waiters_of p.fetches key))
      | false ↦ sym (append-nil (waiters_of p.fetches key))
    ]

waiters_one : (s : Setting) (p : Planning) (w : WaitingCall) (key : Key) → waiters_of (plan_one s p w).fetches key ≡ waiters_of p.fetches key ++ ticket_if (waits_for s key w.call) w.ticket
unfolding plan_one
waiters_one s p w key = waiters_fate s.limit p w.ticket key (fate s w.call)

ticket_first : (xs : List ℕ) (w : WaitingCall) (ws : List WaitingCall) (b : Bool) → (xs ++ ticket_if b w.ticket) ++ map (λ v. v.ticket) ws ≡ xs ++ map (λ v. v.ticket) (cond b (w ∷ ws) ws)
ticket_first xs w ws true = append_assoc xs (w.ticket ∷ []) (map (λ v. v.ticket) ws)
ticket_first xs w ws false = ap (λ ys. ys ++ map (λ v. v.ticket) ws) (append-nil xs)

waiters_calls : (s : Setting) (p : Planning) (calls : List WaitingCall) (key : Key)
    → waiters_of (plan_calls s p calls).fetches key ≡ waiters_of p.fetches key ++ map (λ w. w.ticket) (filter (λ w. waits_for s key w.call) calls)
waiters_calls s p [] key = sym (append-nil (waiters_of p.fetches key))
waiters_calls s p (w ∷ ws) key =
    let rest = filter (λ v. waits_for s key v.call) ws in
    waiters_calls s (plan_one s p w) ws key ∙ ap (λ ys. ys ++ map (λ v. v.ticket) rest) (waiters_one s p w key) ∙ ticket_first (waiters_of p.fetches key) w rest (waits_for s key w.call)

pub shared_of : (s : Setting) (list : WaitList) → IsShared s list (plan_of s list)
shared_of s list = record { one = one_calls s no_plan (free_calls list) refl; waiters = λ key. waiters_calls s no_plan (free_calls list) key }
