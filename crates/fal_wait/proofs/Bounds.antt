-- How the counters rise, and what may be passed as waiters.
use Rattle.std.proofs.Common.{◌≡◌, ℕ, ◌+◌, ◌≤◌, Bool, true, false, cond, ◌||◌, ◌==◌, List, [], ◌∷◌, filter, refl, sym, ap, ◌∙◌, arith, eq-eqb, Some, None}
use Rattle.fal_base.specs.declared.call.CallRec.{CallRec}
use Rattle.fal_base.specs.declared.key.Key.{Key}
use Rattle.fal_wait.specs.Lists.{has_number, IsPartOf}
use Rattle.fal_wait.specs.Waiting.{WaitList, with_call, after_admit, is_new, after_open, without_fetch, after_settle, settled_by, fetch_of}

pub tickets-after_admit : (list : WaitList) (call : CallRec) → (after_admit list call).tickets ≤ list.tickets + 1
unfolding with_call
tickets-after_admit list call = elim (is_new list call) as (λ b. (cond b (with_call list call) list).tickets ≤ list.tickets + 1) [ true ↦ omega arith | false ↦ omega arith ]

pub opened-after_admit : (list : WaitList) (call : CallRec) → (after_admit list call).opened ≡ list.opened
unfolding with_call
opened-after_admit list call = elim (is_new list call) as (λ b. (cond b (with_call list call) list).opened ≡ list.opened) [ true ↦ refl | false ↦ refl ]

pub tickets-after_open : (list : WaitList) (key : Key) (waiters : List ℕ) → (after_open list key waiters).tickets ≡ list.tickets
unfolding after_open
tickets-after_open list key waiters = refl

pub opened-after_open : (list : WaitList) (key : Key) (waiters : List ℕ) → (after_open list key waiters).opened ≡ list.opened + 1
unfolding after_open
opened-after_open list key waiters = refl

pub tickets-after_settle : (list : WaitList) (number : ℕ) → (after_settle list number).tickets ≡ list.tickets
unfolding without_fetch
tickets-after_settle list number = elim (fetch_of list number) as (λ f. (settled_by list number f).tickets ≡ list.tickets) [ None ↦ refl | Some f ↦ refl ]

pub opened-after_settle : (list : WaitList) (number : ℕ) → (after_settle list number).opened ≡ list.opened
unfolding without_fetch
opened-after_settle list number = elim (fetch_of list number) as (λ f. (settled_by list number f).opened ≡ list.opened) [ None ↦ refl | Some f ↦ refl ]

either : (a b : Bool) → b ≡ true → (a || b) ≡ true
either true b is = refl
either false b is = is

all_kept : (part xs : List ℕ) → ((n : ℕ) → has_number xs n ≡ true → has_number part n ≡ true) → xs ≡ filter (λ n. has_number part n) xs
all_kept part [] among = refl
all_kept part (x ∷ xs) among =
    let here : has_number part x ≡ true = among x (ap (λ b. b || has_number xs x) (eq-eqb x x refl)) in
    let rest = all_kept part xs (λ n a. among n (either (x == n) _ a)) in
    ap (λ ys. x ∷ ys) rest ∙ sym (ap (λ b. cond b (x ∷ filter (λ n. has_number part n) xs) (filter (λ n. has_number part n) xs)) here)

-- all the free calls may wait together
pub IsPartOf-itself : (xs : List ℕ) → IsPartOf xs xs
IsPartOf-itself xs = all_kept xs xs (λ n a. a)

pub ruleset counters = (tickets-after_admit, opened-after_admit, tickets-after_open, opened-after_open, tickets-after_settle, opened-after_settle, IsPartOf-itself)
