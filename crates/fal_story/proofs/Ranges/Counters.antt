-- The counters of a waiting list, and what items have still to cancel.
use Rattle.std.proofs.Common.{◌≡◌, inl, inr, ℕ, suc, ◌+◌, ◌<◌, ◌≤◌, ◌==◌, nat_lt, Bool, true, false, ◌&&◌, cond, List, [], ◌∷◌, ◌++◌, length, map, filter, Option, Some, None, refl, ap, arith}
use Rattle.std.specs.List.{find, list_all}
use Rattle.std.proofs.lemmas.Bool.Decides.{nat_tests}
use Rattle.std.proofs.lemmas.List.{length-append, length-map}
use Rattle.std.proofs.lemmas.Option.{same_Some}
use Rattle.fal_base.specs.declared.call.CallRec.{CallRec}
use Rattle.fal_batch.proofs.Truth.{both_first, both_second}
use Rattle.fal_batch.specs.declared.parts.Wanted.{Wanted}
use Rattle.fal_node.specs.Deliver.{without_calls}
use Rattle.fal_node.specs.declared.item.Item.{Item}
use Rattle.fal_node.specs.Gather.{with_fetches}
use Rattle.fal_wait.specs.declared.pending_fetch.PendingFetch.{PendingFetch}
use Rattle.fal_wait.specs.declared.waiting_call.WaitingCall.{WaitingCall}
use Rattle.fal_wait.specs.Lists.{without_first}
use Rattle.fal_wait.specs.Waiting.{are_rising, WaitList, waits_on, fetch_of, is_new, with_call, after_admit, without_call, after_open, without_fetch, settled_by, after_settle}
use Rattle.fal_story.proofs.Events.Shows.{IsTidy, IsTied}
use Rattle.fal_story.proofs.Lists.Each.{Each, Apart, each_weaker}
use Rattle.fal_story.proofs.Lists.Members.{IsIn, each_all, each_of_all}
use Rattle.fal_story.proofs.Ranges.Bounds.{cancels, cancelling}
use Rattle.fal_story.proofs.Ranges.NoMore.{Differ, no_more}

-- ---- no more fetches are pending than calls wait, and no more of these than tickets were given

abbrev fetches_of : List WaitingCall → List (Option ℕ)
fetches_of calls = map (λ w. w.fetch) calls

on_fetch : (number : ℕ) (fetch : Option ℕ) → waits_on number fetch ≡ true → fetch ≡ Some number
on_fetch number None is = absurd (cc)
on_fetch number (Some other) is = ap Some (grind (arith, nat_tests))

-- a fetch on which some call waits is one of those of the calls
waited : (number : ℕ) (calls : List WaitingCall) → 0 < length (filter (λ w. waits_on number w.fetch) calls) → IsIn (Some number) (fetches_of calls)
waited number [] some = absurd (omega arith)
waited number (w ∷ calls) some =
    elim (waits_on number w.fetch) as (λ b. waits_on number w.fetch ≡ b → 0 < length (cond b (w ∷ filter (λ w. waits_on number w.fetch) calls) (filter (λ w. waits_on number w.fetch) calls)) → IsIn (Some number) (fetches_of (w ∷ calls))) [
      | true ↦ λ is _. inl (on_fetch number w.fetch is)
      | false ↦ λ is more. inr (waited number calls more)
    ] refl some

has_waiter : (calls : List WaitingCall) (f : PendingFetch) → IsTied calls f → IsIn (Some f.number) (fetches_of calls)
has_waiter calls f tied =
    let some = tied.1 in
    let same = ap length tied.0 in
    let told = length-map (filter (λ (w : WaitingCall). waits_on f.number w.fetch) calls) (λ (w : WaitingCall). w.ticket) in
    waited f.number calls (omega arith)

fetches_differ : (fetches : List PendingFetch) → Apart (λ f. f.number) fetches → Differ (λ (f : PendingFetch). Some f.number) fetches
fetches_differ [] apart = tt
fetches_differ (f ∷ fs) apart = (each_weaker _ _ fs (λ g ne same. ne (same_Some g.number f.number same)) apart.0, fetches_differ fs apart.1)

pub few_fetches : (list : WaitList) → IsTidy list → length list.fetches ≤ length list.calls
few_fetches list tidy =
    let some = no_more (λ (f : PendingFetch). Some f.number) list.fetches (fetches_of list.calls) (fetches_differ list.fetches tidy.apart)
    (each_weaker (IsTied list.calls) _ list.fetches (λ f tied. has_waiter list.calls f tied) tidy.tied) in
    let all = length-map list.calls (λ (w : WaitingCall). w.fetch) in
    omega arith

below_is : (a b : ℕ) → nat_lt a b ≡ true → a + 1 ≤ b
below_is a b is = grind (arith, nat_tests)

few_rising : (calls : List WaitingCall) (from end : ℕ) → Each (λ w. from ≤ w.ticket) calls → from ≤ end → are_rising calls end ≡ true → from + length calls ≤ end
few_rising [] from end above le rising = omega arith
few_rising (w ∷ calls) from end above le rising =
    let later = list_all (λ (x : WaitingCall). nat_lt w.ticket x.ticket) calls in
    let rest = both_second later (nat_lt w.ticket end && are_rising calls end) rising in
    let below = both_first (nat_lt w.ticket end) (are_rising calls end) rest in
    let here : w.ticket < end = grind (arith, nat_tests) in
    let from_here = above.0 in
    let others = each_weaker _ (λ (x : WaitingCall). w.ticket + 1 ≤ x.ticket) calls (λ x is. below_is w.ticket x.ticket is) (each_of_all _ calls (both_first later (nat_lt w.ticket end && are_rising calls end) rising)) in
    let more = few_rising calls (w.ticket + 1) end others (omega arith) (both_second (nat_lt w.ticket end) (are_rising calls end) rest) in
    omega arith

pub few_calls : (list : WaitList) → IsTidy list → length list.calls ≤ list.tickets
few_calls list tidy = let h = few_rising list.calls 0 list.tickets (each_all _ list.calls (λ w. omega arith)) (omega arith) tidy.tickets in omega arith

-- ---- what a change of the list counts

pub withouts_same : (list : WaitList) (tickets : List ℕ)
    → ((without_calls list tickets).tickets ≡ list.tickets) × ((without_calls list tickets).opened ≡ list.opened) × ((without_calls list tickets).fetches ≡ list.fetches)
withouts_same list [] = (refl, refl, refl)
withouts_same list (ticket ∷ tickets) = withouts_same (without_call list ticket) tickets

-- the counts after some fetches were opened
pub record IsOpenedBy (list after : WaitList) (count : ℕ) : Type 0 where
  pub tickets : after.tickets ≡ list.tickets
  pub opened : after.opened ≡ list.opened + count
  pub fetches : length after.fetches ≡ length list.fetches + count

pub opens_count : (list : WaitList) (fetches : List Wanted) → IsOpenedBy list (with_fetches list fetches) (length fetches)
unfolding after_open
opens_count list [] = record { tickets = refl; opened = omega arith; fetches = omega arith }
opens_count list (f ∷ fs) =
    let rest = opens_count (after_open list f.key f.waiters) fs in
    let tickets = rest.tickets in
    let opened = rest.opened in
    let fetches = rest.fetches in
    let one = length-append list.fetches (record { number = list.opened; key = f.key; waiters = f.waiters } ∷ []) in
    record { tickets = rest.tickets; opened = omega arith; fetches = omega arith }

-- the counts after a call was admitted
pub record IsAdmittedBy (list after : WaitList) : Type 0 where
  pub tickets : after.tickets ≤ list.tickets + 1
  pub opened : after.opened ≡ list.opened
  pub fetches : after.fetches ≡ list.fetches

pub admit_count : (list : WaitList) (call : CallRec) → IsAdmittedBy list (after_admit list call)
unfolding with_call
admit_count list call = elim (is_new list call) as (λ b. IsAdmittedBy list (cond b (with_call list call) list)) [
  | true ↦ record { tickets = omega arith; opened = refl; fetches = refl }
  | false ↦ record { tickets = omega arith; opened = refl; fetches = refl }
]

-- the counts after a fetch was settled
pub record IsSettledBy (list after : WaitList) : Type 0 where
  pub tickets : after.tickets ≡ list.tickets
  pub opened : after.opened ≡ list.opened
  pub fetches : length list.fetches ≤ length after.fetches + 1

one_less : {A : Type 0} (test : A → Bool) (xs : List A) → length xs ≤ length (without_first test xs) + 1
one_less test [] = omega arith
one_less test (x ∷ xs) = elim (test x) as (λ b. suc (length xs) ≤ length (cond b xs (x ∷ without_first test xs)) + 1) [ true ↦ omega arith | false ↦ let h = one_less test xs in omega arith ]

pub settle_count : (list : WaitList) (number : ℕ) → IsSettledBy list (after_settle list number)
unfolding without_fetch
settle_count list number = elim (fetch_of list number) as (λ f. IsSettledBy list (settled_by list number f)) [
  | None ↦ record { tickets = refl; opened = refl; fetches = omega arith }
  | Some f ↦ record { tickets = refl; opened = refl; fetches = one_less (λ g. g.number == number) list.fetches }
]

-- ---- what items have still to cancel

pub cancelling_join : (xs ys : List Item) → cancelling (xs ++ ys) ≡ cancelling xs + cancelling ys
cancelling_join [] ys = omega arith
cancelling_join (x ∷ xs) ys = let h = cancelling_join xs ys in omega arith

-- the item that is served is the one that goes
pub cancelling_found : (test : Item → Bool) (xs : List Item) (item : Item) → find test xs ≡ Some item → cancelling (without_first test xs) + cancels item.message ≡ cancelling xs
cancelling_found test [] item is = absurd (cc)
cancelling_found test (x ∷ xs) item is =
    elim (test x) as (λ b. cond b (Some x) (find test xs) ≡ Some item → cancelling (cond b xs (x ∷ without_first test xs)) + cancels item.message ≡ cancels x.message + cancelling xs) [
      | true ↦ λ e. let same : cancels x.message ≡ cancels item.message = ap (λ (i : Item). cancels i.message) (same_Some x item e) in omega arith
      | false ↦ λ e. let h = cancelling_found test xs item e in omega arith
    ] is
