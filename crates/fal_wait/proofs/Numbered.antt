-- Tickets and the numbers of fetches rise, whatever is done with the list.
use Rattle.std.proofs.Common.{◌≡◌, ℕ, ◌+◌, Bool, true, false, cond, ◌||◌, ◌==◌, List, [], ◌∷◌, ◌++◌, map, nat_lt, Option, Some, None, refl, sym, ap, ◌∙◌, subst, arith}
use Rattle.std.specs.List.{list_any}
use Rattle.std.proofs.lemmas.Bool.Decides.{nat_tests}
use Rattle.fal_base.specs.declared.call.CallRec.{CallRec}
use Rattle.fal_base.specs.declared.key.Key.{Key}
use Rattle.fal_wait.specs.declared.pending_fetch.PendingFetch.{PendingFetch}
use Rattle.fal_wait.specs.declared.waiting_call.WaitingCall.{WaitingCall}
use Rattle.fal_wait.specs.Lists.{are_ascending, without_first, has_number}
use Rattle.fal_wait.specs.Waiting.{WaitList, IsNumbered, with_call, after_admit, is_new, without_call, after_open, on_fetch, off_fetch, waits_on, without_fetch, after_settle, settled_by, fetch_of, after_cancel, unbound}
use Rattle.fal_wait.specs.Doings.{Doing, Admits, Removes, Opens, Settles, Cancels, after_doing, after_doings, ends, IsPendingUntilEnded}
use Rattle.fal_wait.proofs.Ascending.{ascending_map, ascending_without, ascending_push, none_without, found_without, found_push, found_last, below_more, below_next}

abbrev ticket : WaitingCall → ℕ
ticket w = w.ticket

abbrev fetch_number : PendingFetch → ℕ
fetch_number f = f.number

-- ---- what is done keeps them rising

with_numbered : (list : WaitList) (call : CallRec) → IsNumbered list → IsNumbered (with_call list call)
unfolding with_call
with_numbered list call h = record { tickets = ascending_push ticket list.calls (record { ticket = list.tickets; call = call; fetch = None }) h.tickets; fetches = h.fetches }

pub admit_numbered : (list : WaitList) (call : CallRec) → IsNumbered list → IsNumbered (after_admit list call)
admit_numbered list call h = elim (is_new list call) as (λ b. IsNumbered (cond b (with_call list call) list)) [ true ↦ with_numbered list call h | false ↦ h ]

pub remove_numbered : (list : WaitList) (number : ℕ) → IsNumbered list → IsNumbered (without_call list number)
remove_numbered list number h = record { tickets = ascending_without ticket (λ w. w.ticket == number) list.calls list.tickets h.tickets; fetches = h.fetches }

pub ticket-on_fetch : (number : ℕ) (waiters : List ℕ) (w : WaitingCall) → ticket (on_fetch number waiters w) ≡ ticket w
ticket-on_fetch number waiters w = elim (has_number waiters w.ticket) as (λ b. (cond b (record w { fetch = Some number }) w).ticket ≡ w.ticket) [ true ↦ refl | false ↦ refl ]

ticket-off_fetch : (number : ℕ) (w : WaitingCall) → ticket (off_fetch number w) ≡ ticket w
ticket-off_fetch number w = elim (waits_on number w.fetch) as (λ b. (cond b (record w { fetch = None }) w).ticket ≡ w.ticket) [ true ↦ refl | false ↦ refl ]

pub open_numbered : (list : WaitList) (key : Key) (waiters : List ℕ) → IsNumbered list → IsNumbered (after_open list key waiters)
unfolding after_open
open_numbered list key waiters h = record {
  tickets = ascending_map ticket (λ w. on_fetch list.opened waiters w) (λ w. ticket-on_fetch list.opened waiters w) list.calls list.tickets ∙ h.tickets;
  fetches = ascending_push fetch_number list.fetches (record { number = list.opened; key = key; waiters = waiters }) h.fetches;
}

pub free_numbered : (list : WaitList) (number : ℕ) → IsNumbered list → IsNumbered (without_fetch list number)
unfolding without_fetch
free_numbered list number h = record {
  tickets = ascending_map ticket (λ w. off_fetch number w) (λ w. ticket-off_fetch number w) list.calls list.tickets ∙ h.tickets;
  fetches = ascending_without fetch_number (λ f. f.number == number) list.fetches list.opened h.fetches;
}

pub settle_numbered : (list : WaitList) (number : ℕ) → IsNumbered list → IsNumbered (after_settle list number)
settle_numbered list number h = elim (fetch_of list number) as (λ o. IsNumbered (settled_by list number o)) [ None ↦ h | Some f ↦ free_numbered list number h ]

pub cancel_numbered : (list : WaitList) → IsNumbered list → IsNumbered (after_cancel list)
cancel_numbered list h = record { tickets = ascending_map ticket unbound (λ w. refl) list.calls list.tickets ∙ h.tickets; fetches = refl }

doing_numbered : (list : WaitList) (doing : Doing) → IsNumbered list → IsNumbered (after_doing list doing)
doing_numbered list (Admits call) h = admit_numbered list call h
doing_numbered list (Removes number) h = remove_numbered list number h
doing_numbered list (Opens key waiters) h = open_numbered list key waiters h
doing_numbered list (Settles number) h = settle_numbered list number h
doing_numbered list Cancels h = cancel_numbered list h

-- ---- and of a fetch that was opened

opened_stays : (list : WaitList) (number : ℕ) (doing : Doing) → nat_lt number list.opened ≡ true → nat_lt number (after_doing list doing).opened ≡ true
unfolding with_call after_open without_fetch
opened_stays list number (Admits call) h = elim (is_new list call) as (λ b. nat_lt number (cond b (with_call list call) list).opened ≡ true) [ true ↦ h | false ↦ h ]
opened_stays list number (Removes ticket) h = h
opened_stays list number (Opens key waiters) h = below_more number list.opened h
opened_stays list number (Settles other) h = elim (fetch_of list other) as (λ o. nat_lt number (settled_by list other o).opened ≡ true) [ None ↦ h | Some f ↦ h ]
opened_stays list number Cancels h = h

settled_fetch : (list : WaitList) (number : ℕ) → IsNumbered list → (o : Option PendingFetch) → fetch_of list number ≡ o → fetch_of (settled_by list number o) number ≡ None
unfolding without_fetch
settled_fetch list number h None none = none
settled_fetch list number h (Some f) some = none_without fetch_number number list.fetches list.opened h.fetches

other_fetch : (list : WaitList) (number other : ℕ) → (other == number) ≡ false → (o : Option PendingFetch) → fetch_of (settled_by list other o) number ≡ fetch_of list number
unfolding without_fetch
other_fetch list number other apart None = refl
other_fetch list number other apart (Some f) = found_without fetch_number number other apart list.fetches

same_fetch : (number other : ℕ) → (other == number) ≡ true → other ≡ number
same_fetch number other h = grind (arith, nat_tests)

fetch_after : (list : WaitList) (number : ℕ) (doing : Doing) → IsNumbered list → nat_lt number list.opened ≡ true → fetch_of (after_doing list doing) number ≡ cond (ends number doing) None (fetch_of list number)
unfolding with_call after_open
fetch_after list number (Admits call) h below = elim (is_new list call) as (λ b. fetch_of (cond b (with_call list call) list) number ≡ fetch_of list number) [ true ↦ refl | false ↦ refl ]
fetch_after list number (Removes ticket) h below = refl
fetch_after list number (Opens key waiters) h below = found_push fetch_number number list.fetches (record { number = list.opened; key = key; waiters = waiters }) below
fetch_after list number (Settles other) h below =
    elim (other == number) as (λ b. (other == number) ≡ b → fetch_of (after_settle list other) number ≡ cond b None (fetch_of list number)) [
      | true ↦ λ is. subst (λ n. fetch_of (after_settle list n) number ≡ None) (sym (same_fetch number other is)) (settled_fetch list number h (fetch_of list number) refl)
      | false ↦ λ apart. other_fetch list number other apart (fetch_of list other)
    ] refl
fetch_after list number Cancels h below = refl

ended_or : {X : Type 0} (b c : Bool) (o : Option X) → cond c None (cond b None o) ≡ cond (b || c) None o
ended_or true true o = refl
ended_or true false o = refl
ended_or false c o = refl

fetch_of_doings : (list : WaitList) (number : ℕ) (doings : List Doing) → IsNumbered list → nat_lt number list.opened ≡ true
    → fetch_of (after_doings list doings) number ≡ cond (list_any (ends number) doings) None (fetch_of list number)
fetch_of_doings list number [] h below = refl
fetch_of_doings list number (doing ∷ doings) h below =
    fetch_of_doings (after_doing list doing) number doings (doing_numbered list doing h) (opened_stays list number doing below)
    ∙ ap (λ o. cond (list_any (ends number) doings) None o) (fetch_after list number doing h below)
    ∙ ended_or (ends number doing) (list_any (ends number) doings) (fetch_of list number)

pub pending_until_ended : (list : WaitList) → IsNumbered list → IsPendingUntilEnded list
unfolding after_open
pending_until_ended list h key waiters doings =
    let fetch : PendingFetch = record { number = list.opened; key = key; waiters = waiters } in
    fetch_of_doings (after_open list key waiters) list.opened doings (open_numbered list key waiters h) (below_next list.opened)
    ∙ ap (λ o. cond (list_any (ends list.opened) doings) None o) (found_last fetch_number list.fetches fetch h.fetches)
