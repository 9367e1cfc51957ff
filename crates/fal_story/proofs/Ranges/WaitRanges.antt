-- The calls of a waiting list stay within the ranges.
use Rattle.std.proofs.Common.{◌≡◌, ℕ, true, false, cond, List, [], ◌∷◌, Option, Some, None, refl, subst}
use Rattle.std.specs.Prelude.{◌==◌}
use Rattle.std.specs.List.{find}
use Rattle.std.specs.Option.{option_map}
use Rattle.std.proofs.lemmas.Option.{same_Some}
use Rattle.fal_base.specs.declared.call.CallRec.{CallRec}
use Rattle.fal_base.specs.declared.key.Key.{Key}
use Rattle.fal_batch.specs.declared.parts.Wanted.{Wanted}
use Rattle.fal_node.specs.Deliver.{without_calls}
use Rattle.fal_node.specs.Gather.{with_fetches}
use Rattle.fal_wait.specs.declared.waiting_call.WaitingCall.{WaitingCall}
use Rattle.fal_wait.specs.Lists.{has_number}
use Rattle.fal_wait.specs.Waiting.{WaitList, call_with_ticket, fetch_of, is_new, with_call, after_admit, without_call, unbound, after_cancel, on_fetch, after_open, waits_on, off_fetch, without_fetch, settled_by, after_settle}
use Rattle.fal_story.proofs.Lists.Each.{Each, each_weaker, each_join}
use Rattle.fal_story.proofs.Lists.Members.{each_in, each_map, find_in, each_without_first}
use Rattle.fal_story.proofs.Ranges.Bounds.{CallFits}

abbrev pub WaiterFits : WaitingCall → Type 0
WaiterFits w = CallFits w.call

abbrev pub WaitersFit : WaitList → Type 0
WaitersFit list = Each WaiterFits list.calls

pub fit_admit : (list : WaitList) (call : CallRec) → CallFits call → WaitersFit list → WaitersFit (after_admit list call)
unfolding with_call
fit_admit list call fits h = elim (is_new list call) as (λ b. WaitersFit (cond b (with_call list call) list)) [
  | true ↦ each_join WaiterFits list.calls _ h (fits, tt)
  | false ↦ h
]

pub fit_withouts : (list : WaitList) (tickets : List ℕ) → WaitersFit list → WaitersFit (without_calls list tickets)
fit_withouts list [] h = h
fit_withouts list (ticket ∷ tickets) h = fit_withouts (without_call list ticket) tickets (each_without_first WaiterFits (λ w. w.ticket == ticket) list.calls h)

on_fits : (number : ℕ) (waiters : List ℕ) (w : WaitingCall) → WaiterFits w → WaiterFits (on_fetch number waiters w)
on_fits number waiters w h = elim (has_number waiters w.ticket) as (λ b. WaiterFits (cond b (record w { fetch = Some number }) w)) [ true ↦ h | false ↦ h ]

off_fits : (number : ℕ) (w : WaitingCall) → WaiterFits w → WaiterFits (off_fetch number w)
off_fits number w h = elim (waits_on number w.fetch) as (λ b. WaiterFits (cond b (record w { fetch = None }) w)) [ true ↦ h | false ↦ h ]

fit_open : (list : WaitList) (key : Key) (waiters : List ℕ) → WaitersFit list → WaitersFit (after_open list key waiters)
unfolding after_open
fit_open list key waiters h = each_map WaiterFits (λ w. on_fetch list.opened waiters w) list.calls (each_weaker WaiterFits _ list.calls (λ w fits. on_fits list.opened waiters w fits) h)

pub fit_opens : (list : WaitList) (fetches : List Wanted) → WaitersFit list → WaitersFit (with_fetches list fetches)
fit_opens list [] h = h
fit_opens list (f ∷ fs) h = fit_opens (after_open list f.key f.waiters) fs (fit_open list f.key f.waiters h)

fit_free : (list : WaitList) (number : ℕ) → WaitersFit list → WaitersFit (without_fetch list number)
unfolding without_fetch
fit_free list number h = each_map WaiterFits (λ w. off_fetch number w) list.calls (each_weaker WaiterFits _ list.calls (λ w fits. off_fits number w fits) h)

pub fit_settle : (list : WaitList) (number : ℕ) → WaitersFit list → WaitersFit (after_settle list number)
fit_settle list number h = elim (fetch_of list number) as (λ f. WaitersFit (settled_by list number f)) [ None ↦ h | Some f ↦ fit_free list number h ]

pub fit_cancel : (list : WaitList) → WaitersFit list → WaitersFit (after_cancel list)
fit_cancel list h = each_map WaiterFits (λ w. unbound w) list.calls (each_weaker WaiterFits _ list.calls (λ w fits. fits) h)

call_found : (found : Option WaitingCall) (call : CallRec) → option_map (λ (w : WaitingCall). w.call) found ≡ Some call → (w : WaitingCall) × (found ≡ Some w) × (w.call ≡ call)
call_found None call is = absurd (cc)
call_found (Some w) call is = (w, refl, same_Some w.call call is)

-- what holds of each call that waits holds of the call of a ticket
pub waiter_has : (P : CallRec → Type 0) (list : WaitList) (ticket : ℕ) (call : CallRec) → call_with_ticket list ticket ≡ Some call → Each (λ (w : WaitingCall). P w.call) list.calls → P call
waiter_has P list ticket call is h =
    let x = call_found (find (λ (w : WaitingCall). w.ticket == ticket) list.calls) call is in
    subst P x.2 (each_in (λ (w : WaitingCall). P w.call) list.calls x.0 h (find_in (λ (w : WaitingCall). w.ticket == ticket) list.calls x.0 x.1).1)

pub waiter_of : (list : WaitList) (ticket : ℕ) (call : CallRec) → call_with_ticket list ticket ≡ Some call → WaitersFit list → CallFits call
waiter_of list ticket call is h = waiter_has (λ c. CallFits c) list ticket call is h
