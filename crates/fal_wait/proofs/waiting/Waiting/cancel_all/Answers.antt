use Rattle.std.proofs.Common.{◌≡◌, List, [], true, refl, sym, ◌∙◌, subst}
use Rattle.fal_wait.specs.declared.pending_fetch.PendingFetch.{PendingFetch}
use Rattle.fal_wait.specs.declared.waiting_call.WaitingCall.{WaitingCall}
use Rattle.fal_wait.specs.Lists.{are_ascending}
use Rattle.fal_wait.specs.Waiting.{are_rising, count_to, unbound}
use Rattle.fal_wait.proofs.Ascending.{ascending_map}
use Rattle.fal_wait.proofs.waiting.Waiting.cancel_all.Goals as goal

pub invariant_of-self : goal.invariant_of-self
invariant_of-self c =
    let calls = c.self.inside.calls.items in
    let tickets = c.self.inside.tickets in
    record {
      tickets = subst (λ ws. are_rising ws tickets ≡ true) (sym c.stop_all_waiting.ensures.calls) (ascending_map (λ (w : WaitingCall). w.ticket) unbound (λ w. refl) calls tickets ∙ c.self.invariant.tickets);
      fetches = subst (λ fs. are_ascending (λ (f : PendingFetch). f.number) fs (count_to c.self.inside.last_fetch) ≡ true) (sym c.clear.ensures.items) refl;
    }
