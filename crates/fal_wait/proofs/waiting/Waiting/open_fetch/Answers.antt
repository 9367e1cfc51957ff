use Rattle.std.proofs.Common.{◌≡◌, ◌+◌, true, sym, ◌∙◌, subst}
use Rattle.fal_wait.specs.declared.pending_fetch.PendingFetch.{PendingFetch}
use Rattle.fal_wait.specs.declared.waiting_call.WaitingCall.{WaitingCall}
use Rattle.fal_wait.specs.Lists.{are_ascending}
use Rattle.fal_wait.specs.Waiting.{are_rising, on_fetch}
use Rattle.fal_wait.proofs.Ascending.{ascending_map, ascending_push}
use Rattle.fal_wait.proofs.Numbered.{ticket-on_fetch}
use Rattle.fal_wait.proofs.waiting.Waiting.open_fetch.Goals as goal

pub invariant_of-self : goal.invariant_of-self
invariant_of-self c =
    let i = c.self.inside in
    let next = c.number_after-number.result in
    let waiters = c.deref.result.now in
    let fetch : PendingFetch = record { number = next; key = c.args.key; waiters = c.from_items.result } in
    let numbers = subst (λ n. are_ascending (λ (f : PendingFetch). f.number) i.fetches.items n ≡ true) (sym c.number_after-number.ensures) c.self.invariant.fetches in
    record {
      tickets = subst (λ ws. are_rising ws i.tickets ≡ true) (sym c.wait_on.ensures.calls)
          (ascending_map (λ (w : WaitingCall). w.ticket) (λ w. on_fetch next waiters w) (λ w. ticket-on_fetch next waiters w) i.calls.items i.tickets ∙ c.self.invariant.tickets);
      fetches = subst (λ fs. are_ascending (λ (f : PendingFetch). f.number) fs (next + 1) ≡ true) (sym c.in-Ok.ensures.items) (ascending_push (λ (f : PendingFetch). f.number) i.fetches.items fetch numbers);
    }
