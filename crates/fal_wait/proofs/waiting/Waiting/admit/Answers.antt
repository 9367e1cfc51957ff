use Rattle.std.proofs.Common.{◌≡◌, ◌+◌, true, None, sym, subst}
use Rattle.fal_wait.specs.declared.waiting_call.WaitingCall.{WaitingCall}
use Rattle.fal_wait.specs.Waiting.{are_rising}
use Rattle.fal_wait.proofs.Ascending.{ascending_push}
use Rattle.fal_wait.proofs.waiting.Waiting.admit.Goals as goal

pub invariant_of-self : goal.invariant_of-self
invariant_of-self c =
    let i = c.self.inside in
    let waiting : WaitingCall = record { ticket = i.tickets; call = c.args.call; fetch = None } in
    record {
      tickets = subst (λ ws. are_rising ws (i.tickets + 1) ≡ true) (sym c.in-Ok.ensures.items) (ascending_push (λ (w : WaitingCall). w.ticket) i.calls.items waiting c.self.invariant.tickets);
      fetches = c.self.invariant.fetches;
    }
