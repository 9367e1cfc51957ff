use Rattle.std.proofs.Common.{◌≡◌, ◌==◌, true, sym, subst}
use Rattle.fal_wait.specs.declared.waiting_call.WaitingCall.{WaitingCall}
use Rattle.fal_wait.specs.Waiting.{are_rising}
use Rattle.fal_wait.proofs.Ascending.{ascending_without}
use Rattle.fal_wait.proofs.waiting.Waiting.remove.Goals as goal

pub invariant_of-self : goal.invariant_of-self
invariant_of-self c = record {
  tickets = subst (λ calls. are_rising calls c.self.inside.tickets ≡ true) (sym c.take_call.ensures.rest)
      (ascending_without (λ (w : WaitingCall). w.ticket) (λ w. w.ticket == c.args.ticket) c.self.inside.calls.items c.self.inside.tickets c.self.invariant.tickets);
  fetches = c.self.invariant.fetches;
}
