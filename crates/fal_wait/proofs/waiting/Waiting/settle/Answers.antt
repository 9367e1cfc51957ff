use Rattle.std.proofs.Common.{◌≡◌, true, sym, subst}
use Rattle.fal_wait.specs.declared.pending_fetch.PendingFetch.{PendingFetch}
use Rattle.fal_wait.specs.Lists.{are_ascending}
use Rattle.fal_wait.specs.Waiting.{WaitList, are_rising, count_to, without_fetch}
use Rattle.fal_wait.proofs.Numbered.{free_numbered}
use Rattle.fal_wait.proofs.waiting.Waiting.settle.Goals as goal

pub invariant_of-self-in-Some : goal.invariant_of-self-in-Some
unfolding without_fetch
invariant_of-self-in-Some c =
    let i = c.self.inside in
    let list : WaitList = record { calls = i.calls.items; fetches = i.fetches.items; last = i.last.items; tickets = i.tickets; opened = count_to i.last_fetch } in
    let numbered = free_numbered list c.args.id c.self.invariant in
    record {
      tickets = subst (λ ws. are_rising ws i.tickets ≡ true) (sym c.stop_waiting.ensures.calls) numbered.tickets;
      fetches = subst (λ fs. are_ascending (λ (f : PendingFetch). f.number) fs (count_to i.last_fetch) ≡ true) (sym c.take_fetch.ensures.rest) numbered.fetches;
    }
