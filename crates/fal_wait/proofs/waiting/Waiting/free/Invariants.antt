use Rattle.std.proofs.Common.{◌≡◌, map, filter, is_none, take}
use Rattle.fal_wait.proofs.waiting.Waiting.free.Given as goal

abbrev pub invariant-loop-waiting : goal.invariant-loop-waiting
invariant-loop-waiting l = l.tickets.items ≡ map (λ w. w.ticket) (filter (λ w. is_none w.fetch) (take l.waiting-index l.waiting-items))
