use Rattle.std.proofs.Common.{◌≡◌, ◌++◌, map, take, drop}
use Rattle.fal_wait.specs.Waiting.{on_fetch}
use Rattle.fal_wait.proofs.waiting_call.bind_waiters.Given as goal

-- the calls so far are done, and the others are as they were
abbrev pub invariant-loop-waiting : goal.invariant-loop-waiting
invariant-loop-waiting l = l.calls ≡ map (λ w. on_fetch l.number l.waiters w) (take l.waiting-index l.initial.calls) ++ drop l.waiting-index l.initial.calls
