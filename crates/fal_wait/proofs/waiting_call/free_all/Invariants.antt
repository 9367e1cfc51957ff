use Rattle.std.proofs.Common.{◌≡◌, ◌++◌, map, take, drop}
use Rattle.fal_wait.specs.Waiting.{unbound}
use Rattle.fal_wait.proofs.waiting_call.free_all.Given as goal

-- the calls so far are done, and the others are as they were
abbrev pub invariant-loop-waiting : goal.invariant-loop-waiting
invariant-loop-waiting l = l.calls ≡ map (unbound) (take l.waiting-index l.initial.calls) ++ drop l.waiting-index l.initial.calls
