use Rattle.std.proofs.Common.{◌≡◌, ◌≤◌, count_by, is_none, take}
use Rattle.fal_wait.proofs.waiting_call.count_free.Given as goal

abbrev pub invariant-loop-waiting : goal.invariant-loop-waiting
invariant-loop-waiting l = record { count : l.count ≡ count_by (λ w. is_none w.fetch) (take l.waiting-index l.calls); within : l.count ≤ l.waiting-index }
