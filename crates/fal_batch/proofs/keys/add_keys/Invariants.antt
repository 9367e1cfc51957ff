use Rattle.std.proofs.Common.{◌≡◌}
use Rattle.fal_batch.specs.Keys.{with_keys}
use Rattle.fal_batch.proofs.keys.add_keys.Given as goal

-- the others so far are put in
abbrev pub invariant-loop-key : goal.invariant-loop-key
invariant-loop-key l = l.keys.items ≡ with_keys l.initial.keys.items l.yielded
