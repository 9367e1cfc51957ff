use Rattle.std.proofs.Common.{◌≡◌, take}
use Rattle.fal_place.proofs.rules.copied.Given as goal

-- the rules so far are copied
abbrev pub invariant-loop-change : goal.invariant-loop-change
invariant-loop-change l = l.copied.items ≡ take l.change-index l.rules
