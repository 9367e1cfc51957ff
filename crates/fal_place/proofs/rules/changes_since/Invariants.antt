use Rattle.std.proofs.Common.{◌≡◌, take, filter, nat_lt}
use Rattle.fal_place.proofs.rules.changes_since.Given as goal

-- the later ones of the rules so far are copied
abbrev pub invariant-loop-change : goal.invariant-loop-change
invariant-loop-change l = l.late.items ≡ filter (λ change. nat_lt l.version change.version) (take l.change-index l.change-items)
