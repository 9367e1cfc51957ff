use Rattle.std.proofs.Common.{◌≡◌, length}
use Rattle.std.specs.Prelude.{find}
use Rattle.fal_place.specs.Placement.{same_name, rule_found}
use Rattle.fal_place.proofs.rules.rule_of.Given as goal

-- no rule passed so far is the name's
abbrev pub invariant-loop-first : goal.invariant-loop-first
invariant-loop-first l =
    rule_found (find (λ change. same_name change.name l.name) l.rest) ≡ rule_found (find (λ change. same_name change.name l.name) l.rules)

abbrev pub decreases-loop-first : goal.decreases-loop-first
decreases-loop-first l = length l.rest
