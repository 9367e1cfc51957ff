use Rattle.std.proofs.Common.{◌≡◌, ◌+◌, length, nat_lt}
use Rattle.std.specs.List.{position_or_len}
use Rattle.fal_place.proofs.rules.place_after.Given as goal

-- no rule passed so far is of a later version
abbrev pub invariant-loop-first : goal.invariant-loop-first
invariant-loop-first l =
    record {
      place : l.place + position_or_len (λ rule. nat_lt l.version rule.version) l.rest ≡ position_or_len (λ rule. nat_lt l.version rule.version) l.rules;
      inside : l.place + length l.rest ≡ length l.rules;
    }

abbrev pub decreases-loop-first : goal.decreases-loop-first
decreases-loop-first l = length l.rest
