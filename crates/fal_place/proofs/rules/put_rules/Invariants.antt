use Rattle.std.proofs.Common.{◌≡◌, ◌≤◌, ◌-◌, fold, length, vec_len, vec_capacity}
use Rattle.fal_place.specs.Placement.{with_change}
use Rattle.fal_place.proofs.rules.put_rules.Given as goal

-- the changes so far are set, and there is room for the others
abbrev pub invariant-loop-change : goal.invariant-loop-change
invariant-loop-change l =
    record {
      set : l.rules.items ≡ fold with_change l.initial.rules.items l.yielded;
      room : length l.change-iterator.rest.items ≤ vec_capacity l.rules - vec_len l.rules;
    }
