use Rattle.std.proofs.Common.{◌≡◌, ◌≤◌, ◌+◌, ◌*◌, ◌^◌, drop}
use Rattle.fal_script.specs.Numbers.{value_after}
use Rattle.fal_script.proofs.numbers.value.Given as goal

-- the digits that are left go on from the value so far, which has no more digits than were read
abbrev pub invariant-loop-digit : goal.invariant-loop-digit
invariant-loop-digit l =
    record {
      spelled : value_after l.value (drop l.digit-index l.word) ≡ value_after 0 l.word;
      small : l.value + 23 ≤ 23 * 10 ^ l.digit-index;
    }
