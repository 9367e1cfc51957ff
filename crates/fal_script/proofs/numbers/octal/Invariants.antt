use Rattle.std.proofs.Common.{◌≡◌, ◌≤◌, ◌+◌, ◌*◌, ◌^◌, drop}
use Rattle.fal_script.specs.Numbers.{octal_after}
use Rattle.fal_script.proofs.numbers.octal.Given as goal

-- the digits that are left go on from the value so far, which has no more digits than were read
abbrev pub invariant-loop-digit : goal.invariant-loop-digit
invariant-loop-digit l =
    record {
      spelled : octal_after l.value (drop l.digit-index l.word) ≡ octal_after 0 l.word;
      small : l.value + 30 ≤ 30 * 8 ^ l.digit-index;
    }
