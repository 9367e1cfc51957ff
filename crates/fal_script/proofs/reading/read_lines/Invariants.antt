use Rattle.std.proofs.Common.{◌≡◌, ◌≤◌, ◌+◌, length}
use Rattle.fal_script.specs.Lines.{text_lines}
use Rattle.fal_script.specs.Script.{script_from, script_of}
use Rattle.fal_script.proofs.reading.read_lines.Given as goal

-- what is left goes on from what was read, and has no more lines than bytes
abbrev pub invariant-loop-line : goal.invariant-loop-line
invariant-loop-line l =
    record {
      same : script_from l.number l.draft (text_lines l.rest) ≡ script_of l.bytes;
      small : l.number + length l.rest ≤ 1 + length l.bytes;
    }

abbrev pub decreases-loop-line : goal.decreases-loop-line
decreases-loop-line l = length l.rest
