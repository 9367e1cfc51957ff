use Rattle.std.proofs.Common.{◌≡◌, ◌++◌, take}
use Rattle.fal_report.specs.Escapes.{escaped}
use Rattle.fal_report.proofs.bytes.put_each.Given as goal

abbrev pub invariant-loop-byte : goal.invariant-loop-byte
invariant-loop-byte l = l.out.items ≡ l.initial.out.items ++ escaped (take l.byte-index l.bytes)
