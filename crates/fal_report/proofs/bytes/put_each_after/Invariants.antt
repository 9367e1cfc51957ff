use Rattle.std.proofs.Common.{◌≡◌, ◌++◌, take}
use Rattle.fal_report.specs.Escapes.{each_after}
use Rattle.fal_report.proofs.bytes.put_each_after.Given as goal

abbrev pub invariant-loop-name : goal.invariant-loop-name
invariant-loop-name l = l.out.items ≡ l.initial.out.items ++ each_after l.byte (take l.name-index l.names)
