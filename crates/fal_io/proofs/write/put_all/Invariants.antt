use Rattle.std.proofs.Common.{length, ◌-◌, ◌≤◌, take}
use Rattle.std.specs.Io.KnownBytes.{Appends}
use Rattle.fal_io.proofs.write.put_all.Given as goal

-- the front up to here was appended
abbrev pub invariant-loop-start : goal.invariant-loop-start
invariant-loop-start g l =
    let sink = g.K.Sink in
    record {
      within : l.start ≤ length l.bytes;
      front : Appends (sink.holds l.initial.sink) (sink.holds l.sink) (take l.start l.bytes);
      never_falls : sink.faults l.initial.sink ≤ sink.faults l.sink;
    }

abbrev pub decreases-loop-start : goal.decreases-loop-start
decreases-loop-start g l = length l.bytes - l.start
