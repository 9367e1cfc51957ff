use Rattle.std.proofs.Common.{◌≡◌, ◌+◌, ◌-◌, ◌≤◌, length, vec_len}
use Rattle.std.specs.Io.KnownBytes.{Consumes}
use Rattle.fal_io.proofs.read.read_through.Given as goal

-- the bytes so far were taken, by at most as many reads
abbrev pub invariant-loop-count : goal.invariant-loop-count
invariant-loop-count g l =
    let source = g.S.Source in
    record {
      within : vec_len l.bytes ≤ l.limit;
      room : length l.buffer ≡ length l.initial.buffer;
      taken : Consumes (source.left l.initial.source) (source.left l.source) l.bytes.items;
      never_falls : source.faults l.initial.source ≤ source.faults l.source;
      reads : source.reads l.source ≤ source.reads l.initial.source + vec_len l.bytes;
    }

abbrev pub decreases-loop-count : goal.decreases-loop-count
decreases-loop-count g l = l.limit - vec_len l.bytes
