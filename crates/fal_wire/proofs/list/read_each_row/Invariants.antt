use Rattle.std.proofs.Common.{◌≡◌, ◌-◌, None}
use Rattle.fal_wire.specs.Format.{many_at}
use Rattle.fal_wire.specs.Rows.{next_row}
use Rattle.fal_wire.proofs.Loop.{with_front, last_of}
use Rattle.fal_wire.proofs.list.read_each_row.Given as goal

abbrev pub invariant-loop : goal.invariant-loop
invariant-loop l = with_front l.items (many_at next_row (last_of l.items) (l.count - l.counter) l.end l.rest) ≡ many_at next_row None l.count l.end l.bytes
