use Rattle.std.proofs.Common.{◌≡◌, ◌-◌, None}
use Rattle.fal_wire.specs.Format.{many_at}
use Rattle.fal_wire.specs.Names.{key_field}
use Rattle.fal_wire.proofs.Loop.{with_front, last_of}
use Rattle.fal_wire.proofs.list.read_each_key.Given as goal

abbrev pub invariant-loop : goal.invariant-loop
invariant-loop l = with_front l.items (many_at (λ _. key_field) (last_of l.items) (l.count - l.counter) l.end l.rest) ≡ many_at (λ _. key_field) None l.count l.end l.bytes
