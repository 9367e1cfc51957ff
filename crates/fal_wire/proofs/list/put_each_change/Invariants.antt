use Rattle.std.proofs.Common.{◌≡◌, ◌++◌, take, None}
use Rattle.std.specs.List.{flat_map}
use Rattle.fal_wire.specs.Rows.{next_change}
use Rattle.fal_wire.proofs.list.put_each_change.Given as goal

abbrev pub invariant-loop-item : goal.invariant-loop-item
invariant-loop-item l = l.into.items ≡ l.initial.into.items ++ flat_map (next_change None).spell (take l.item-index l.items)
