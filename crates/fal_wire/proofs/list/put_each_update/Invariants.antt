use Rattle.std.proofs.Common.{◌≡◌, ◌++◌, take}
use Rattle.std.specs.List.{flat_map}
use Rattle.fal_wire.specs.Rows.{update_field}
use Rattle.fal_wire.proofs.list.put_each_update.Given as goal

abbrev pub invariant-loop-item : goal.invariant-loop-item
invariant-loop-item l = l.into.items ≡ l.initial.into.items ++ flat_map update_field.spell (take l.item-index l.items)
