use Rattle.std.proofs.Common.{◌≡◌, None, sym, ◌∙◌}
use Rattle.fal_locks.specs.Locks.{LockTable, first_held}
use Rattle.fal_locks.proofs.Apart.{apart_shut, first_held_of}
use Rattle.fal_locks.proofs.locks.Locks.try_shut.Goals as goal

pub invariant_of-self : goal.invariant_of-self
invariant_of-self c =
    let table : LockTable = record { holders = c.self.inside.holders.items; shut = c.self.inside.shut } in
    let absent : first_held table c.args.keys.items ≡ None = first_held_of table _ _ _ c.deref.ensures.value c.deref-2.ensures.value ∙ sym c.first_held.ensures ∙ c.in_default.is in
    rw c.from_items.ensures (apart_shut table c.args.op c.args.keys.items absent)
