use Rattle.std.proofs.Common.{◌≡◌, None, sym, ◌∙◌}
use Rattle.fal_locks.specs.Locks.{LockTable, first_shut}
use Rattle.fal_locks.proofs.Apart.{apart_with, first_shut_of}
use Rattle.fal_locks.proofs.locks.Locks.try_share.Goals as goal

pub invariant_of-self : goal.invariant_of-self
invariant_of-self c =
    let table : LockTable = record { holders = c.self.inside.holders.items; shut = c.self.inside.shut } in
    let absent : first_shut table c.args.keys.items ≡ None = first_shut_of table _ _ _ c.shut_among.ensures c.deref.ensures.value ∙ sym c.first_among.ensures ∙ c.in_default.is in
    rw (c.in-Ok.ensures.items, c.from_items.ensures) (apart_with table c.args.holder c.args.keys.items c.self.invariant absent)
