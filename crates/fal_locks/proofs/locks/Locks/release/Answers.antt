use Rattle.fal_locks.proofs.Apart.{apart_without}
use Rattle.fal_locks.proofs.locks.Locks.release.Goals as goal

pub invariant_of-self : goal.invariant_of-self
invariant_of-self c = rw c.drop_holder.ensures (apart_without (record { holders = c.self.inside.holders.items; shut = c.self.inside.shut }) c.args.holder c.self.invariant)
