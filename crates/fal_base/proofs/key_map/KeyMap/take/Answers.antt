use Rattle.fal_base.proofs.Places.{in_order_taken}
use Rattle.fal_base.proofs.key_map.KeyMap.take.Goals as goal

pub invariant_of-self : goal.invariant_of-self
invariant_of-self g c = rw c.take_value.ensures.items (in_order_taken c.args.key.now c.self.inside.entries.items c.self.invariant)
