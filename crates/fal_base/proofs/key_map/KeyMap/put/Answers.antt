use Rattle.fal_base.proofs.Places.{in_order_put}
use Rattle.fal_base.proofs.key_map.KeyMap.put.Goals as goal

pub invariant_of-self : goal.invariant_of-self
invariant_of-self g c = rw c.put_value.ensures.items (in_order_put c.args.key c.args.value c.self.inside.entries.items c.self.invariant)
