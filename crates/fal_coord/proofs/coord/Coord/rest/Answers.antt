use Rattle.fal_coord.proofs.Sound.{idle_sound}
use Rattle.fal_coord.proofs.coord.Coord.rest.Goals as goal

pub invariant_of-self : goal.invariant_of-self
invariant_of-self c = idle_sound c.self.inside.table c.self.inside.waiting.items c.set.new.self c.self.invariant.calls_waiting c.set.ensures
