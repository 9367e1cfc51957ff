use Rattle.fal_coord.proofs.Sound.{opening_sound}
use Rattle.fal_coord.proofs.coord.Coord.new.Goals as goal

pub invariant_of-result : goal.invariant_of-result
invariant_of-result c = opening_sound c.new.result c.new-3.result.items c.idle.result c.new-3.ensures.items c.idle.ensures
