use Rattle.std.proofs.Common.{sym, ◌∙◌}
use Rattle.fal_coord.proofs.Sound.{not_busy, places_none}
use Rattle.fal_coord.proofs.begin.start.Goals as goal

pub walk_step-requires : goal.walk_step-requires
walk_step-requires c = not_busy c.args.call.now.op c.requires.operation (places_none c.args.call.now.op c.in_default.not-Place) (sym c.is_busy.ensures ∙ c.if-is_busy.false)
