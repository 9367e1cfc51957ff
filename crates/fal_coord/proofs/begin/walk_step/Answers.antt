use Rattle.std.proofs.Common.{sym, subst}
use Rattle.fal_coord.specs.Onward.{SuitsWalk}
use Rattle.fal_coord.proofs.Sound.{suits_walk}
use Rattle.fal_coord.proofs.begin.walk_step.Goals as goal

pub go_on-requires : goal.go_on-requires
go_on-requires c = subst (SuitsWalk c.args.call.now.op) (sym c.in_ok-walk.ensures) (suits_walk _ c.args.call.now.cred c.args.call.now.op c.requires)
