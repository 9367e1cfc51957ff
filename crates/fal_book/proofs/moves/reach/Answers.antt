use Rattle.std.proofs.Common.{rules, sym, subst}
use Rattle.fal_book.proofs.Asks.{sees_at}
use Rattle.fal_book.specs.Moves.{Waits}
use Rattle.fal_book.proofs.moves.reach.Goals as goal

pub load-requires : goal.load-requires
load-requires g c = (search rules, search rules, sees_at _ _ _ _ _ _ _ c.args.ticket _ (subst (Waits c.args.ticket) (sym c.loop.invariant.2) c.requires.waits))
