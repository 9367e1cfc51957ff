use Rattle.std.proofs.Common.{rules}
use Rattle.fal_book.proofs.Asks.{passes_at, put_back, gave}
use Rattle.fal_book.proofs.moves.give.Goals as goal

pub fetch_add-requires : goal.fetch_add-requires
fetch_add-requires g c = (search rules, search rules, passes_at _ _ _ _ _ _ _ _ _ _ c.requires.may (put_back _ _ _ _ c.requires.may.2 c.exchange-left.ensures.3))

pub returns-clause-gave : goal.returns-clause-gave
returns-clause-gave g c = let b = g.B.Chronicle in gave b.entries b.setting b.actor_of _ _ _ _ c.fetch_add.result (put_back _ _ _ _ c.requires.may.2 c.exchange-left.ensures.3) c.fetch_add.ensures.2
