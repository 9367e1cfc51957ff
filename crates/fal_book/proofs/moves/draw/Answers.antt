use Rattle.std.proofs.Common.{rules}
use Rattle.fal_book.proofs.Asks.{draws_at}
use Rattle.fal_book.proofs.moves.draw.Goals as goal

pub fetch_add-requires : goal.fetch_add-requires
fetch_add-requires g c = (c.requires.board.0, search rules, draws_at _ _ _ _ _ _ _ _ c.requires.idle)
