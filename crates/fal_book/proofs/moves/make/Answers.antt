use Rattle.std.proofs.Common.{rules}
use Rattle.fal_book.proofs.Asks.{splits_at}
use Rattle.fal_book.proofs.moves.make.Goals as goal

pub split_seat-requires : goal.split_seat-requires
split_seat-requires g c = (search rules, search rules, splits_at _ _ _ _ _ _ _ c.requires.may)
