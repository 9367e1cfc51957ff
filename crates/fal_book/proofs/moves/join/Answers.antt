use Rattle.std.proofs.Common.{rules, ◌∙◌, ap}
use Rattle.fal_book.specs.Steps.{joint_view}
use Rattle.fal_book.proofs.Asks.{joins_at}
use Rattle.fal_book.proofs.moves.join.Goals as goal

pub join_seat-requires : goal.join_seat-requires
join_seat-requires g c = let idle = c.requires.other in (search rules, search rules, ap (λ m. m.1) idle.1, search rules, joins_at _ _ _ _ _ _ _ _ _ c.requires.idle c.requires.other)

pub returns-clause-took_in : goal.returns-clause-took_in
returns-clause-took_in g c = λ v w a b. c.join_seat.ensures.2 ∙ (λ i. (joint_view (a i).0 (b i).0, (a i).1))
