use Rattle.fal_book.specs.Entries.{IsSound}
use Rattle.fal_book.proofs.Turns.{knows}
use Rattle.fal_book.proofs.lock.ActorSeat.number.Goals as goal

pub returns-clause-knows : goal.returns-clause-knows
returns-clause-knows g c = let b = g.B.Chronicle in knows b.actor_of (IsSound b.may_push) c.self.inside.seat _ _ _ c.self.view_is c.self.invariant
