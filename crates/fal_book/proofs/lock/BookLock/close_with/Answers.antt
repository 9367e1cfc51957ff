use Rattle.std.proofs.Common.{arith, ap}
use Rattle.fal_book.specs.Entries.{IsSound}
use Rattle.fal_book.proofs.Gathers.{closed_book, taken_book, closed_as}
use Rattle.fal_book.proofs.lock.BookLock.close_with.Goals as goal

pub unreachable-requires : goal.unreachable-requires
unreachable-requires g c = let b = g.B.Chronicle in
    let all = c.requires.all in let v = ap (λ z. z.actors) c.self.view_is in let i = c.self.invariant.1 in
    let h = closed_book b.entries b.setting b.actor_of (IsSound b.may_push) _ _ _ _ _ _ c.gather-first.ensures.all (omega (arith, v)) c.close_with-closed.ensures.values.2 in
    c.in_default.not-Some h.0 (taken_book b.entries b.setting b.actor_of (IsSound b.may_push) c.self.inside.table.shared.key _ h.0 _ h.1 c.take-slot.ensures.value)

pub returns : goal.returns
returns g c = let b = g.B.Chronicle in
    let all = c.requires.all in let v = ap (λ z. z.actors) c.self.view_is in let i = c.self.invariant.1 in
    let h = closed_book b.entries b.setting b.actor_of (IsSound b.may_push) _ _ _ _ _ _ c.gather-first.ensures.all (omega (arith, v)) c.close_with-closed.ensures.values.2 in
    closed_as b.entries b.setting b.actor_of (IsSound b.may_push) c.self.inside.table.shared.key _ h.0 c.in-Some.book _ c.args.seats.items h.1 c.take-slot.ensures.value c.in-Some.is h.2
