use Rattle.std.proofs.Common.{inl, refl, ◌∙◌, arith}
use Rattle.fal_book.specs.Entries.{IsSound}
use Rattle.fal_book.proofs.Lists.{starts_here}
use Rattle.fal_book.proofs.Turns.{idle_of, may_give, found, told, same_sitting, rests_again, looked_within, nothing_entered, looks, told_of, knows}
use Rattle.fal_book.proofs.lock.BookLock.look.Goals as goal

pub take-book-requires-clause-idle : goal.take-book-requires-clause-idle
take-book-requires-clause-idle g c = let b = g.B.Chronicle in idle_of b.entries b.setting b.actor_of (IsSound b.may_push) _ _ _ _ c.seat.invariant.1

pub give-requires-clause-may : goal.give-requires-clause-may
give-requires-clause-may g c = let b = g.B.Chronicle in
    may_give b.entries b.setting b.actor_of (IsSound b.may_push) _ _ _ _ _ _ _ c.seat.invariant.1 c.take-book.ensures.took refl c.len-count.ensures.sound (inl refl)

pub invariant_of-seat : goal.invariant_of-seat
invariant_of-seat g c = let b = g.B.Chronicle in (
  c.seat.invariant.0,
  rests_again b.entries b.setting b.actor_of (IsSound b.may_push) _ _ _ _ _ _ _ _ c.take-book.result c.seat.invariant.1 c.take-book.ensures.took c.give.ensures.gave c.len-count.ensures.sound
      (looked_within b.entries b.setting b.actor_of (IsSound b.may_push) _ _ _ _ _ _ c.take-book.result c.seat.invariant.1 c.take-book.ensures.took (starts_here _)),
)

pub invariant_of-seat-in-Ok : goal.invariant_of-seat-in-Ok
invariant_of-seat-in-Ok g c = let b = g.B.Chronicle in (
  c.seat.invariant.0,
  rests_again b.entries b.setting b.actor_of (IsSound b.may_push) _ _ _ _ _ _ _ _ c.take-book.result c.seat.invariant.1 c.take-book.ensures.took c.give.ensures.gave c.len-count.ensures.sound
      (let e = c.len-count.ensures.count in omega arith),
)

pub returns-in-Err-clause-err : goal.returns-in-Err-clause-err
returns-in-Err-clause-err g c = let b = g.B.Chronicle in (
  c.in-Err.ensures.err,
  nothing_entered b.entries b.setting b.actor_of (IsSound b.may_push) c.seat.inside.seat c.give.new.seat _ _ _ _ _ c.seat.view_is
      (told b.entries b.setting b.actor_of (IsSound b.may_push) _ _ _ _ _ _ _ _ c.seat.invariant.1 c.take-book.ensures.took c.give.ensures.gave) refl,
)

pub returns-in-Ok-clause-ok : goal.returns-in-Ok-clause-ok
returns-in-Ok-clause-ok g c = let b = g.B.Chronicle in
    looks b.entries b.setting b.actor_of (IsSound b.may_push) c.seat.inside.seat c.give.new.seat _ _ _ _ _ c.seat.view_is
    (told b.entries b.setting b.actor_of (IsSound b.may_push) _ _ _ _ _ _ _ _ c.seat.invariant.1 c.take-book.ensures.took c.give.ensures.gave) c.len-count.ensures.count

pub returns-in-Ok-clause-inbox : goal.returns-in-Ok-clause-inbox
returns-in-Ok-clause-inbox g c = let b = g.B.Chronicle in
    told_of b.entries b.setting b.actor_of (IsSound b.may_push) (λ s es n k. b.inbox_gives s es n k c.args.into.now c.inbox-told.new.into) c.seat.inside.seat c.give.new.seat _ _ _ _ c.seat.view_is c.seat.invariant
    (found b.entries b.setting b.actor_of (IsSound b.may_push) _ _ _ _ _ _ c.seat.invariant.1 c.take-book.ensures.took).setting_is
    (told b.entries b.setting b.actor_of (IsSound b.may_push) _ _ _ _ _ _ _ _ c.seat.invariant.1 c.take-book.ensures.took c.give.ensures.gave).seen_after
    c.in-Ok.ensures.ok

pub returns-in-Err-clause-same : goal.returns-in-Err-clause-same
returns-in-Err-clause-same g c = let b = g.B.Chronicle in
    same_sitting b.entries b.setting b.actor_of (IsSound b.may_push) c.seat.inside.seat c.give.new.seat _ _ _ _ 0 _ _ _ c.seat.view_is c.seat.invariant.1 c.take-book.ensures.took c.give.ensures.gave (c.give.ensures.same.0 ∙ c.take-book.ensures.same.0)

pub returns-in-Ok-clause-same : goal.returns-in-Ok-clause-same
returns-in-Ok-clause-same g c = let b = g.B.Chronicle in
    same_sitting b.entries b.setting b.actor_of (IsSound b.may_push) c.seat.inside.seat c.give.new.seat _ _ _ _ 0 _ _ _ c.seat.view_is c.seat.invariant.1 c.take-book.ensures.took c.give.ensures.gave (c.give.ensures.same.0 ∙ c.take-book.ensures.same.0)

pub returns-in-Err-clause-knows : goal.returns-in-Err-clause-knows
returns-in-Err-clause-knows g c = let b = g.B.Chronicle in knows b.actor_of (IsSound b.may_push) c.give.new.seat _ _ _ refl (
  c.seat.invariant.0,
  rests_again b.entries b.setting b.actor_of (IsSound b.may_push) _ _ _ _ _ _ _ _ c.take-book.result c.seat.invariant.1 c.take-book.ensures.took c.give.ensures.gave c.len-count.ensures.sound
      (looked_within b.entries b.setting b.actor_of (IsSound b.may_push) _ _ _ _ _ _ c.take-book.result c.seat.invariant.1 c.take-book.ensures.took (starts_here _)),
)

pub returns-in-Ok-clause-knows : goal.returns-in-Ok-clause-knows
returns-in-Ok-clause-knows g c = let b = g.B.Chronicle in knows b.actor_of (IsSound b.may_push) c.give.new.seat _ _ _ refl (
  c.seat.invariant.0,
  rests_again b.entries b.setting b.actor_of (IsSound b.may_push) _ _ _ _ _ _ _ _ c.take-book.result c.seat.invariant.1 c.take-book.ensures.took c.give.ensures.gave c.len-count.ensures.sound
      (let e = c.len-count.ensures.count in omega arith),
)
