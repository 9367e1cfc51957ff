use Rattle.std.proofs.Common.{rules, ◌≡◌, inl, inr, refl, sym, ◌∙◌, ap, subst, [], ◌∷◌, ◌++◌}
use Rattle.fal_book.specs.Entries.{IsSound}
use Rattle.fal_book.proofs.Turns.{idle_of, may_give, told, same_sitting, rests_again, looked_within, nothing_entered, entered, pushes, knows}
use Rattle.fal_book.proofs.lock.BookLock.enter.Goals as goal

pub take-book-requires-clause-idle : goal.take-book-requires-clause-idle
take-book-requires-clause-idle g c = let b = g.B.Chronicle in idle_of b.entries b.setting b.actor_of (IsSound b.may_push) _ _ _ _ c.seat.invariant.1

pub give-requires-clause-may : goal.give-requires-clause-may
give-requires-clause-may g c = let b = g.B.Chronicle in let same = c.reserve.ensures.same in
    may_give b.entries b.setting b.actor_of (IsSound b.may_push) _ _ _ _ _ _ _ c.seat.invariant.1 c.take-book.ensures.took same.1
    (subst (IsSound b.may_push (b.setting c.take-book.result)) (sym same.0) c.len-number.ensures.sound) (inl same.0)

pub invariant_of-seat : goal.invariant_of-seat
invariant_of-seat g c = let b = g.B.Chronicle in let same = c.reserve.ensures.same in (
  c.seat.invariant.0,
  rests_again b.entries b.setting b.actor_of (IsSound b.may_push) _ _ _ _ _ _ _ _ _ c.seat.invariant.1 c.take-book.ensures.took c.give.ensures.gave
      (subst (IsSound b.may_push (b.setting c.take-book.result)) (sym same.0) c.len-number.ensures.sound)
      (looked_within b.entries b.setting b.actor_of (IsSound b.may_push) _ _ _ _ _ _ _ c.seat.invariant.1 c.take-book.ensures.took record { rest = []; is = search rules }),
)

pub add-requires-clause-may : goal.add-requires-clause-may
add-requires-clause-may g c = let b = g.B.Chronicle in let same = c.reserve.ensures.same in
    (pushes b.entries b.setting b.actor_of b.may_push g.met.B.Chronicle.lasts c.seat.inside.seat _ _ _ _ _ c.args.event c.args.outputs _ c.seat.view_is c.seat.invariant c.take-book.ensures.took c.requires.own c.requires.may
    c.len-number.ensures.sound same.0 same.1 (g.met.B.Chronicle.roomy _ c.args.outputs c.in-Ok.ensures.room)).1

pub give-requires-in-Ok-clause-may : goal.give-requires-in-Ok-clause-may
give-requires-in-Ok-clause-may g c = let b = g.B.Chronicle in let same = c.reserve.ensures.same in
    let more : b.entries c.add.new.book ≡ b.entries c.take-book.result ++ c.args.event ∷ [] = c.add.ensures.entry ∙ ap (λ z. z ++ c.args.event ∷ []) same.0 in
    let p = pushes b.entries b.setting b.actor_of b.may_push g.met.B.Chronicle.lasts c.seat.inside.seat _ _ _ _ _ c.args.event c.args.outputs _ c.seat.view_is c.seat.invariant c.take-book.ensures.took c.requires.own c.requires.may
    c.len-number.ensures.sound same.0 same.1 (g.met.B.Chronicle.roomy _ c.args.outputs c.in-Ok.ensures.room) in
    may_give b.entries b.setting b.actor_of (IsSound b.may_push) _ _ _ _ _ _ _ c.seat.invariant.1 c.take-book.ensures.took (c.add.ensures.setting ∙ same.1)
    (subst (IsSound b.may_push (b.setting c.take-book.result)) (sym more) p.2) (inr (c.args.event, p.0, more))

pub invariant_of-seat-in-Ok : goal.invariant_of-seat-in-Ok
invariant_of-seat-in-Ok g c = let b = g.B.Chronicle in let same = c.reserve.ensures.same in
    let more : b.entries c.add.new.book ≡ b.entries c.take-book.result ++ c.args.event ∷ [] = c.add.ensures.entry ∙ ap (λ z. z ++ c.args.event ∷ []) same.0 in
    let p = pushes b.entries b.setting b.actor_of b.may_push g.met.B.Chronicle.lasts c.seat.inside.seat _ _ _ _ _ c.args.event c.args.outputs _ c.seat.view_is c.seat.invariant c.take-book.ensures.took c.requires.own c.requires.may
    c.len-number.ensures.sound same.0 same.1 (g.met.B.Chronicle.roomy _ c.args.outputs c.in-Ok.ensures.room) in (
      c.seat.invariant.0,
      rests_again b.entries b.setting b.actor_of (IsSound b.may_push) _ _ _ _ _ _ _ _ _ c.seat.invariant.1 c.take-book.ensures.took c.give-in-Ok.ensures.gave
          (subst (IsSound b.may_push (b.setting c.take-book.result)) (sym more) p.2)
          (looked_within b.entries b.setting b.actor_of (IsSound b.may_push) _ _ _ _ _ _ _ c.seat.invariant.1 c.take-book.ensures.took record { rest = c.args.event ∷ []; is = more }),
    )

pub returns-in-Err-clause-err : goal.returns-in-Err-clause-err
returns-in-Err-clause-err g c = let b = g.B.Chronicle in let same = c.reserve.ensures.same in (
  refl,
  refl,
  nothing_entered b.entries b.setting b.actor_of (IsSound b.may_push) c.seat.inside.seat c.give.new.seat _ _ _ _ _ c.seat.view_is
      (told b.entries b.setting b.actor_of (IsSound b.may_push) _ _ _ _ _ _ _ _ c.seat.invariant.1 c.take-book.ensures.took c.give.ensures.gave) same.0,
)

pub returns-in-Ok-clause-ok : goal.returns-in-Ok-clause-ok
returns-in-Ok-clause-ok g c = let b = g.B.Chronicle in let same = c.reserve.ensures.same in
    entered b.entries b.setting b.actor_of (IsSound b.may_push) c.seat.inside.seat c.give-in-Ok.new.seat _ _ _ _ _ _ _ c.seat.view_is
    (told b.entries b.setting b.actor_of (IsSound b.may_push) _ _ _ _ _ _ _ _ c.seat.invariant.1 c.take-book.ensures.took c.give-in-Ok.ensures.gave)
    (c.add.ensures.entry ∙ ap (λ z. z ++ c.args.event ∷ []) same.0) (c.requires.own ∙ sym (ap (λ z. z.number) c.seat.view_is)) c.len-number.ensures.count

pub returns-in-Err-clause-same : goal.returns-in-Err-clause-same
returns-in-Err-clause-same g c = let b = g.B.Chronicle in
    same_sitting b.entries b.setting b.actor_of (IsSound b.may_push) c.seat.inside.seat c.give.new.seat _ _ _ _ 0 _ _ _ c.seat.view_is c.seat.invariant.1 c.take-book.ensures.took c.give.ensures.gave (c.give.ensures.same.0 ∙ c.take-book.ensures.same.0)

pub returns-in-Ok-clause-same : goal.returns-in-Ok-clause-same
returns-in-Ok-clause-same g c = let b = g.B.Chronicle in
    same_sitting b.entries b.setting b.actor_of (IsSound b.may_push) c.seat.inside.seat c.give-in-Ok.new.seat _ _ _ _ 0 _ _ _ c.seat.view_is c.seat.invariant.1 c.take-book.ensures.took c.give-in-Ok.ensures.gave (c.give-in-Ok.ensures.same.0 ∙ c.take-book.ensures.same.0)

pub returns-in-Err-clause-knows : goal.returns-in-Err-clause-knows
returns-in-Err-clause-knows g c = let b = g.B.Chronicle in let same = c.reserve.ensures.same in
    knows b.actor_of (IsSound b.may_push) c.give.new.seat _ _ _ refl (
      c.seat.invariant.0,
      rests_again b.entries b.setting b.actor_of (IsSound b.may_push) _ _ _ _ _ _ _ _ _ c.seat.invariant.1 c.take-book.ensures.took c.give.ensures.gave
          (subst (IsSound b.may_push (b.setting c.take-book.result)) (sym same.0) c.len-number.ensures.sound)
          (looked_within b.entries b.setting b.actor_of (IsSound b.may_push) _ _ _ _ _ _ _ c.seat.invariant.1 c.take-book.ensures.took record { rest = []; is = search rules }),
    )

pub returns-in-Ok-clause-knows : goal.returns-in-Ok-clause-knows
returns-in-Ok-clause-knows g c = let b = g.B.Chronicle in let same = c.reserve.ensures.same in
    let more : b.entries c.add.new.book ≡ b.entries c.take-book.result ++ c.args.event ∷ [] = c.add.ensures.entry ∙ ap (λ z. z ++ c.args.event ∷ []) same.0 in
    let p = pushes b.entries b.setting b.actor_of b.may_push g.met.B.Chronicle.lasts c.seat.inside.seat _ _ _ _ _ c.args.event c.args.outputs _ c.seat.view_is c.seat.invariant c.take-book.ensures.took c.requires.own c.requires.may
    c.len-number.ensures.sound same.0 same.1 (g.met.B.Chronicle.roomy _ c.args.outputs c.in-Ok.ensures.room) in
    knows b.actor_of (IsSound b.may_push) c.give-in-Ok.new.seat _ _ _ refl (
      c.seat.invariant.0,
      rests_again b.entries b.setting b.actor_of (IsSound b.may_push) _ _ _ _ _ _ _ _ _ c.seat.invariant.1 c.take-book.ensures.took c.give-in-Ok.ensures.gave
          (subst (IsSound b.may_push (b.setting c.take-book.result)) (sym more) p.2)
          (looked_within b.entries b.setting b.actor_of (IsSound b.may_push) _ _ _ _ _ _ _ c.seat.invariant.1 c.take-book.ensures.took record { rest = c.args.event ∷ []; is = more }),
    )
