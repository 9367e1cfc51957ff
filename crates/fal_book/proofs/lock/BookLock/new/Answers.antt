use Rattle.std.proofs.Common.{arith, ◌∙◌, ◌<◌, sym, subst, ap, Some, [], ◌∷◌, ◌++◌, List}
use Rattle.std.specs.Prelude.{Option}
use Rattle.atomic_table.specs.Table.{opening}
use Rattle.fal_book.specs.Entries.{IsSound}
use Rattle.fal_book.specs.Rule.{IsKept}
use Rattle.fal_book.specs.Steps.{opening_view}
use Rattle.fal_book.proofs.Seats.{starts}
use Rattle.fal_book.proofs.Newcomers.{all_know}
use Rattle.fal_book.proofs.lock.BookLock.new.Goals as goal

pub new-requires : goal.new-requires
new-requires g c = let b = g.B.Chronicle in
    let few : c.args.actors < 256 = omega arith in
    let first = starts b.entries b.setting b.actor_of (IsSound b.may_push) record { actors = c.args.actors; book = c.of.result } c.args.book c.of.ensures (omega (arith, c.requires)) few c.len.ensures.sound in
    let P : List (Option g.row.B.Denot) → Type 0 = λ xs. IsKept b.entries b.setting b.actor_of (IsSound b.may_push) record { actors = c.args.actors; book = c.of.result } (opening (0 ∷ 0 ∷ []) xs (opening_view b.entries b.setting b.actor_of record { actors = c.args.actors; book = c.of.result })) in
    subst P (sym (c.push_reserved.ensures.items ∙ ap (λ z. z ++ Some c.args.book ∷ []) c.in-Ok-with_capacity.ensures.items)) first

pub returns-clause-knows : goal.returns-clause-knows
returns-clause-knows g c = let b = g.B.Chronicle in
    all_know b.actor_of (IsSound b.may_push) (b.setting c.of-opened.result.value) (b.entries c.of-opened.result.value) _ _ _ c.seat_all-seats.ensures
    (subst (λ z. IsSound b.may_push (b.setting z) (b.entries z)) (sym c.of-opened.ensures) c.len.ensures.sound)
