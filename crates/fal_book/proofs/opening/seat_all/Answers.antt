use Rattle.std.proofs.Common.{rules, arith, ◌∙◌}
use Rattle.fal_book.specs.Entries.{IsSound}
use Rattle.fal_book.specs.Sitting.{newcomer}
use Rattle.fal_book.proofs.Newcomers.{may_make, first_sits, new_sits, next_first, new_newcomer, one_more}
use Rattle.fal_book.proofs.opening.seat_all.Goals as goal

pub make-seat-requires-clause-may : goal.make-seat-requires-clause-may
make-seat-requires-clause-may g c = let b = g.B.Chronicle in let k = c.requires.board.2 in may_make b.entries b.setting b.actor_of (IsSound b.may_push) _ _ _ _ c.loop-number.invariant.first _ (omega (arith, c.requires.board.3))

pub new-requires : goal.new-requires
new-requires g c = let b = g.B.Chronicle in new_sits b.entries b.setting b.actor_of (IsSound b.may_push) _ _ _ _ c.loop-number.invariant.first _ c.make-seat.ensures.right c.requires.sound

pub loop-number-preserved : goal.loop-number-preserved
loop-number-preserved g c = let b = g.B.Chronicle in let i = c.loop-number.invariant in let a = c.loop-number.auto.number in record {
  same = search rules;
  first = next_first b.entries b.setting b.actor_of (IsSound b.may_push) _ _ _ _ i.first _ c.make-seat.ensures.left;
  seats = one_more (newcomer b.actor_of (b.setting c.args.opened.now.value) (b.entries c.args.opened.now.value) c.args.board.now.table_id) _ _ c.loop-number.number _ (omega arith) i.seats c.push_reserved.ensures.items
      (c.new.ensures ∙ new_newcomer b.entries b.setting b.actor_of (IsSound b.may_push) _ _ _ _ i.first c.make-seat.result c.args.board.now.table_id (search rules) c.make-seat.ensures.right);
  len = search rules;
  room = search rules;
}

pub new-requires-2 : goal.new-requires-2
new-requires-2 g c = let b = g.B.Chronicle in first_sits b.entries b.setting b.actor_of (IsSound b.may_push) _ _ _ _ c.loop-number.invariant.first c.requires.sound
