use Rattle.std.proofs.Common.{◌≡◌, ◌≤◌, [], Some, map, ◌+◌, ◌-◌}
use Rattle.std.specs.Prelude.{vec_len, vec_capacity}
use Rattle.std.specs.List.{range_with_len}
use Rattle.fal_book.specs.Sitting.{first_view, newcomer}
use Rattle.fal_book.proofs.opening.seat_all.Given as goal

abbrev pub invariant-loop-number : goal.invariant-loop-number
invariant-loop-number g l = let b = g.B.Chronicle in let c = b.setting l.opened.value in let es = b.entries l.opened.value in record {
  same : l.first.table_id ≡ l.board.table_id;
  first : l.first.me ≡ (Some (first_view b.actor_of c es l.number), []);
  seats : l.seats.items ≡ map (newcomer b.actor_of c es l.board.table_id) (range_with_len 1 (l.number - 1));
  len : vec_len l.seats + 1 ≡ l.number;
  room : l.actors ≤ vec_capacity l.seats;
}
