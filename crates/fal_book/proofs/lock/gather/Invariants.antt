use Rattle.std.proofs.Common.{◌≡◌, List, ◌++◌}
use Rattle.std.specs.Prelude.{All}
use Rattle.fal_book.specs.Sitting.{Sitting}
use Rattle.fal_book.specs.Gathers.{Gathered}
use Rattle.fal_book.proofs.lock.gather.Given as goal

abbrev pub invariant-loop-other : goal.invariant-loop-other
invariant-loop-other g l = record {
  same : l.first.table_id ≡ l.board.table_id;
  own : All (λ s. s.lock ≡ l.board.table_id) l.seats.items;
  done : (done : List (Sitting g.row.B-Event.Denot g.row.B-Setting.Denot)) × (l.fn.seats.items ≡ l.seats.items ++ done) × Gathered done l.first.me;
}

abbrev pub decreases-loop-other : goal.decreases-loop-other
decreases-loop-other g l = goal.left-loop-other g l
