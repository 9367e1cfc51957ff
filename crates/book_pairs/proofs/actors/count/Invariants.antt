use Rattle.std.proofs.Common.{◌≡◌, length}
use Rattle.fal_book.specs.Sitting.{IsSameSitting}
use Rattle.book_pairs.proofs.actors.count.Given as goal

abbrev pub invariant-loop-number : goal.invariant-loop-number
invariant-loop-number g l = record {
  same : IsSameSitting l.fn.seat l.seat;
  mine : length l.seat.mine ≡ l.number;
}
