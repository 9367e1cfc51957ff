use Rattle.std.proofs.Common.{All}
use Rattle.book_runs.specs.Posts.{IsNewAt}
use Rattle.book_runs.specs.Whole.{AreAt}
use Rattle.book_runs.proofs.posts.post_all.Given as goal

abbrev pub invariant-loop-seat : goal.invariant-loop-seat
invariant-loop-seat l = record {
  left : All (IsNewAt l.config l.lock.table) l.seat-iterator.rest.items;
  at : AreAt l.lock.table l.posts;
}
