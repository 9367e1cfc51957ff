use Rattle.book_runs.specs.Posts.{IsNewAt}
use Rattle.book_runs.proofs.Opened.{behind}
use Rattle.book_runs.proofs.posts.post_all.Goals as goal

pub loop-seat-preserved : goal.loop-seat-preserved
loop-seat-preserved c = record {
  left = behind (IsNewAt c.args.config.now c.args.lock.now.table) c.in-Some.seat c.next.new.self.rest.items c.loop-seat.seat-iterator.rest.items c.in-Some.ensures.steps.0 c.loop-seat.invariant.left;
  at = c.give.ensures;
}
