use Rattle.book_runs.specs.Whole.{AreAt}
use Rattle.book_runs.proofs.runs.enter_each.Given as goal

abbrev pub invariant-loop-event : goal.invariant-loop-event
invariant-loop-event g l = AreAt l.lock.table l.posts
