use Rattle.std.proofs.Common.{All}
use Rattle.book_runs.specs.Posts.{IsAt}
use Rattle.book_runs.proofs.posts.seats_of.Given as goal

abbrev pub invariant-loop-post : goal.invariant-loop-post
invariant-loop-post l = record {
  left : All (IsAt l.lock.table) l.post-iterator.rest.items;
  clients : All (IsAt l.lock.table) l.clients.items;
  seats : All (IsAt l.lock.table) l.seats.items;
}

abbrev pub invariant-loop-post-2 : goal.invariant-loop-post-2
invariant-loop-post-2 l = record {
  left : All (IsAt l.lock.table) l.post-iterator.rest.items;
  seats : All (IsAt l.lock.table) l.seats.items;
}
