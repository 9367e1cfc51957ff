-- All actors of a cluster at one lock.
use Rattle.std.specs.List.{All}
use Rattle.std.specs.Option.{ForSome}
use Rattle.atomic_table.specs.Seated.{TableId}
use Rattle.book_runs.specs.declared.posts.Posts.{Posts}
use Rattle.book_runs.specs.Posts.{IsAt}

-- all actors and all other seats are at this lock
pub record AreAt (lock : TableId) (posts : Posts) : Type 0 where
  pub nodes : All (IsAt lock) posts.nodes.items
  pub clients : All (IsAt lock) posts.clients.items
  pub coord : ForSome posts.coord (IsAt lock)
  pub rest : All (IsAt lock) posts.rest.items
