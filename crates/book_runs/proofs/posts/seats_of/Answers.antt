use Rattle.std.proofs.Common.{sym, subst}
use Rattle.book_runs.specs.Posts.{IsAt}
use Rattle.book_runs.proofs.Opened.{behind, first_of, one_more}
use Rattle.book_runs.proofs.posts.seats_of.Goals as goal

pub loop-post-preserved : goal.loop-post-preserved
loop-post-preserved c =
    let at = IsAt c.args.lock.now.table in
    record {
      left = behind at c.in-Some.post c.next.new.self.rest.items c.loop-post.post-iterator.rest.items c.in-Some.ensures.steps.0 c.loop-post.invariant.left;
      clients = c.requires.clients;
      seats = one_more at c.into_seat.result c.loop-post.seats.items c.push.new.self.items c.in_ok-push.ensures.items c.loop-post.invariant.seats
          (subst at (sym c.into_seat.ensures) (first_of at c.in-Some.post c.next.new.self.rest.items c.loop-post.post-iterator.rest.items c.in-Some.ensures.steps.0 c.loop-post.invariant.left));
    }

pub loop-post-2-preserved : goal.loop-post-2-preserved
loop-post-2-preserved c =
    let at = IsAt c.args.lock.now.table in
    record {
      left = behind at c.in-Some-post.post c.next-in-loop-post-2.new.self.rest.items c.loop-post-2.post-iterator.rest.items c.in-Some-post.ensures.steps.0 c.loop-post-2.invariant.left;
      seats = one_more at c.into_seat-in-loop-post-2.result c.loop-post-2.seats.items c.push-in-loop-post-2.new.self.items c.in_ok-push-2.ensures.items c.loop-post-2.invariant.seats
          (subst at (sym c.into_seat-in-loop-post-2.ensures) (first_of at c.in-Some-post.post c.next-in-loop-post-2.new.self.rest.items c.loop-post-2.post-iterator.rest.items c.in-Some-post.ensures.steps.0 c.loop-post-2.invariant.left));
    }
