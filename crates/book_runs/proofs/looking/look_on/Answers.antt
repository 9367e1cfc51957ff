use Rattle.std.proofs.Common.{sym, subst}
use Rattle.book_runs.specs.Posts.{IsPost}
use Rattle.book_runs.proofs.Kept.{has_looked, nothing_entered}
use Rattle.book_runs.proofs.looking.look_on.Goals as goal

pub returns-in-Ok-clause-kept : goal.returns-in-Ok-clause-kept
returns-in-Ok-clause-kept g c = λ has n m p.
    has_looked has n m c.args.seat.now c.look.new.seat c.args.inbox.now c.look.new.into c.in-Ok.count c.args.seat.now.looked p c.look.ensures.same c.in-Ok.ensures.ok c.in-Ok.ensures.inbox

pub returns-in-Err-clause-kept : goal.returns-in-Err-clause-kept
returns-in-Err-clause-kept g c = λ has n m p.
    subst (λ z. IsPost has n m c.look.new.seat z) (sym c.in-Err.ensures.err.0)
    (nothing_entered has n m c.args.seat.now c.look.new.seat c.args.inbox.now p c.look.ensures.same c.in-Err.ensures.err.1)
