use Rattle.std.proofs.Common.{◌≡◌, ◌<◌, ◌+◌, ◌-◌, ◌∙◌, rules, take, length, subst, arith}
use Rattle.fal_story.specs.Fresh.{came, due}
use Rattle.fal_alone.specs.Queues.{actor_at, HaveRoom}
use Rattle.fal_alone.proofs.Places.{due_given}
use Rattle.fal_alone.proofs.queues.catch_up.Goals as goal

pub loop-i-preserved : goal.loop-i-preserved
loop-i-preserved c =
    let seen = came c.args.book.now.told.events in
    let sent = c.sent-sent.result.now in
    let i = c.loop-i.i in
    let below : i < length sent = search rules in
    let less : length sent - i ≡ length sent - (i + 1) + 1 = omega arith in
    record {
      queues = λ j q at. c.give.ensures.items (λ j. due (actor_at c.args.lanes j) seen (take i sent)) c.loop-i.invariant.queues j q at ∙ due_given c.args.lanes j i seen sent _ below (c.requires.fresh i (search rules));
      room = c.give.ensures.room (length sent - (i + 1)) (subst (λ n. HaveRoom n c.loop-i.queues) less c.loop-i.invariant.room);
    }
