use Rattle.std.proofs.Common.{List, length, ap}
use Rattle.fal_base.specs.declared.event.Envelope.{Envelope}
use Rattle.fal_story.specs.Actors.{actor_of}
use Rattle.fal_story.specs.Fresh.{came, due}
use Rattle.fal_alone.specs.Queues.{actor_at}
use Rattle.fal_alone.specs.Turns.{told_envelopes, sent_count}
use Rattle.fal_alone.proofs.Following.{after_event, held_rises, front_held, rest_fresh, rest_fits}
use Rattle.fal_alone.proofs.follow.follow.Goals as goal

pub settle-requires-clause-rises : goal.settle-requires-clause-rises
settle-requires-clause-rises g c =
    let told = c.args.book.now.told in
    let lanes = c.args.counts.lanes in
    held_rises lanes told c.turn.new.queues (c.turn.ensures.queues (λ place. due (actor_at lanes place) (came told.events) (told_envelopes told)) c.requires.queues)

pub catch_up-requires-clause-queues : goal.catch_up-requires-clause-queues
catch_up-requires-clause-queues g c =
    let told = c.args.book.now.told in
    let lanes = c.args.counts.lanes in
    let after = after_event c.args.book.now.told c.turn.new.book.told c.args.event (length c.sent-from.result.now) (actor_of c.args.event) (g.R.Role.machine c.turn.new.actor) c.in_ok-turn.ensures.book (ap (λ (xs : List Envelope). length xs) c.sent-from.ensures) c.in_ok-turn.ensures.next in
    let held = c.turn.ensures.queues (λ place. due (actor_at lanes place) (came told.events) (told_envelopes told)) c.requires.queues in
    front_held lanes (length c.sent-from.result.now) told c.turn.new.book.told c.args.event c.settle.new.queues after (c.settle.ensures.items (came told.events) (told_envelopes told) c.in_ok-turn.ensures.takes held)

pub catch_up-requires-clause-fresh : goal.catch_up-requires-clause-fresh
catch_up-requires-clause-fresh g c =
    let after = after_event c.args.book.now.told c.turn.new.book.told c.args.event (length c.sent-from.result.now) (actor_of c.args.event) (g.R.Role.machine c.turn.new.actor) c.in_ok-turn.ensures.book (ap (λ (xs : List Envelope). length xs) c.sent-from.ensures) c.in_ok-turn.ensures.next in
    rest_fresh (length c.sent-from.result.now) c.args.book.now.told c.turn.new.book.told c.args.event after c.legal.ensures c.in_ok-turn.ensures.takes

pub catch_up-requires-clause-room : goal.catch_up-requires-clause-room
catch_up-requires-clause-room g c =
    let told = c.args.book.now.told in
    let after = after_event c.args.book.now.told c.turn.new.book.told c.args.event (length c.sent-from.result.now) (actor_of c.args.event) (g.R.Role.machine c.turn.new.actor) c.in_ok-turn.ensures.book (ap (λ (xs : List Envelope). length xs) c.sent-from.ensures) c.in_ok-turn.ensures.next in
    rest_fits (length c.sent-from.result.now) told c.turn.new.book.told c.args.event c.settle.new.queues after (c.settle.ensures.room (sent_count told c.args.event) c.in_ok-turn.ensures.room)
