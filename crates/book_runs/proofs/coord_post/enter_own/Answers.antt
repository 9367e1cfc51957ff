use Rattle.std.proofs.Common.{sym, ap, ◌∙◌, subst}
use Rattle.std.specs.Prelude.{true}
use Rattle.fal_base.specs.declared.event.Actor.TheVariants.{Coord}
use Rattle.fal_coord.specs.declared.patch.Prepared.{Prepared}
use Rattle.fal_coord.specs.Patch.{patched}
use Rattle.fal_story.specs.Machines.{CoordMachine}
use Rattle.book_runs.specs.Posts.{IsCoordPost}
use Rattle.book_runs.proofs.Coords.{coord_ready, coord_may, coord_owns, coord_entered}
use Rattle.book_runs.proofs.Kept.{nothing_entered}
use Rattle.book_runs.proofs.coord_post.enter_own.Goals as goal

pub ready-requires : goal.ready-requires
ready-requires g c = coord_ready c.args.coord.now.state c.args.seat.now c.args.inbox.now c.args.event c.args.own.now c.requires.post c.number.ensures.knows c.requires.own

pub enter-requires-clause-own : goal.enter-requires-clause-own
enter-requires-clause-own g c = coord_owns c.args.coord.now.state c.args.seat.now c.args.inbox.now c.args.event c.args.own.now c.requires.post c.requires.own

pub enter-requires-clause-may : goal.enter-requires-clause-may
enter-requires-clause-may g c =
    let post = subst (λ z. IsCoordPost z c.args.seat.now c.args.inbox.now) (sym c.ready.ensures.same) c.requires.post in
    coord_may c.ready.new.self c.args.seat.now c.args.inbox.now c.args.event c.args.own.now c.in_ok-prepared.prepared c.take_outputs-outputs.result post c.number.ensures.knows c.requires.own
    c.in_ok-prepared.ensures.ok c.take_outputs-outputs.ensures.outputs

pub returns-in-Ok-clause-post : goal.returns-in-Ok-clause-post
returns-in-Ok-clause-post g c =
    let post = subst (λ z. IsCoordPost z c.args.seat.now c.args.inbox.now) (sym c.ready.ensures.same) c.requires.post in
    let is = c.apply.ensures ∙ ap (λ (p : Prepared). patched c.ready.new.self.state p.patch) c.take_outputs-outputs.ensures.none in
    subst (λ z. IsCoordPost z c.enter.new.seat c.args.inbox.now) (sym is)
    (coord_entered c.ready.new.self c.args.seat.now c.enter.new.seat c.args.inbox.now c.args.event c.args.own.now c.in_ok-prepared.prepared c.in-Ok.at post c.requires.own
    c.in_ok-prepared.ensures.ok c.enter.ensures.same c.in-Ok.ensures.ok)

pub returns-in-Err-clause-post : goal.returns-in-Err-clause-post
returns-in-Err-clause-post g c =
    let post = subst (λ z. IsCoordPost z c.args.seat.now c.args.inbox.now) (sym c.ready.ensures.same) c.requires.post in
    nothing_entered (λ config. true) Coord (CoordMachine c.ready.new.self.state) c.args.seat.now c.enter.new.seat c.args.inbox.now post c.enter.ensures.same c.in-Err.ensures.err.2
