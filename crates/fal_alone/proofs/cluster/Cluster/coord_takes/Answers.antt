use Rattle.std.proofs.Common.{◌≡◌, rules, length, sym, subst}
use Rattle.fal_story.specs.Fresh.{came}
use Rattle.fal_story.specs.Told.{Told}
use Rattle.fal_alone.specs.Queues.{HoldDue}
use Rattle.fal_alone.specs.Turns.{IsEventOfCoord, told_envelopes, with_event}
use Rattle.fal_alone.proofs.OwnEvents.{coord_own, coord_by}
use Rattle.fal_alone.proofs.Ranged.{coord_can_make}
use Rattle.fal_alone.proofs.Wholes.{coord_same, coord_next, coord_at, coord_is}
use Rattle.fal_alone.proofs.cluster.Cluster.coord_takes.Goals as goal

pub follow-requires-clause-is : goal.follow-requires-clause-is
follow-requires-clause-is c =
    let inside = c.self.inside in
    let at = coord_at inside.book.told inside.clients.items inside.nodes.items inside.coord.state inside.queues.items c.self.invariant in
    let is = subst (λ (t : Told). IsEventOfCoord t c.args.event c.args.own) (sym c.self.view_is) c.requires in
    coord_own inside.book.told c.args.event c.args.own is inside.coord.state at

pub follow-requires-clause-can : goal.follow-requires-clause-can
follow-requires-clause-can c =
    let inside = c.self.inside in
    let at = coord_at inside.book.told inside.clients.items inside.nodes.items inside.coord.state inside.queues.items c.self.invariant in
    let is = subst (λ (t : Told). IsEventOfCoord t c.args.event c.args.own) (sym c.self.view_is) c.requires in
    coord_can_make inside.book.told c.args.event c.args.own inside.coord.state c.legal.ensures is at

pub invariant_of-self : goal.invariant_of-self
invariant_of-self c =
    let inside = c.self.inside in
    coord_same inside.book.told inside.clients.items inside.nodes.items inside.coord.state inside.queues.items c.self.invariant c.follow.new.book.told _ c.follow.new.queues inside.queues.len (search rules) (search rules)
    c.as_mut_slice.ensures.value c.in_err-follow.ensures.same_book c.in_err-follow.ensures.same_queues c.follow.new.actor.state (coord_is _ _ c.in_err-follow.ensures.same_actor)

pub invariant_of-self-2 : goal.invariant_of-self-2
invariant_of-self-2 c =
    let inside = c.self.inside in
    let told = inside.book.told in
    let event = c.args.event in
    let lanes : c.len.result ≡ length told.config.lanes = search rules in
    let by = coord_by told event c.args.own (subst (λ (t : Told). IsEventOfCoord t event c.args.own) (sym c.self.view_is) c.requires) in
    let held = subst (λ n. HoldDue n (came (with_event told event).events) (told_envelopes (with_event told event)) c.follow.new.queues) lanes c.in_ok-follow.ensures.queues in
    coord_next told inside.clients.items inside.nodes.items inside.coord.state inside.queues.items c.self.invariant c.follow.new.book.told _ c.follow.new.queues inside.queues.len (search rules) (search rules)
    c.as_mut_slice.ensures.value event c.in_ok-follow.ensures.book held c.follow.new.actor.state by c.in_ok-follow.ensures.next
