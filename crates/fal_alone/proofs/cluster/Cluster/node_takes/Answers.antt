use Rattle.std.proofs.Common.{◌≡◌, false, refl, ◌∙◌, rules, length, sym, ap, subst, arith}
use Rattle.std.specs.Prelude.{IsNone}
use Rattle.std.proofs.lemmas.Bool.Decides.{nat_tests}
use Rattle.std.proofs.lemmas.Option.{slice_get-get_or}
use Rattle.fal_base.specs.declared.event.Actor.TheVariants.{Node}
use Rattle.fal_node.specs.Patch.{SeenNode}
use Rattle.fal_story.specs.Clusters.{is_node}
use Rattle.fal_story.specs.Fresh.{came}
use Rattle.fal_story.specs.Told.{Told}
use Rattle.fal_alone.specs.Queues.{HoldDue}
use Rattle.fal_alone.specs.Turns.{IsEventOfNode, told_envelopes, with_event, deed_after}
use Rattle.fal_alone.proofs.OwnEvents.{node_own, node_absent, node_by}
use Rattle.fal_alone.proofs.Ranged.{node_stays_within}
use Rattle.fal_alone.proofs.Wholes.{node_same, node_next, node_at, node_is}
use Rattle.fal_alone.proofs.cluster.Cluster.node_takes.Goals as goal

-- the node is not there
pub returns-then-place-counts-clause-refused : goal.returns-then-place-counts-clause-refused
returns-then-place-counts-clause-refused c =
    let told = c.self.inside.book.told in
    let count = c.self.invariant.nodes_count in
    let beyond = c.if-place-counts.true in
    let gone : is_node told.config c.args.number ≡ false = grind (arith, nat_tests) in
    let is = subst (λ (t : Told). IsEventOfNode t c.args.event c.args.number c.args.own) (sym c.self.view_is) c.requires in
    let none = node_absent told c.args.event c.args.number c.args.own is gone in
    (λ refused. subst (λ (t : Told). IsNone (deed_after t c.args.event)) c.self.view_is none, λ nothing. refl)

pub follow-requires-clause-is : goal.follow-requires-clause-is
follow-requires-clause-is c =
    let inside = c.self.inside in
    let place = c.from-place.result in
    let slot = slice_get-get_or inside.nodes.items place c.index_mut-node.result.now (search rules) in
    let at = node_at inside.book.told inside.clients.items inside.nodes.items inside.coord.state inside.queues.items c.self.invariant c.args.number place _ _ (search rules) slot c.index_mut-node.ensures.value in
    let is = subst (λ (t : Told). IsEventOfNode t c.args.event c.args.number c.args.own) (sym c.self.view_is) c.requires in
    node_own inside.book.told c.args.event c.args.number c.args.own is _ at.0 at.1

pub follow-requires-clause-can : goal.follow-requires-clause-can
follow-requires-clause-can c =
    let inside = c.self.inside in
    let place = c.from-place.result in
    let slot = slice_get-get_or inside.nodes.items place c.index_mut-node.result.now (search rules) in
    let at = node_at inside.book.told inside.clients.items inside.nodes.items inside.coord.state inside.queues.items c.self.invariant c.args.number place _ _ (search rules) slot c.index_mut-node.ensures.value in
    let is = subst (λ (t : Told). IsEventOfNode t c.args.event c.args.number c.args.own) (sym c.self.view_is) c.requires in
    node_stays_within inside.book.told c.args.event c.args.number c.args.own _ c.legal.ensures at.0 is at.1

pub invariant_of-self : goal.invariant_of-self
invariant_of-self c =
    let inside = c.self.inside in
    let place = c.from-place.result in
    let slot = slice_get-get_or inside.nodes.items place c.index_mut-node.result.now (search rules) in
    let same = node_is _ _ c.in_err-follow.ensures.same_actor ∙ ap (λ (n : SeenNode). n.state) c.index_mut-node.ensures.value in
    node_same inside.book.told inside.clients.items inside.nodes.items inside.coord.state inside.queues.items c.self.invariant c.follow.new.book.told _ c.follow.new.queues inside.queues.len (search rules) (search rules)
    c.as_mut_slice.ensures.value c.in_err-follow.ensures.same_book c.in_err-follow.ensures.same_queues place _ c.follow.new.actor slot same

pub invariant_of-self-2 : goal.invariant_of-self-2
invariant_of-self-2 c =
    let inside = c.self.inside in
    let told = inside.book.told in
    let event = c.args.event in
    let place = c.from-place.result in
    let slot = slice_get-get_or inside.nodes.items place c.index_mut-node.result.now (search rules) in
    let number : c.args.number ≡ place = search rules in
    let lanes : c.len.result ≡ length told.config.lanes = search rules in
    let by = node_by told event c.args.number c.args.own (subst (λ (t : Told). IsEventOfNode t event c.args.number c.args.own) (sym c.self.view_is) c.requires) in
    let held = subst (λ n. HoldDue n (came (with_event told event).events) (told_envelopes (with_event told event)) c.follow.new.queues) lanes c.in_ok-follow.ensures.queues in
    node_next told inside.clients.items inside.nodes.items inside.coord.state inside.queues.items c.self.invariant c.follow.new.book.told _ c.follow.new.queues inside.queues.len (search rules) (search rules)
    c.as_mut_slice.ensures.value event c.in_ok-follow.ensures.book held place _ c.follow.new.actor slot (by ∙ ap Node number) c.in_ok-follow.ensures.next
