use Rattle.std.proofs.Common.{◌≡◌, false, refl, ◌+◌, ◌-◌, ◌∙◌, rules, length, sym, ap, subst, arith}
use Rattle.std.specs.Prelude.{IsNone}
use Rattle.std.proofs.lemmas.Bool.Decides.{nat_tests}
use Rattle.std.proofs.lemmas.Option.{slice_get-get_or}
use Rattle.fal_base.specs.declared.event.Actor.TheVariants.{Client}
use Rattle.fal_story.specs.Clusters.{is_lane}
use Rattle.fal_story.specs.Fresh.{came}
use Rattle.fal_story.specs.Told.{Told}
use Rattle.fal_alone.specs.Queues.{HoldDue}
use Rattle.fal_alone.specs.Turns.{IsEventOfClient, told_envelopes, with_event, deed_after}
use Rattle.fal_alone.proofs.OwnEvents.{client_own, client_absent, client_by}
use Rattle.fal_alone.proofs.Ranged.{client_can_make}
use Rattle.fal_alone.proofs.Wholes.{client_same, client_next, client_at, client_is}
use Rattle.fal_alone.proofs.cluster.Cluster.client_takes.Goals as goal
use Rattle.fal_alone.proofs.cluster.Cluster.client_takes.Goals.{then-place-lt1-via-then-place-lt1, then-place-lt1-via-else-place-lt1+then-place-counts}

-- the lane is not there
pub returns-then-place-lt1-clause-refused : goal.returns-then-place-lt1-clause-refused
returns-then-place-lt1-clause-refused c =
    let told = c.self.inside.book.told in
    let lanes = c.self.invariant.clients_count in
    let gone : is_lane told.config c.args.lane ≡ false =
    elim c.then-place-lt1.branch [
      | then-place-lt1-via-then-place-lt1 w ↦ grind (arith, nat_tests)
      | then-place-lt1-via-else-place-lt1+then-place-counts w ↦ grind (arith, nat_tests)
    ] in
    let is = subst (λ (t : Told). IsEventOfClient t c.args.event c.args.lane c.args.own) (sym c.self.view_is) c.requires in
    let none = client_absent told c.args.event c.args.lane c.args.own is gone in
    (λ refused. subst (λ (t : Told). IsNone (deed_after t c.args.event)) c.self.view_is none, λ nothing. refl)

pub follow-requires-clause-is : goal.follow-requires-clause-is
follow-requires-clause-is c =
    let inside = c.self.inside in
    let place = c.from-place.result - 1 in
    let slot = slice_get-get_or inside.clients.items place c.index_mut-client.result.now (search rules) in
    let at = client_at inside.book.told inside.clients.items inside.nodes.items inside.coord.state inside.queues.items c.self.invariant c.args.lane place _ _ (search rules) slot c.index_mut-client.ensures.value in
    let is = subst (λ (t : Told). IsEventOfClient t c.args.event c.args.lane c.args.own) (sym c.self.view_is) c.requires in
    client_own inside.book.told c.args.event c.args.lane c.args.own is _ at.0 at.1

pub follow-requires-clause-can : goal.follow-requires-clause-can
follow-requires-clause-can c =
    let inside = c.self.inside in
    let place = c.from-place.result - 1 in
    let slot = slice_get-get_or inside.clients.items place c.index_mut-client.result.now (search rules) in
    let at = client_at inside.book.told inside.clients.items inside.nodes.items inside.coord.state inside.queues.items c.self.invariant c.args.lane place _ _ (search rules) slot c.index_mut-client.ensures.value in
    let is = subst (λ (t : Told). IsEventOfClient t c.args.event c.args.lane c.args.own) (sym c.self.view_is) c.requires in
    client_can_make inside.book.told c.args.event c.args.lane c.args.own _ c.legal.ensures at.0 is at.1

pub invariant_of-self : goal.invariant_of-self
invariant_of-self c =
    let inside = c.self.inside in
    let place = c.from-place.result - 1 in
    let slot = slice_get-get_or inside.clients.items place c.index_mut-client.result.now (search rules) in
    client_same inside.book.told inside.clients.items inside.nodes.items inside.coord.state inside.queues.items c.self.invariant c.follow.new.book.told _ c.follow.new.queues inside.queues.len (search rules) (search rules)
    c.as_mut_slice.ensures.value c.in_err-follow.ensures.same_book c.in_err-follow.ensures.same_queues place _ c.follow.new.actor slot (client_is _ _ c.in_err-follow.ensures.same_actor ∙ c.index_mut-client.ensures.value)

pub invariant_of-self-2 : goal.invariant_of-self-2
invariant_of-self-2 c =
    let inside = c.self.inside in
    let told = inside.book.told in
    let event = c.args.event in
    let place = c.from-place.result - 1 in
    let slot = slice_get-get_or inside.clients.items place c.index_mut-client.result.now (search rules) in
    let number : c.args.lane ≡ place + 1 = search rules in
    let lanes : c.len.result ≡ length told.config.lanes = search rules in
    let by = client_by told event c.args.lane c.args.own (subst (λ (t : Told). IsEventOfClient t event c.args.lane c.args.own) (sym c.self.view_is) c.requires) in
    let held = subst (λ n. HoldDue n (came (with_event told event).events) (told_envelopes (with_event told event)) c.follow.new.queues) lanes c.in_ok-follow.ensures.queues in
    client_next told inside.clients.items inside.nodes.items inside.coord.state inside.queues.items c.self.invariant c.follow.new.book.told _ c.follow.new.queues inside.queues.len (search rules) (search rules)
    c.as_mut_slice.ensures.value event c.in_ok-follow.ensures.book held place _ c.follow.new.actor slot (by ∙ ap Client number) c.in_ok-follow.ensures.next
