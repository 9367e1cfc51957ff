use Rattle.std.proofs.Common.{◌≡◌, ◌++◌, length, sym, ap, ◌∙◌, rules}
use Rattle.std.specs.Prelude.{slice_get}
use Rattle.fal_story.specs.Fresh.{first_reply}
use Rattle.fal_story.specs.Told.{Told}
use Rattle.fal_alone.proofs.FreshRuns.{replies_are}
use Rattle.fal_alone.proofs.Pushes.{first_front, first_back}
use Rattle.fal_alone.specs.Shown.{all_gets, all_node_events, coord_events}
use Rattle.fal_alone.proofs.cluster.Cluster.enabled.Goals as goal

pub returns-in-Some : goal.returns-in-Some
returns-in-Some c =
    let inside = c.self.inside in
    let told = inside.book.told in
    let xs = c.split.result.0.now in
    let q = c.split.result.1.now in
    let ys = c.split.result.2.now in
    let count : length xs ≡ length inside.clients.items = search rules in
    let lanes = all_gets 1 xs in
    let nodes = all_node_events 0 ys inside.nodes.items in
    first_front (lanes ++ nodes) (coord_events q inside.coord.state) c.in-Some.event (first_front lanes nodes c.in-Some.event (sym c.in-Some.is ∙ c.first_of_lanes.ensures))
    ∙ ap (λ events. slice_get events 0) (replies_are told.config told.events inside.clients.items inside.nodes.items inside.coord.state inside.queues.items xs q ys c.self.invariant (sym c.deref.ensures.value ∙ c.split.ensures.all) count)
    ∙ ap (λ (t : Told). first_reply t.config t.events) c.self.view_is

pub returns-in-Some-first_of_nodes : goal.returns-in-Some-first_of_nodes
returns-in-Some-first_of_nodes c =
    let inside = c.self.inside in
    let told = inside.book.told in
    let xs = c.split.result.0.now in
    let q = c.split.result.1.now in
    let ys = c.split.result.2.now in
    let count : length xs ≡ length inside.clients.items = search rules in
    let lanes = all_gets 1 xs in
    let nodes = all_node_events 0 ys inside.nodes.items in
    let event = c.in-Some-first_of_nodes.event in
    let first = sym c.in-Some-first_of_nodes.is ∙ c.first_of_nodes.ensures ∙ ap (λ ns. slice_get (all_node_events 0 ys ns) 0) c.deref-in-None.ensures.value in
    first_front (lanes ++ nodes) (coord_events q inside.coord.state) event (first ∙ sym (first_back lanes nodes (sym c.in-None.is ∙ c.first_of_lanes.ensures)))
    ∙ ap (λ events. slice_get events 0) (replies_are told.config told.events inside.clients.items inside.nodes.items inside.coord.state inside.queues.items xs q ys c.self.invariant (sym c.deref.ensures.value ∙ c.split.ensures.all) count)
    ∙ ap (λ (t : Told). first_reply t.config t.events) c.self.view_is

pub returns-in-None-first_of_nodes : goal.returns-in-None-first_of_nodes
returns-in-None-first_of_nodes c =
    let inside = c.self.inside in
    let told = inside.book.told in
    let xs = c.split.result.0.now in
    let q = c.split.result.1.now in
    let ys = c.split.result.2.now in
    let count : length xs ≡ length inside.clients.items = search rules in
    let lanes = all_gets 1 xs in
    let nodes = all_node_events 0 ys inside.nodes.items in
    let no_node = sym c.in-None-first_of_nodes.is ∙ c.first_of_nodes.ensures ∙ ap (λ ns. slice_get (all_node_events 0 ys ns) 0) c.deref-in-None.ensures.value in
    let none = no_node ∙ sym (first_back lanes nodes (sym c.in-None.is ∙ c.first_of_lanes.ensures)) in
    c.first_at_coord.ensures ∙ sym (first_back (lanes ++ nodes) (coord_events q inside.coord.state) none)
    ∙ ap (λ events. slice_get events 0) (replies_are told.config told.events inside.clients.items inside.nodes.items inside.coord.state inside.queues.items xs q ys c.self.invariant (sym c.deref.ensures.value ∙ c.split.ensures.all) count)
    ∙ ap (λ (t : Told). first_reply t.config t.events) c.self.view_is
