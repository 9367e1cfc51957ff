use Rattle.std.proofs.Common.{◌≡◌, ◌++◌, length, sym, ap, ◌∙◌, rules}
use Rattle.fal_story.specs.Fresh.{fresh_at, came}
use Rattle.fal_story.specs.Told.{Told}
use Rattle.fal_alone.proofs.FreshRuns.{fresh_are}
use Rattle.fal_alone.specs.Shown.{all_lane_events, all_node_events, coord_events}
use Rattle.fal_alone.specs.Turns.{world_of}
use Rattle.fal_alone.proofs.cluster.Cluster.fresh.Goals as goal

pub returns : goal.returns
returns c =
    let inside = c.self.inside in
    let told = inside.book.told in
    let xs = c.split.result.0.now in
    let q = c.split.result.1.now in
    let ys = c.split.result.2.now in
    let count : length xs ≡ length inside.clients.items = search rules in
    let lanes = c.in_ok-push_lanes.ensures ∙ ap (λ es. es ++ all_lane_events 1 xs c.deref-2.result.now) c.new-events.ensures.items ∙ ap (all_lane_events 1 xs) c.deref-2.ensures.value in
    let nodes = c.in_ok-push_nodes.ensures ∙ (λ i. lanes i ++ all_node_events 0 ys (c.deref-3.ensures.value i)) in
    c.in_ok-push_coord.ensures ∙ ap (λ es. es ++ coord_events q inside.coord.state) nodes
    ∙ fresh_are told.config told.events inside.clients.items inside.nodes.items inside.coord.state inside.queues.items xs q ys c.self.invariant (sym c.deref.ensures.value ∙ c.split.ensures.all) count
    ∙ ap (λ (t : Told). fresh_at t.config (world_of t) (came t.events)) c.self.view_is
