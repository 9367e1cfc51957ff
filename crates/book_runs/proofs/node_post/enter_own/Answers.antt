use Rattle.std.proofs.Common.{sym, ap, ◌∙◌, subst}
use Rattle.fal_node.specs.declared.patch.Patch.{Patch}
use Rattle.fal_node.specs.Patch.{patched}
use Rattle.fal_base.specs.declared.event.Actor.TheVariants.{Node}
use Rattle.fal_story.specs.Clusters.{is_node}
use Rattle.fal_story.specs.Machines.{NodeMachine}
use Rattle.book_runs.specs.Posts.{IsNodePost}
use Rattle.book_runs.proofs.Nodes.{node_ready, node_may, node_owns, node_entered}
use Rattle.book_runs.proofs.Kept.{nothing_entered}
use Rattle.book_runs.proofs.node_post.enter_own.Goals as goal

pub ready-requires : goal.ready-requires
ready-requires g c = node_ready c.args.number c.args.node.now.state c.args.seat.now c.args.inbox.now c.args.event c.args.own.now c.requires.post c.number.ensures.knows c.requires.own

pub enter-requires-clause-own : goal.enter-requires-clause-own
enter-requires-clause-own g c = node_owns c.args.number c.args.node.now.state c.args.seat.now c.args.inbox.now c.args.event c.args.own.now c.requires.post c.requires.own

pub enter-requires-clause-may : goal.enter-requires-clause-may
enter-requires-clause-may g c =
    let post = subst (λ z. IsNodePost c.args.number z c.args.seat.now c.args.inbox.now) (sym c.ready.ensures.same) c.requires.post in
    node_may c.args.number c.ready.new.self c.args.seat.now c.args.inbox.now c.args.event c.args.own.now c.in_ok-prepared.prepared c.take_outputs-outputs.result post c.number.ensures.knows c.requires.own
    c.in_ok-prepared.ensures.ok c.take_outputs-outputs.ensures.outputs

pub returns-in-Ok-clause-post : goal.returns-in-Ok-clause-post
returns-in-Ok-clause-post g c =
    let post = subst (λ z. IsNodePost c.args.number z c.args.seat.now c.args.inbox.now) (sym c.ready.ensures.same) c.requires.post in
    let is = c.apply.ensures ∙ ap (λ (p : Patch). patched c.ready.new.self.state p) c.take_outputs-outputs.ensures.patch in
    subst (λ z. IsNodePost c.args.number z c.enter.new.seat c.args.inbox.now) (sym is)
    (node_entered c.args.number c.ready.new.self c.args.seat.now c.enter.new.seat c.args.inbox.now c.args.event c.args.own.now c.in_ok-prepared.prepared c.in-Ok.at post c.requires.own
    c.in_ok-prepared.ensures.ok c.enter.ensures.same c.in-Ok.ensures.ok)

pub returns-in-Err-clause-post : goal.returns-in-Err-clause-post
returns-in-Err-clause-post g c =
    let post = subst (λ z. IsNodePost c.args.number z c.args.seat.now c.args.inbox.now) (sym c.ready.ensures.same) c.requires.post in
    nothing_entered (λ config. is_node config c.args.number) (Node c.args.number) (NodeMachine c.ready.new.self.state) c.args.seat.now c.enter.new.seat c.args.inbox.now post c.enter.ensures.same c.in-Err.ensures.err.2
