use Rattle.std.proofs.Common.{sym, ap, ◌∙◌, subst}
use Rattle.fal_client.specs.declared.patch.Patch.{Patch}
use Rattle.fal_client.specs.Patch.{patched}
use Rattle.fal_client.specs.State.{ClientState}
use Rattle.fal_base.specs.declared.event.Actor.TheVariants.{Client}
use Rattle.fal_story.specs.Clusters.{is_lane}
use Rattle.fal_story.specs.Machines.{ClientMachine}
use Rattle.book_runs.specs.Posts.{IsClientPost}
use Rattle.book_runs.proofs.Clients.{client_ready, client_may, client_owns, client_entered}
use Rattle.book_runs.proofs.Kept.{nothing_entered}
use Rattle.book_runs.proofs.client_post.enter_own.Goals as goal

pub ready-requires : goal.ready-requires
ready-requires g c = client_ready c.args.lane c.args.client.now c.args.seat.now c.args.inbox.now c.args.event c.args.own.now c.requires.post c.number.ensures.knows c.requires.own

pub enter-requires-clause-own : goal.enter-requires-clause-own
enter-requires-clause-own g c = client_owns c.args.lane c.args.client.now c.args.seat.now c.args.inbox.now c.args.event c.args.own.now c.requires.post c.requires.own

pub enter-requires-clause-may : goal.enter-requires-clause-may
enter-requires-clause-may g c =
    client_may c.args.lane c.args.client.now c.args.seat.now c.args.inbox.now c.args.event c.args.own.now c.in_ok-prepared.prepared c.take_outputs-outputs.result c.requires.post c.number.ensures.knows c.requires.own
    c.in_ok-prepared.ensures.ok c.take_outputs-outputs.ensures.outputs

pub returns-in-Ok-clause-post : goal.returns-in-Ok-clause-post
returns-in-Ok-clause-post g c =
    let is = c.apply.ensures ∙ ap (λ (s : ClientState). patched s c.take_outputs-outputs.new.self.patch) c.ready.ensures.same ∙ ap (λ (p : Patch). patched c.args.client.now p) c.take_outputs-outputs.ensures.patch in
    subst (λ z. IsClientPost c.args.lane z c.enter.new.seat c.args.inbox.now) (sym is)
    (client_entered c.args.lane c.args.client.now c.args.seat.now c.enter.new.seat c.args.inbox.now c.args.event c.args.own.now c.in_ok-prepared.prepared c.in-Ok.at c.requires.post c.requires.own
    c.in_ok-prepared.ensures.ok c.enter.ensures.same c.in-Ok.ensures.ok)

pub returns-in-Err-clause-post : goal.returns-in-Err-clause-post
returns-in-Err-clause-post g c =
    subst (λ z. IsClientPost c.args.lane z c.enter.new.seat c.args.inbox.now) (sym c.ready.ensures.same)
    (nothing_entered (λ config. is_lane config c.args.lane) (Client c.args.lane) (ClientMachine c.args.client.now) c.args.seat.now c.enter.new.seat c.args.inbox.now c.requires.post c.enter.ensures.same
    c.in-Err.ensures.err.2)
