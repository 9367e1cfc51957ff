use Rattle.std.proofs.Common.{subst, sym}
use Rattle.fal_base.specs.declared.event.Event.{Event}
use Rattle.fal_coord.specs.declared.event.CoordEvent.TheVariants as coord_event
use Rattle.fal_story.specs.Run.{IsLegal, run}
use Rattle.fal_story.specs.Told.{Told}
use Rattle.fal_alone.specs.Turns.{IsEventOfCoord}
use Rattle.fal_alone.proofs.Taken.{of_send, of_gather, of_exec, of_release, of_serve, of_start}
use Rattle.fal_alone.proofs.cluster.Cluster.step.Goals as goal

pub client_takes-requires : goal.client_takes-requires
client_takes-requires c =
    let told = c.args.self.now in
    let legal = subst (λ (t : Told). IsLegal t.config t.events) c.self.view_is c.legal.ensures in
    of_send told.config (run told.config told.events) c.in-Send.lane legal.enabled

pub node_takes-requires : goal.node_takes-requires
node_takes-requires c =
    let told = c.args.self.now in
    let legal = subst (λ (t : Told). IsLegal t.config t.events) c.self.view_is c.legal.ensures in
    of_gather told.config (run told.config told.events) c.in-Gather.node legal.enabled

pub node_takes-requires-in-Exec : goal.node_takes-requires-in-Exec
node_takes-requires-in-Exec c =
    let told = c.args.self.now in
    let legal = subst (λ (t : Told). IsLegal t.config t.events) c.self.view_is c.legal.ensures in
    of_exec told.config (run told.config told.events) c.in-Exec.node c.in-Exec.batch legal.enabled

pub node_takes-requires-in-Release : goal.node_takes-requires-in-Release
node_takes-requires-in-Release c =
    let told = c.args.self.now in
    let legal = subst (λ (t : Told). IsLegal t.config t.events) c.self.view_is c.legal.ensures in
    of_release told.config (run told.config told.events) c.in-Release.node c.in-Release.batch legal.enabled

pub node_takes-requires-in-Serve : goal.node_takes-requires-in-Serve
node_takes-requires-in-Serve c =
    let told = c.args.self.now in
    let legal = subst (λ (t : Told). IsLegal t.config t.events) c.self.view_is c.legal.ensures in
    of_serve told.config (run told.config told.events) c.in-Serve.node c.in-Serve.item legal.enabled

pub coord_takes-requires : goal.coord_takes-requires
coord_takes-requires c =
    let told = c.args.self.now in
    let legal = subst (λ (t : Told). IsLegal t.config t.events) c.self.view_is c.legal.ensures in
    subst (λ (e : Event). IsEventOfCoord told e coord_event.Start) (sym c.in-Start.is) (of_start told.config (run told.config told.events) legal.enabled)
