-- The parts that clients ask for stay on the way through every event.
use Rattle.std.proofs.Common.{◌≡◌, ℕ, ◌<◌, ◌^◌, Bool, true, Some, None, Option, refl}
use Rattle.std.specs.Prelude.{slice_get}
use Rattle.std.specs.List.{All}
use Rattle.fal_base.specs.declared.call.Config.{Config}
use Rattle.fal_base.specs.declared.event.Envelope.{Envelope}
use Rattle.fal_base.specs.declared.event.Event.{Event}
use Rattle.fal_base.specs.declared.event.Event.TheVariants as event
use Rattle.fal_base.specs.declared.event.Actor.TheVariants.{Coord}
use Rattle.fal_coord.specs.declared.event.CoordEvent.TheVariants as coord_event
use Rattle.fal_coord.specs.Step.{coord_step}
use Rattle.fal_client.specs.declared.event.ClientEvent.TheVariants as client
use Rattle.fal_client.specs.Step.{client_step}
use Rattle.fal_node.specs.declared.event.NodeEvent.{NodeEvent}
use Rattle.fal_node.specs.declared.event.NodeEvent.TheVariants as node
use Rattle.fal_wire.specs.declared.letter.Letter.{Letter}
use Rattle.fal_node.specs.Letters.{Work}
use Rattle.fal_node.specs.Step.{node_step}
use Rattle.fal_wire.specs.Messages.{Fits}
use Rattle.fal_story.proofs.Drain.Moving.{IsMoving}
use Rattle.fal_story.proofs.Drain.MovingRuns.{after_coord, after_client, after_node}
use Rattle.fal_story.proofs.Drain.MovingServe.{After}
use Rattle.fal_story.proofs.Listing.Parts.{AreAsked}
use Rattle.fal_story.proofs.Listing.PartsClient.{get_asked, send_asked}
use Rattle.fal_story.proofs.Listing.PartsNode.{deliver_asked, exec_asked, gather_asked, hear_asked, release_asked, serve_asked, start_asked}
use Rattle.fal_story.proofs.Events.Enabled.{delivers, gathers, execs, releases, serves}
use Rattle.fal_story.proofs.Events.LegalRuns.{IsKept}
use Rattle.fal_story.proofs.Ranges.Bounds.{Comes}
use Rattle.fal_story.proofs.Ranges.CoordInRange.{coord_in_range}
use Rattle.fal_story.proofs.Ranges.InRange.{node_in_range, client_in_range}
use Rattle.fal_story.specs.Clusters.{IsCluster, is_lane, is_node}
use Rattle.fal_story.specs.Fresh.{came_with}
use Rattle.fal_story.specs.Machines.{coord_hears, coord_made}
use Rattle.fal_story.specs.Run.{deed_by, only_where, client_hears, node_hears, client_deed, node_deed, deed, done, step}
use Rattle.fal_story.specs.World.{World, put}

module _ (config : Config) (w : World) (came : ℕ → Bool) (cluster : IsCluster config) (few : w.events < 2 ^ 63) (k : IsKept config w) (m : IsMoving config w came) (asked : AreAsked config w came) where
  fits : (n : ℕ) (e : NodeEvent) (work : Work) → n < config.nodes → Comes w e → node_step (w.nodes n) e ≡ Some work → All (λ (l : Letter). Fits l.message) work.sent
  fits n e work there comes is = (node_in_range config w n k.ghost e work cluster there few k.shows k.ranged comes is).0.records

  node_asks : (u : World) (n : ℕ) (e : NodeEvent) → ((work : Work) → n < config.nodes → node_step (w.nodes n) e ≡ Some work → All (λ (l : Letter). Fits l.message) work.sent → AreAsked config (After config w n work) came)
      → Comes w e → done config (node_deed w n (only_where (is_node config n) (node_step (w.nodes n) e))) ≡ Some u → AreAsked config u came
  node_asks u n e holds comes at = after_node config w u n (node_step (w.nodes n) e) (λ v. AreAsked config v came) (λ work there is. holds work there is (fits n e work there comes is)) at

  got_asks : (u : World) (l number : ℕ) (o : Option Envelope) → slice_get w.envelopes number ≡ o → done config (client_deed w l (only_where (is_lane config l) (client_hears (w.clients l) o))) ≡ Some u
      → AreAsked config u (put came number true)
  got_asks u l number None at is = after_client config w u l None (λ v. AreAsked config v (put came number true)) (λ move there e. absurd (cc)) is
  got_asks u l number (Some x) at is =
      after_client config w u l (client_step (w.clients l) (client.Get x)) (λ v. AreAsked config v (put came number true)) (λ move there e. get_asked config w came l number k.ghost x move k.shows m at e (client_in_range config w l k.ghost (client.Get x) move cluster there k.shows k.ranged (number, at) e).0.records asked) is

  delivered_asks : (u : World) (n number : ℕ) (o : Option Envelope) → slice_get w.envelopes number ≡ o → done config (node_deed w n (only_where (is_node config n) (node_hears (w.nodes n) o))) ≡ Some u
      → AreAsked config u (put came number true)
  delivered_asks u n number None at is = after_node config w u n None (λ v. AreAsked config v (put came number true)) (λ work there e. absurd (cc)) is
  delivered_asks u n number (Some x) at is =
      after_node config w u n (node_step (w.nodes n) (node.Deliver x)) (λ v. AreAsked config v (put came number true))
      (λ work there e.
      delivers (w.nodes n) x work (λ y. All (λ (l : Letter). Fits l.message) y.sent → AreAsked config (After config w n y) (put came number true))
      (λ to fit. deliver_asked config w came n number x k.ghost k.shows at to fit asked) e (fits n (node.Deliver x) work there (number, at) e))
      is

  heard_asks : (u : World) (number : ℕ) (o : Option Envelope) → slice_get w.envelopes number ≡ o → done config (deed_by w Coord (coord_made (coord_hears w.coord o))) ≡ Some u → AreAsked config u (put came number true)
  heard_asks u number None at is = absurd (cc)
  heard_asks u number (Some x) at is =
      after_coord config w u (coord_step w.coord (coord_event.Hear x)) (λ v. AreAsked config v (put came number true))
      (λ work e. hear_asked config w came number x work m.few at e (coord_in_range config w k.ghost (coord_event.Hear x) work cluster few k.shows k.ranged (number, at) e).0.records asked)
      is

  pub step_asks : (u : World) (e : Event) → step config w e ≡ Some u → AreAsked config u (came_with e came)
  unfolding deed
  step_asks u (event.Send l) at =
      after_client config w u l (client_step (w.clients l) client.Send) (λ v. AreAsked config v came)
      (λ move there e. send_asked config w came l move e (client_in_range config w l k.ghost client.Send move cluster there k.shows k.ranged tt e).0.records asked) at
  step_asks u (event.Get l number) at = got_asks u l number (slice_get w.envelopes number) refl at
  step_asks u (event.Deliver n number) at = delivered_asks u n number (slice_get w.envelopes number) refl at
  step_asks u (event.Gather n) at =
      node_asks u n node.Gather (λ work there is. gathers (w.nodes n) work (λ y. All (λ (l : Letter). Fits l.message) y.sent → AreAsked config (After config w n y) came)
      (λ fit. gather_asked config w came n fit asked) is) tt at
  step_asks u (event.Exec n number) at =
      node_asks u n (node.Exec number) (λ work there is. execs (w.nodes n) number work (λ y. All (λ (l : Letter). Fits l.message) y.sent → AreAsked config (After config w n y) came)
      (λ batch found waits fit. exec_asked config w came n number batch fit asked) is) tt at
  step_asks u (event.Release n number) at =
      node_asks u n (node.Release number) (λ work there is. releases (w.nodes n) number work (λ y. All (λ (l : Letter). Fits l.message) y.sent → AreAsked config (After config w n y) came)
      (λ batch found executed fit. release_asked config w came n number asked) is) tt at
  step_asks u (event.Serve n number) at =
      node_asks u n (node.Serve number) (λ work there is. serves (w.nodes n) number work (λ y. All (λ (l : Letter). Fits l.message) y.sent → AreAsked config (After config w n y) came)
      (λ item found can fit. serve_asked config w came n number k.ghost item k.shows m found fit asked) is) tt at
  step_asks u (event.Hear number) at = heard_asks u number (slice_get w.envelopes number) refl at
  step_asks u event.Start at =
      after_coord config w u (coord_step w.coord coord_event.Start) (λ v. AreAsked config v came)
      (λ work is. start_asked config w came work (coord_in_range config w k.ghost coord_event.Start work cluster few k.shows k.ranged tt is).0.records asked) at
