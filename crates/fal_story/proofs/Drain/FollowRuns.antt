-- Each call under way is found after every legal run, and where nothing is fresh but Sends each call that was sent is answered.
use Rattle.std.proofs.Common.{◌≡◌, ⊎_elim, ℕ, ◌<◌, ◌≤◌, ◌^◌, Bool, true, false, List, Some, None, Option, refl, arith}
use Rattle.std.specs.Prelude.{slice_get}
use Rattle.std.specs.List.{All}
use Rattle.fal_base.specs.declared.call.Config.{Config}
use Rattle.fal_base.specs.declared.event.Envelope.{Envelope}
use Rattle.fal_base.specs.declared.event.Event.{Event}
use Rattle.fal_base.specs.declared.event.Event.TheVariants as event
use Rattle.fal_base.specs.declared.event.Actor.TheVariants.{Coord}
use Rattle.fal_base.specs.declared.mark.Mark.{Mark}
use Rattle.fal_base.specs.Marks.{Marks, last_mark}
use Rattle.fal_coord.specs.declared.event.CoordEvent.TheVariants as coord_event
use Rattle.fal_coord.specs.State.{opening_coord}
use Rattle.fal_coord.specs.Step.{coord_step}
use Rattle.fal_client.specs.declared.event.ClientEvent.TheVariants as client
use Rattle.fal_client.specs.Step.{client_step}
use Rattle.fal_node.specs.declared.event.NodeEvent.{NodeEvent}
use Rattle.fal_node.specs.declared.event.NodeEvent.TheVariants as node
use Rattle.fal_wire.specs.declared.letter.Letter.{Letter}
use Rattle.fal_node.specs.Letters.{Work}
use Rattle.fal_node.specs.State.{opening_node}
use Rattle.fal_node.specs.Step.{node_step}
use Rattle.fal_wire.specs.Messages.{Fits}
use Rattle.fal_story.proofs.Drain.Follow.{IsFollowed, marks_in}
use Rattle.fal_story.proofs.Drain.FollowCall.{deliver_follows}
use Rattle.fal_story.proofs.Drain.FollowClient.{send_follows, get_follows}
use Rattle.fal_story.proofs.Drain.FollowExec.{exec_follows}
use Rattle.fal_story.proofs.Drain.FollowGather.{gather_follows}
use Rattle.fal_story.proofs.Drain.FollowHear.{hear_follows, start_follows}
use Rattle.fal_story.proofs.Drain.FollowNode.{serve_follows, release_follows}
use Rattle.fal_story.proofs.Drain.Moving.{IsMoving}
use Rattle.fal_story.proofs.Drain.MovingDeliver.{no_seat}
use Rattle.fal_story.proofs.Listing.PartsRuns.{step_asks}
use Rattle.fal_story.proofs.Listing.Parts.{AreAsked}
use Rattle.fal_story.proofs.Drain.MovingRuns.{after_coord, after_client, after_node, step_moves, opening_moves, legal_holds}
use Rattle.fal_story.proofs.Drain.MovingServe.{After}
use Rattle.fal_story.proofs.Events.Enabled.{delivers, gathers, execs, releases, serves}
use Rattle.fal_story.proofs.Events.LegalRuns.{IsKept}
use Rattle.fal_story.proofs.Ranges.Bounds.{Comes}
use Rattle.fal_story.proofs.Lists.Grown.{put_all}
use Rattle.fal_story.proofs.Ranges.CoordInRange.{coord_in_range}
use Rattle.fal_story.proofs.Ranges.InRange.{node_in_range, client_in_range}
use Rattle.fal_story.specs.Clusters.{IsCluster, is_lane, is_node}
use Rattle.fal_story.specs.Fresh.{came_with, came}
use Rattle.fal_story.specs.Machines.{coord_hears, coord_made}
use Rattle.fal_story.specs.Run.{deed_by, only_where, client_hears, node_hears, client_deed, node_deed, deed, done, step, run, IsLegal}
use Rattle.fal_story.specs.World.{World, opening_world, put}

module _ (config : Config) (w : World) (came : ℕ → Bool) (cluster : IsCluster config) (few : w.events < 2 ^ 63) (k : IsKept config w) (m : IsMoving config w came) (f : IsFollowed w came) where
  fits : (n : ℕ) (e : NodeEvent) (work : Work) → n < config.nodes → Comes w e → node_step (w.nodes n) e ≡ Some work → All (λ (l : Letter). Fits l.message) work.sent
  fits n e work there comes is = (node_in_range config w n k.ghost e work cluster there few k.shows k.ranged comes is).0.records

  node_followed : (u : World) (n : ℕ) (e : NodeEvent) → ((work : Work) → n < config.nodes → node_step (w.nodes n) e ≡ Some work → All (λ (l : Letter). Fits l.message) work.sent → IsFollowed (After config w n work) came)
      → Comes w e → done config (node_deed w n (only_where (is_node config n) (node_step (w.nodes n) e))) ≡ Some u → IsFollowed u came
  node_followed u n e holds comes at = after_node config w u n (node_step (w.nodes n) e) (λ v. IsFollowed v came) (λ work there is. holds work there is (fits n e work there comes is)) at

  got_followed : (u : World) (l number : ℕ) (o : Option Envelope) → slice_get w.envelopes number ≡ o → done config (client_deed w l (only_where (is_lane config l) (client_hears (w.clients l) o))) ≡ Some u
      → IsFollowed u (put came number true)
  got_followed u l number None at is = after_client config w u l None (λ v. IsFollowed v (put came number true)) (λ move there e. absurd (cc)) is
  got_followed u l number (Some x) at is =
      after_client config w u l (client_step (w.clients l) (client.Get x)) (λ v. IsFollowed v (put came number true)) (λ move there e. get_follows config w came l number k.ghost x move k.shows m f at e (client_in_range config w l k.ghost (client.Get x) move cluster there k.shows k.ranged (number, at) e).0.records) is

  delivered_followed : (u : World) (n number : ℕ) (o : Option Envelope) → slice_get w.envelopes number ≡ o → done config (node_deed w n (only_where (is_node config n) (node_hears (w.nodes n) o))) ≡ Some u
      → IsFollowed u (put came number true)
  delivered_followed u n number None at is = after_node config w u n None (λ v. IsFollowed v (put came number true)) (λ work there e. absurd (cc)) is
  delivered_followed u n number (Some x) at is =
      after_node config w u n (node_step (w.nodes n) (node.Deliver x)) (λ v. IsFollowed v (put came number true))
      (λ work there e.
      delivers (w.nodes n) x work (λ y. All (λ (l : Letter). Fits l.message) y.sent → IsFollowed (After config w n y) (put came number true))
      (λ to fit. deliver_follows config w came n number x k.ghost there k.shows m f at to fit) e (fits n (node.Deliver x) work there (number, at) e))
      is

  heard_followed : (u : World) (number : ℕ) (o : Option Envelope) → slice_get w.envelopes number ≡ o → done config (deed_by w Coord (coord_made (coord_hears w.coord o))) ≡ Some u → IsFollowed u (put came number true)
  heard_followed u number None at is = absurd (cc)
  heard_followed u number (Some x) at is =
      after_coord config w u (coord_step w.coord (coord_event.Hear x)) (λ v. IsFollowed v (put came number true))
      (λ work e. hear_follows config w came number x k.ghost work k.shows m f at e (coord_in_range config w k.ghost (coord_event.Hear x) work cluster few k.shows k.ranged (number, at) e).0.records)
      is

  step_follows : (u : World) (e : Event) → step config w e ≡ Some u → IsFollowed u (came_with e came)
  unfolding deed
  step_follows u (event.Send l) at =
      after_client config w u l (client_step (w.clients l) client.Send) (λ v. IsFollowed v came)
      (λ move there e. send_follows config w came l k.ghost move cluster k.shows m f e (client_in_range config w l k.ghost client.Send move cluster there k.shows k.ranged tt e).0.records) at
  step_follows u (event.Get l number) at = got_followed u l number (slice_get w.envelopes number) refl at
  step_follows u (event.Deliver n number) at = delivered_followed u n number (slice_get w.envelopes number) refl at
  step_follows u (event.Gather n) at =
      node_followed u n node.Gather (λ work there is. gathers (w.nodes n) work (λ y. All (λ (l : Letter). Fits l.message) y.sent → IsFollowed (After config w n y) came)
      (λ fit. gather_follows config w came n k.ghost there (no_seat config w came n there m) k.shows m f fit) is) tt at
  step_follows u (event.Exec n number) at =
      node_followed u n (node.Exec number) (λ work there is. execs (w.nodes n) number work (λ y. All (λ (l : Letter). Fits l.message) y.sent → IsFollowed (After config w n y) came)
      (λ batch found waits fit. exec_follows config w came n number k.ghost batch (no_seat config w came n there m) k.shows m f found waits fit) is) tt at
  step_follows u (event.Release n number) at =
      node_followed u n (node.Release number) (λ work there is. releases (w.nodes n) number work (λ y. All (λ (l : Letter). Fits l.message) y.sent → IsFollowed (After config w n y) came)
      (λ batch found executed fit. release_follows config w came n number batch (no_seat config w came n there m) f found executed) is) tt at
  step_follows u (event.Serve n number) at =
      node_followed u n (node.Serve number) (λ work there is. serves (w.nodes n) number work (λ y. All (λ (l : Letter). Fits l.message) y.sent → IsFollowed (After config w n y) came)
      (λ item found can fit. serve_follows config w came n item (no_seat config w came n there m) fit f) is) tt at
  step_follows u (event.Hear number) at = heard_followed u number (slice_get w.envelopes number) refl at
  step_follows u event.Start at =
      after_coord config w u (coord_step w.coord coord_event.Start) (λ v. IsFollowed v came)
      (λ work is. start_follows config w came work m f is (coord_in_range config w k.ghost coord_event.Start work cluster few k.shows k.ranged tt is).0.records) at

-- nobody has taken a call
opening_marks : (config : Config) (n l : ℕ) (m : Mark) → last_mark (marks_in (opening_world config) n) l ≡ Some m → m.seq ≤ ((opening_world config).clients l).seq
unfolding opening_node opening_coord
opening_marks config n l m is = put_all (λ i (ms : Marks). last_mark ms l ≡ Some m → m.seq ≤ ((opening_world config).clients l).seq) (λ i. ((opening_world config).nodes i).waiting.last) 255 (opening_world config).coord.last (λ z. absurd (cc)) (λ i _ z. absurd (cc)) n is

opening_follows : (config : Config) → IsFollowed (opening_world config) (λ number. false)
unfolding opening_node opening_coord
opening_follows config = record {
  busy = λ l current is unlisted. absurd (cc);
  over = λ l s some over. absurd (⊎_elim (λ low. omega arith) (λ z. let none = z.0 in omega arith) over);
  marks = λ n l m is. opening_marks config n l m is;
  batches = λ n. record { apart = tt; below = tt };
}

-- each call under way is on its way, and so is each part that is asked for one
pub record IsLive (config : Config) (w : World) (came : ℕ → Bool) : Type 0 where
  pub moving : IsMoving config w came
  pub followed : IsFollowed w came
  pub asked : AreAsked config w came

pub opening_live : (config : Config) → IsCluster config → IsLive config (opening_world config) (λ number. false)
opening_live config cluster = record { moving = opening_moves config cluster; followed = opening_follows config; asked = λ l current listing n busy has there missing. absurd (cc) }

-- each event keeps it
pub step_lives : (config : Config) (w u : World) (came : ℕ → Bool) (e : Event) → IsCluster config → w.events < 2 ^ 63 → IsKept config w → IsLive config w came → step config w e ≡ Some u → IsLive config u (came_with e came)
step_lives config w u came e cluster few k live is = record {
  moving = step_moves config w came cluster few k live.moving u e is;
  followed = step_follows config w came cluster few k live.moving live.followed u e is;
  asked = step_asks config w came cluster few k live.moving live.asked u e is;
}

pub legal_lives : (config : Config) (events : List Event) (w : World) → IsLegal config events → run config events ≡ Some w → IsKept config w × IsLive config w (came events)
legal_lives config events w legal at =
    legal_holds config (IsLive config) (λ v u c e few k live is. step_lives config v u c e legal.cluster few k live is) (opening_live config legal.cluster) events w legal at
