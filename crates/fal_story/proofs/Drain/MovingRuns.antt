-- Every legal run goes on.
use Rattle.std.proofs.Common.{◌≡◌, ℕ, suc, ◌+◌, ◌<◌, ◌^◌, Bool, true, false, List, [], ◌∷◌, length, Some, None, Option, refl, subst, arith}
use Rattle.std.specs.Prelude.{slice_get, IsTrue}
use Rattle.std.specs.List.{All}
use Rattle.std.proofs.lemmas.Bool.Decides.{nat_tests}
use Rattle.std.proofs.lemmas.Option.{same_Some}
use Rattle.fal_base.specs.declared.call.Config.{Config}
use Rattle.fal_base.specs.declared.event.Envelope.{Envelope}
use Rattle.fal_base.specs.declared.event.Event.{Event}
use Rattle.fal_base.specs.declared.event.Event.TheVariants as event
use Rattle.fal_base.specs.declared.event.Actor.TheVariants.{Coord}
use Rattle.fal_client.specs.declared.event.ClientEvent.TheVariants as client
use Rattle.fal_client.specs.State.{Work as ClientWork}
use Rattle.fal_client.specs.Step.{client_step}
use Rattle.fal_coord.specs.declared.event.CoordEvent.TheVariants as coord_event
use Rattle.fal_coord.specs.State.{opening_coord, Work as CoordWork}
use Rattle.fal_coord.specs.Step.{coord_step}
use Rattle.fal_node.specs.declared.event.NodeEvent.{NodeEvent}
use Rattle.fal_node.specs.declared.event.NodeEvent.TheVariants as node
use Rattle.fal_wire.specs.declared.letter.Letter.{Letter}
use Rattle.fal_node.specs.Letters.{Work}
use Rattle.fal_node.specs.State.{opening_node}
use Rattle.fal_node.specs.Step.{node_step}
use Rattle.fal_wire.specs.Messages.{Fits}
use Rattle.fal_story.proofs.Drain.Moving.{IsMoving}
use Rattle.fal_story.proofs.Drain.MovingClient.{AfterClient, send_moves, get_moves}
use Rattle.fal_story.proofs.Drain.MovingGather.{gather_moves}
use Rattle.fal_story.proofs.Drain.MovingGot.{deliver_moves}
use Rattle.fal_story.proofs.Drain.MovingExec.{exec_moves}
use Rattle.fal_story.proofs.Drain.MovingHear.{hear_moves}
use Rattle.fal_story.proofs.Drain.MovingStart.{start_moves}
use Rattle.fal_story.proofs.Drain.MovingServe.{After, release_moves, serve_moves}
use Rattle.fal_story.proofs.Events.Enabled.{delivers, gathers, execs, releases, serves}
use Rattle.fal_story.proofs.Events.InCoord.{coord_after}
use Rattle.fal_story.proofs.Events.LegalRuns.{IsKept, step_kept, step_counts}
use Rattle.fal_story.proofs.Events.Opening.{opening_ghost, opening_shows, opening_ranged}
use Rattle.fal_story.proofs.Ranges.Bounds.{Comes}
use Rattle.fal_story.proofs.Ranges.CoordInRange.{coord_in_range}
use Rattle.fal_story.proofs.Ranges.InRange.{node_in_range}
use Rattle.fal_story.specs.Clusters.{IsCluster, is_lane, is_node}
use Rattle.fal_story.specs.Fresh.{came_with, came_from, came}
use Rattle.fal_story.specs.Machines.{coord_hears, coord_made}
use Rattle.fal_story.specs.Run.{deed_by, only_where, client_hears, node_hears, client_deed, node_deed, deed, done, step, run_from, run, IsLegal}
use Rattle.fal_story.specs.World.{World, opening_world, put}

-- ---- what holds after an event of a node or a client holds where the event is enabled

pub after_client : (config : Config) (w u : World) (l : ℕ) (o : Option ClientWork) (P : World → Type 0) → ((m : ClientWork) → IsTrue (is_lane config l) → o ≡ Some m → P (AfterClient config w l m)) → done config (client_deed w l (only_where (is_lane config l) o)) ≡ Some u → P u
after_client config w u l None P holds at = elim (is_lane config l) as (λ b. done config (client_deed w l (only_where b None)) ≡ Some u → P u) [ true ↦ λ z. absurd (cc) | false ↦ λ z. absurd (cc) ] at
after_client config w u l (Some m) P holds at =
    elim (is_lane config l) as (λ b. is_lane config l ≡ b → done config (client_deed w l (only_where b (Some m))) ≡ Some u → P u) [
      | true ↦ λ there z. subst P (same_Some (AfterClient config w l m) u z) (holds m there refl)
      | false ↦ λ there z. absurd (cc)
    ] refl at

pub after_node : (config : Config) (w u : World) (n : ℕ) (o : Option Work) (P : World → Type 0) → ((k : Work) → n < config.nodes → o ≡ Some k → P (After config w n k)) → done config (node_deed w n (only_where (is_node config n) o)) ≡ Some u → P u
after_node config w u n None P holds at = elim (is_node config n) as (λ b. done config (node_deed w n (only_where b None)) ≡ Some u → P u) [ true ↦ λ z. absurd (cc) | false ↦ λ z. absurd (cc) ] at
after_node config w u n (Some k) P holds at =
    elim (is_node config n) as (λ b. is_node config n ≡ b → done config (node_deed w n (only_where b (Some k))) ≡ Some u → P u) [
      | true ↦ λ there z. let below : n < config.nodes = grind (arith, nat_tests) in subst P (same_Some (After config w n k) u z) (holds k below refl)
      | false ↦ λ there z. absurd (cc)
    ] refl at

-- and of the coordinator
pub after_coord : (config : Config) (w u : World) (o : Option CoordWork) (P : World → Type 0) → ((k : CoordWork) → o ≡ Some k → P (coord_after config w k)) → done config (deed_by w Coord (coord_made o)) ≡ Some u → P u
after_coord config w u None P holds at = absurd (cc)
after_coord config w u (Some k) P holds at = subst P (same_Some (coord_after config w k) u at) (holds k refl)

-- ---- one event

module _ (config : Config) (w : World) (came : ℕ → Bool) (cluster : IsCluster config) (few : w.events < 2 ^ 63) (k : IsKept config w) (m : IsMoving config w came) where
  fits : (n : ℕ) (e : NodeEvent) (work : Work) → n < config.nodes → Comes w e → node_step (w.nodes n) e ≡ Some work → All (λ (l : Letter). Fits l.message) work.sent
  fits n e work there comes is = (node_in_range config w n k.ghost e work cluster there few k.shows k.ranged comes is).0.records

  node_moved : (u : World) (n : ℕ) (e : NodeEvent) → ((work : Work) → n < config.nodes → node_step (w.nodes n) e ≡ Some work → All (λ (l : Letter). Fits l.message) work.sent → IsMoving config (After config w n work) came)
      → Comes w e → done config (node_deed w n (only_where (is_node config n) (node_step (w.nodes n) e))) ≡ Some u → IsMoving config u came
  node_moved u n e holds comes at = after_node config w u n (node_step (w.nodes n) e) (λ v. IsMoving config v came) (λ work there is. holds work there is (fits n e work there comes is)) at

  got_moved : (u : World) (l number : ℕ) (o : Option Envelope) → slice_get w.envelopes number ≡ o → done config (client_deed w l (only_where (is_lane config l) (client_hears (w.clients l) o))) ≡ Some u
      → IsMoving config u (put came number true)
  got_moved u l number None at is = after_client config w u l None (λ v. IsMoving config v (put came number true)) (λ move there e. absurd (cc)) is
  got_moved u l number (Some x) at is =
      after_client config w u l (client_step (w.clients l) (client.Get x)) (λ v. IsMoving config v (put came number true)) (λ move there e. get_moves config w came l number k.ghost x move k.shows m at e) is

  delivered_moved : (u : World) (n number : ℕ) (o : Option Envelope) → slice_get w.envelopes number ≡ o → done config (node_deed w n (only_where (is_node config n) (node_hears (w.nodes n) o))) ≡ Some u
      → IsMoving config u (put came number true)
  delivered_moved u n number None at is = after_node config w u n None (λ v. IsMoving config v (put came number true)) (λ work there e. absurd (cc)) is
  delivered_moved u n number (Some x) at is =
      after_node config w u n (node_step (w.nodes n) (node.Deliver x)) (λ v. IsMoving config v (put came number true))
      (λ work there e.
      delivers (w.nodes n) x work (λ y. All (λ (l : Letter). Fits l.message) y.sent → IsMoving config (After config w n y) (put came number true))
      (λ to fit. deliver_moves config w came n number x k.ghost there k.shows m at to fit) e (fits n (node.Deliver x) work there (number, at) e))
      is

  heard_moved : (u : World) (number : ℕ) (o : Option Envelope) → slice_get w.envelopes number ≡ o → done config (deed_by w Coord (coord_made (coord_hears w.coord o))) ≡ Some u → IsMoving config u (put came number true)
  heard_moved u number None at is = absurd (cc)
  heard_moved u number (Some x) at is =
      after_coord config w u (coord_step w.coord (coord_event.Hear x)) (λ v. IsMoving config v (put came number true))
      (λ work e. hear_moves config w came number x k.ghost work k.shows m at e (coord_in_range config w k.ghost (coord_event.Hear x) work cluster few k.shows k.ranged (number, at) e).0.records)
      is

  pub step_moves : (u : World) (e : Event) → step config w e ≡ Some u → IsMoving config u (came_with e came)
  unfolding deed
  step_moves u (event.Send l) at =
      after_client config w u l (client_step (w.clients l) client.Send) (λ v. IsMoving config v came) (λ move there e. send_moves config w came l k.ghost move cluster k.shows m e) at
  step_moves u (event.Get l number) at = got_moved u l number (slice_get w.envelopes number) refl at
  step_moves u (event.Deliver n number) at = delivered_moved u n number (slice_get w.envelopes number) refl at
  step_moves u (event.Gather n) at =
      node_moved u n node.Gather (λ work there is. gathers (w.nodes n) work (λ y. All (λ (l : Letter). Fits l.message) y.sent → IsMoving config (After config w n y) came)
      (λ fit. gather_moves config w came n k.ghost cluster there k.shows m fit) is) tt at
  step_moves u (event.Exec n number) at =
      node_moved u n (node.Exec number) (λ work there is. execs (w.nodes n) number work (λ y. All (λ (l : Letter). Fits l.message) y.sent → IsMoving config (After config w n y) came)
      (λ batch found waits fit. exec_moves config w came n number k.ghost batch there k.shows m found waits fit) is) tt at
  step_moves u (event.Release n number) at =
      node_moved u n (node.Release number) (λ work there is. releases (w.nodes n) number work (λ y. All (λ (l : Letter). Fits l.message) y.sent → IsMoving config (After config w n y) came)
      (λ batch found executed fit. release_moves config w came n number there m) is) tt at
  step_moves u (event.Serve n number) at =
      node_moved u n (node.Serve number) (λ work there is. serves (w.nodes n) number work (λ y. All (λ (l : Letter). Fits l.message) y.sent → IsMoving config (After config w n y) came)
      (λ item found can fit. serve_moves config w came n number k.ghost item there k.shows m found can fit) is) tt at
  step_moves u (event.Hear number) at = heard_moved u number (slice_get w.envelopes number) refl at
  step_moves u event.Start at =
      after_coord config w u (coord_step w.coord coord_event.Start) (λ v. IsMoving config v came)
      (λ work is. start_moves config w came k.ghost work k.shows m is (coord_in_range config w k.ghost coord_event.Start work cluster few k.shows k.ranged tt is).0.records) at

-- ---- runs

pub opening_moves : (config : Config) → IsCluster config → IsMoving config (opening_world config) (λ number. false)
unfolding opening_node opening_coord
opening_moves config cluster = record {
  few = cluster.few_nodes;
  past = λ k at. refl;
  within = tt;
  waits = λ n. tt;
  servable = λ n. tt;
  beyond = λ n at. refl;
  holders = λ n. tt;
  staged = record { walking = tt; named = λ n is. absurd (cc); hearing = λ n is. tt };
}

-- what each event keeps in worlds that are kept, each run keeps
pub run_holds : (config : Config) (P : World → (ℕ → Bool) → Type 0) → IsCluster config
    → ((w u : World) (c : ℕ → Bool) (e : Event) → w.events < 2 ^ 63 → IsKept config w → P w c → step config w e ≡ Some u → P u (came_with e c))
    → (w u : World) (c : ℕ → Bool) (events : List Event) → w.events + length events < 2 ^ 63 → IsKept config w → P w c → run_from config (Some w) events ≡ Some u → IsKept config u × P u (came_from c events)
run_holds config P cluster steps w u c [] few k p at = let same : w ≡ u = same_Some w u at in (subst (IsKept config) same k, subst (λ v. P v c) same p)
run_holds config P cluster steps w u c (e ∷ es) few k p at =
    elim (step config w e) as (λ o. step config w e ≡ o → run_from config o es ≡ Some u → IsKept config u × P u (came_from (came_with e c) es)) [
      | None ↦ λ t z. absurd (dead es z)
      | Some v ↦ λ t z.
          let counted : v.events ≡ suc w.events = step_counts config w v e t in
          let front : w.events < 2 ^ 63 = omega arith in
          let rest : v.events + length es < 2 ^ 63 = omega arith in
          run_holds config P cluster steps v u (came_with e c) es rest (step_kept config w v e cluster front k t) (steps w v c e front k p t) z
    ] refl at
  where
    dead : (es : List Event) → run_from config None es ≡ Some u → ⊥
    dead [] z = cc
    dead (x ∷ xs) z = cc

-- what each event keeps, and holds at first, holds after each legal run
pub legal_holds : (config : Config) (P : World → (ℕ → Bool) → Type 0)
    → ((w u : World) (c : ℕ → Bool) (e : Event) → w.events < 2 ^ 63 → IsKept config w → P w c → step config w e ≡ Some u → P u (came_with e c)) → P (opening_world config) (λ number. false)
    → (events : List Event) (w : World) → IsLegal config events → run config events ≡ Some w → IsKept config w × P w (came events)
unfolding run came
legal_holds config P steps start events w legal at =
    let few = legal.few in
    let front : 0 + length events < 2 ^ 63 = omega arith in
    run_holds config P legal.cluster steps (opening_world config) w (λ number. false) events front (record { ghost = opening_ghost; shows = opening_shows config legal.cluster; ranged = opening_ranged config }) start at

pub legal_moves : (config : Config) (events : List Event) (w : World) → IsLegal config events → run config events ≡ Some w → IsKept config w × IsMoving config w (came events)
legal_moves config events w legal at =
    legal_holds config (IsMoving config) (λ v u c e few k m is. step_moves config v c legal.cluster few k m u e is) (opening_moves config legal.cluster) events w legal at
