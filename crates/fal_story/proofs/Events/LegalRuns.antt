-- What holds after every legal run.
use Rattle.std.proofs.Common.{◌≡◌, ℕ, suc, ◌+◌, ◌<◌, ◌^◌, true, false, List, [], ◌∷◌, length, Some, None, Option, refl, sym, ap, subst, arith}
use Rattle.std.specs.Prelude.{slice_get}
use Rattle.std.proofs.lemmas.Bool.Decides.{nat_tests}
use Rattle.std.proofs.lemmas.Option.{same_Some}
use Rattle.fal_base.specs.declared.call.Config.{Config}
use Rattle.fal_base.specs.declared.event.Actor.TheVariants.{Coord}
use Rattle.fal_base.specs.declared.event.Event.{Event}
use Rattle.fal_base.specs.declared.event.Event.TheVariants as event
use Rattle.fal_client.specs.declared.event.ClientEvent.{ClientEvent}
use Rattle.fal_client.specs.declared.event.ClientEvent.TheVariants as client
use Rattle.fal_client.specs.State.{Work as ClientWork}
use Rattle.fal_client.specs.Step.{client_step}
use Rattle.fal_coord.specs.declared.event.CoordEvent.{CoordEvent}
use Rattle.fal_coord.specs.declared.event.CoordEvent.TheVariants as coord
use Rattle.fal_coord.specs.State.{Work as CoordWork}
use Rattle.fal_coord.specs.Step.{coord_step}
use Rattle.fal_node.specs.declared.event.NodeEvent.{NodeEvent}
use Rattle.fal_node.specs.declared.event.NodeEvent.TheVariants as node
use Rattle.fal_node.specs.Letters.{Work}
use Rattle.fal_node.specs.Step.{node_step}
use Rattle.fal_story.proofs.Events.Kept.{node_event, client_event, coord_event}
use Rattle.fal_story.proofs.Histories.Deeds.{deed_does}
use Rattle.fal_story.proofs.Events.Opening.{opening_ghost, opening_shows, opening_ranged}
use Rattle.fal_story.proofs.Events.Shows.{Ghost, Shows}
use Rattle.fal_story.proofs.Ranges.Bounds.{Comes, ComesToClient, ComesToCoord, IsRanged}
use Rattle.fal_story.proofs.Ranges.CoordInRange.{coord_in_range}
use Rattle.fal_story.proofs.Ranges.InRange.{node_in_range, client_in_range}
use Rattle.fal_story.specs.Clusters.{IsCluster, is_lane, is_node}
use Rattle.fal_story.specs.Machines.{coord_hears, coord_made}
use Rattle.fal_story.specs.Run.{Deed, only_where, client_hears, node_hears, client_deed, node_deed, deed, deed_by, done, step, run_from, run, IsLegal}
use Rattle.fal_story.specs.World.{World, opening_world, posted}

-- what holds of the world after a legal run
pub record IsKept (config : Config) (w : World) : Type 0 where
  pub ghost : Ghost
  pub shows : Shows config w ghost
  pub ranged : IsRanged w

client_kept : (config : Config) (w u : World) (l : ℕ) (e : ClientEvent) (o : Option ClientWork) → IsCluster config → IsKept config w → ComesToClient w e → o ≡ client_step (w.clients l) e
    → done config (client_deed w l (only_where (is_lane config l) o)) ≡ Some u → IsKept config u
client_kept config w u l e None cluster k comes is at =
    elim (is_lane config l) as (λ b. done config (client_deed w l (only_where b None)) ≡ Some u → IsKept config u) [ true ↦ λ z. absurd (cc) | false ↦ λ z. absurd (cc) ] at
client_kept config w u l e (Some move) cluster k comes is at =
    elim (is_lane config l) as (λ b. is_lane config l ≡ b → done config (client_deed w l (only_where b (Some move))) ≡ Some u → IsKept config u) [
      | true ↦ λ there z.
          let r = client_in_range config w l k.ghost e move cluster there k.shows k.ranged comes (sym is) in
          let s = client_event config w l k.ghost e move cluster there k.shows comes (sym is) (r.0.records) in
          subst (IsKept config) (same_Some _ u z) (record { ghost = s.0; shows = s.1; ranged = r.1 })
      | false ↦ λ there z. absurd (cc)
    ] refl at

node_kept : (config : Config) (w u : World) (n : ℕ) (e : NodeEvent) (o : Option Work) → IsCluster config → w.events < 2 ^ 63 → IsKept config w → Comes w e → o ≡ node_step (w.nodes n) e
    → done config (node_deed w n (only_where (is_node config n) o)) ≡ Some u → IsKept config u
node_kept config w u n e None cluster few k comes is at =
    elim (is_node config n) as (λ b. done config (node_deed w n (only_where b None)) ≡ Some u → IsKept config u) [ true ↦ λ z. absurd (cc) | false ↦ λ z. absurd (cc) ] at
node_kept config w u n e (Some work) cluster few k comes is at =
    elim (is_node config n) as (λ b. is_node config n ≡ b → done config (node_deed w n (only_where b (Some work))) ≡ Some u → IsKept config u) [
      | true ↦ λ there z.
          let below : n < config.nodes = grind (arith, nat_tests) in
          let r = node_in_range config w n k.ghost e work cluster below few k.shows k.ranged comes (sym is) in
          let s = node_event config w n k.ghost e work cluster below k.shows (k.ranged.nodes n).sorted comes (sym is) (r.0.records) in
          subst (IsKept config) (same_Some _ u z) (record { ghost = s.0; shows = s.1; ranged = r.1 })
      | false ↦ λ there z. absurd (cc)
    ] refl at

coord_kept : (config : Config) (w u : World) (e : CoordEvent) (o : Option CoordWork) → IsCluster config → w.events < 2 ^ 63 → IsKept config w → ComesToCoord w e → o ≡ coord_step w.coord e
    → done config (deed_by w Coord (coord_made o)) ≡ Some u → IsKept config u
coord_kept config w u e None cluster few k comes is at = absurd (cc)
coord_kept config w u e (Some work) cluster few k comes is at =
    let r = coord_in_range config w k.ghost e work cluster few k.shows k.ranged comes (sym is) in
    let s = coord_event config w k.ghost e work cluster k.shows comes (sym is) (r.0.records) in
    subst (IsKept config) (same_Some _ u at) (record { ghost = s.0; shows = s.1; ranged = r.1 })

-- what nobody makes of an event
nothing_client : (config : Config) (w u : World) (l : ℕ) → done config (client_deed w l (only_where (is_lane config l) None)) ≡ Some u → ⊥
nothing_client config w u l = elim (is_lane config l) as (λ b. done config (client_deed w l (only_where b None)) ≡ Some u → ⊥) [ true ↦ λ z. cc | false ↦ λ z. cc ]

nothing_node : (config : Config) (w u : World) (n : ℕ) → done config (node_deed w n (only_where (is_node config n) None)) ≡ Some u → ⊥
nothing_node config w u n = elim (is_node config n) as (λ b. done config (node_deed w n (only_where b None)) ≡ Some u → ⊥) [ true ↦ λ z. cc | false ↦ λ z. cc ]

-- one event keeps what holds
pub step_kept : (config : Config) (w u : World) (e : Event) → IsCluster config → w.events < 2 ^ 63 → IsKept config w → step config w e ≡ Some u → IsKept config u
unfolding deed
step_kept config w u (event.Send l) cluster few k at = client_kept config w u l client.Send _ cluster k tt refl at
step_kept config w u (event.Get l number) cluster few k at =
    elim (slice_get w.envelopes number) as (λ o. slice_get w.envelopes number ≡ o → done config (client_deed w l (only_where (is_lane config l) (client_hears (w.clients l) o))) ≡ Some u → IsKept config u) [
      | None ↦ λ t z. absurd (nothing_client config w u l z)
      | Some x ↦ λ t z. client_kept config w u l (client.Get x) _ cluster k (number, t) refl z
    ] refl at
step_kept config w u (event.Deliver n number) cluster few k at =
    elim (slice_get w.envelopes number) as (λ o. slice_get w.envelopes number ≡ o → done config (node_deed w n (only_where (is_node config n) (node_hears (w.nodes n) o))) ≡ Some u → IsKept config u) [
      | None ↦ λ t z. absurd (nothing_node config w u n z)
      | Some x ↦ λ t z. node_kept config w u n (node.Deliver x) _ cluster few k (number, t) refl z
    ] refl at
step_kept config w u (event.Gather n) cluster few k at = node_kept config w u n node.Gather _ cluster few k tt refl at
step_kept config w u (event.Exec n number) cluster few k at = node_kept config w u n (node.Exec number) _ cluster few k tt refl at
step_kept config w u (event.Release n number) cluster few k at = node_kept config w u n (node.Release number) _ cluster few k tt refl at
step_kept config w u (event.Serve n number) cluster few k at = node_kept config w u n (node.Serve number) _ cluster few k tt refl at
step_kept config w u (event.Hear number) cluster few k at =
    elim (slice_get w.envelopes number) as (λ o. slice_get w.envelopes number ≡ o → done config (deed_by w Coord (coord_made (coord_hears w.coord o))) ≡ Some u → IsKept config u) [
      | None ↦ λ t z. absurd (cc)
      | Some x ↦ λ t z. coord_kept config w u (coord.Hear x) _ cluster few k (number, t) refl z
    ] refl at
step_kept config w u event.Start cluster few k at = coord_kept config w u coord.Start _ cluster few k tt refl at

-- each event is counted
posted_counts : (config : Config) (w u : World) (o : Option Deed) → ((d : Deed) → o ≡ Some d → d.world.events ≡ w.events) → done config o ≡ Some u → u.events ≡ suc w.events
unfolding posted
posted_counts config w u None same at = absurd (cc)
posted_counts config w u (Some d) same at =
    let before = same d refl in
    let after : d.world.events + 1 ≡ u.events = ap (λ (v : World). v.events) (same_Some _ u at) in
    omega arith

pub step_counts : (config : Config) (w u : World) (e : Event) → step config w e ≡ Some u → u.events ≡ suc w.events
step_counts config w u e at = posted_counts config w u (deed config w e) (λ d is. (deed_does config w e d is).events) at

-- what holds in the world before the first event
opening_kept : (config : Config) → IsCluster config → IsKept config (opening_world config)
opening_kept config cluster = record { ghost = opening_ghost; shows = opening_shows config cluster; ranged = opening_ranged config }

-- and so after every run of fewer than 2 ^ 63 events
run_kept : (config : Config) (w u : World) (events : List Event) → IsCluster config → w.events + length events < 2 ^ 63 → IsKept config w → run_from config (Some w) events ≡ Some u → IsKept config u
run_kept config w u [] cluster few k at = subst (IsKept config) (same_Some _ u at) k
run_kept config w u (e ∷ es) cluster few k at =
    elim (step config w e) as (λ o. step config w e ≡ o → run_from config o es ≡ Some u → IsKept config u) [
      | None ↦ λ t z. absurd (dead es z)
      | Some v ↦ λ t z.
          let counted : v.events ≡ suc w.events = step_counts config w v e t in
          let front : w.events < 2 ^ 63 = omega arith in
          let rest : v.events + length es < 2 ^ 63 = omega arith in
          run_kept config v u es cluster rest (step_kept config w v e cluster front k t) z
    ] refl at
  where
    dead : (es : List Event) → run_from config None es ≡ Some u → ⊥
    dead [] z = cc
    dead (x ∷ xs) z = cc

-- what holds of the world after a legal run
pub legal_kept : (config : Config) (events : List Event) (w : World) → IsLegal config events → run config events ≡ Some w → IsKept config w
unfolding run
legal_kept config events w legal at = let few = legal.few in let front : 0 + length events < 2 ^ 63 = omega arith in run_kept config (opening_world config) w events legal.cluster front (opening_kept config legal.cluster) at
