-- What an actor makes of an event after a legal run is within the ranges of records and counters.
use Rattle.std.proofs.Common.{◌≡◌, ℕ, ◌+◌, ◌<◌, ◌^◌, List, [], ◌∷◌, length, Some, None, refl, sym, ap, subst, arith}
use Rattle.std.specs.Prelude.{IsTrue, slice_get}
use Rattle.std.proofs.lemmas.Bool.Decides.{nat_tests}
use Rattle.std.proofs.lemmas.Option.{none-some, same_Some}
use Rattle.fal_base.specs.declared.call.Config.{Config}
use Rattle.fal_base.specs.declared.event.Envelope.{Envelope}
use Rattle.fal_base.specs.declared.event.Event.{Event}
use Rattle.fal_base.specs.declared.event.Event.TheVariants as event
use Rattle.fal_client.specs.declared.event.ClientEvent.{ClientEvent}
use Rattle.fal_client.specs.declared.event.ClientEvent.TheVariants as client
use Rattle.fal_client.specs.State.{ClientState}
use Rattle.fal_client.specs.Step.{CanMake}
use Rattle.fal_coord.specs.declared.event.CoordEvent.{CoordEvent}
use Rattle.fal_coord.specs.declared.event.CoordEvent.TheVariants as coord_event
use Rattle.fal_coord.specs.State.{CoordState}
use Rattle.fal_coord.specs.Step.{CanMake as CanMakeCoord}
use Rattle.fal_node.specs.declared.event.NodeEvent.{NodeEvent}
use Rattle.fal_node.specs.declared.event.NodeEvent.TheVariants as node
use Rattle.fal_node.specs.State.{NodeState}
use Rattle.fal_node.specs.Step.{StaysWithin}
use Rattle.fal_story.proofs.Ranges.CoordInRange.{coord_in_range}
use Rattle.fal_story.proofs.Ranges.InRange.{client_in_range, node_in_range}
use Rattle.fal_story.proofs.Events.LegalRuns.{legal_kept, step_counts}
use Rattle.fal_story.proofs.Ranges.Bounds.{Comes, ComesToClient, ComesToCoord}
use Rattle.fal_story.specs.Clusters.{is_lane, is_node}
use Rattle.fal_story.specs.Machines.{envelope_named}
use Rattle.fal_story.specs.Run.{IsLegal, run, run_from, step}
use Rattle.fal_story.specs.Told.{Told}
use Rattle.fal_story.specs.World.{World, opening_world}
use Rattle.fal_alone.specs.Turns.{world_of, ClientGets, CoordGets, NodeGets, IsEventOfClient, IsEventOfClientIn, IsEventOfCoord, IsEventOfCoordIn, IsEventOfNode, IsEventOfNodeIn, IsClientIn, IsCoordIn, IsNodeIn}

-- the envelope that an event names was sent
named_sent : (sent : List Envelope) (e : Event) (x : Envelope) → envelope_named sent e ≡ Some x → (number : ℕ) × (slice_get sent number ≡ Some x)
named_sent sent (event.Get lane number) x at = (number, at)
named_sent sent (event.Deliver node number) x at = (number, at)
named_sent sent (event.Hear number) x at = (number, at)
named_sent sent e x at = absurd (none-some x at)

comes_to_client : (w : World) (e : Event) (own : ClientEvent) → ClientGets own (envelope_named w.envelopes e) → ComesToClient w own
comes_to_client w e (client.Get envelope) gets = named_sent w.envelopes e envelope gets
comes_to_client w e client.Send gets = tt

comes_to_node : (w : World) (e : Event) (own : NodeEvent) → NodeGets own (envelope_named w.envelopes e) → Comes w own
comes_to_node w e (node.Deliver envelope) gets = named_sent w.envelopes e envelope gets
comes_to_node w e node.Gather gets = tt
comes_to_node w e (node.Exec batch) gets = tt
comes_to_node w e (node.Release batch) gets = tt
comes_to_node w e (node.Serve item) gets = tt

comes_to_coord : (w : World) (e : Event) (own : CoordEvent) → CoordGets own (envelope_named w.envelopes e) → ComesToCoord w own
comes_to_coord w e (coord_event.Hear envelope) gets = named_sent w.envelopes e envelope gets
comes_to_coord w e coord_event.Start gets = tt

-- a world counts the events that led to it
run_counts : (config : Config) (w u : World) (events : List Event) → run_from config (Some w) events ≡ Some u → u.events ≡ w.events + length events
run_counts config w u [] at = let same : w.events ≡ u.events = ap (λ (v : World). v.events) (same_Some w u at) in omega arith
run_counts config w u (e ∷ es) at =
    elim (step config w e) as (λ o. step config w e ≡ o → run_from config o es ≡ Some u → u.events ≡ w.events + length (e ∷ es)) [
      | None ↦ λ t z. absurd (dead es z)
      | Some v ↦ λ t z.
          let one = step_counts config w v e t in
          let rest = run_counts config v u es z in
          omega arith
    ] refl at
  where
    dead : (es : List Event) → run_from config None es ≡ Some u → ⊥
    dead [] z = cc
    dead (x ∷ xs) z = cc

-- a short run leads to a world of few events
few_events : (config : Config) (w : World) (events : List Event) → length events < 2 ^ 63 → run config events ≡ Some w → w.events < 2 ^ 63
unfolding run
few_events config w events few at = let all : w.events ≡ 0 + length events = run_counts config (opening_world config) w events at in omega arith

-- what a client makes of an event is within the ranges
pub client_can_make : (told : Told) (e : Event) (lane : ℕ) (own : ClientEvent) (c : ClientState) → IsLegal told.config told.events → IsTrue (is_lane told.config lane)
    → IsEventOfClient told e lane own → IsClientIn (world_of told) lane c → CanMake c own
client_can_make told e lane own c legal there is at =
    elim (run told.config told.events) as (λ o. run told.config told.events ≡ o → IsEventOfClientIn told.config o e lane own → IsClientIn o lane c → CanMake c own) [
      | None ↦ λ r i a. absurd i
      | Some w ↦ λ r i a.
          let k = legal_kept told.config told.events w legal r in
          subst (λ s. CanMake s own) (sym a)
          (λ move moves. (client_in_range told.config w lane k.ghost own move legal.cluster there k.shows k.ranged (comes_to_client w e own i.gets) moves).0)
    ] refl is at

-- and so is what a node makes
pub node_stays_within : (told : Told) (e : Event) (number : ℕ) (own : NodeEvent) (n : NodeState) → IsLegal told.config told.events → IsTrue (is_node told.config number)
    → IsEventOfNode told e number own → IsNodeIn (world_of told) number n → StaysWithin n own
node_stays_within told e number own n legal there is at =
    elim (run told.config told.events) as (λ o. run told.config told.events ≡ o → IsEventOfNodeIn told.config o e number own → IsNodeIn o number n → StaysWithin n own) [
      | None ↦ λ r i a. absurd i
      | Some w ↦ λ r i a.
          let k = legal_kept told.config told.events w legal r in
          let below : number < told.config.nodes = grind (arith, nat_tests) in
          subst (λ s. StaysWithin s own) (sym a)
          (λ work does.
          (node_in_range told.config w number k.ghost own work legal.cluster below (few_events told.config w told.events legal.few r) k.shows k.ranged (comes_to_node w e own i.gets) does).0)
    ] refl is at

-- and so is what the coordinator makes
pub coord_can_make : (told : Told) (e : Event) (own : CoordEvent) (c : CoordState) → IsLegal told.config told.events → IsEventOfCoord told e own → IsCoordIn (world_of told) c → CanMakeCoord c own
coord_can_make told e own c legal is at =
    elim (run told.config told.events) as (λ o. run told.config told.events ≡ o → IsEventOfCoordIn told.config o e own → IsCoordIn o c → CanMakeCoord c own) [
      | None ↦ λ r i a. absurd i
      | Some w ↦ λ r i a.
          let k = legal_kept told.config told.events w legal r in
          let few = few_events told.config w told.events legal.few r in
          subst (λ s. CanMakeCoord s own) (sym a)
          (λ work makes. (coord_in_range told.config w k.ghost own work legal.cluster few k.shows k.ranged (comes_to_coord w e own i.gets) makes).0)
    ] refl is at
