-- A cluster is quiet exactly where its queues are empty, its nodes quiet and its coordinator quiet.
use Rattle.std.proofs.Common.{◌≡◌, ℕ, zero, suc, ◌+◌, ◌-◌, ◌<◌, ◌≤◌, nat_lt, Bool, true, false, ◌&&◌, List, [], ◌∷◌, length, Some, None, refl, sym, ap, ◌∙◌, arith, eq-eqb}
use Rattle.std.specs.Prelude.{slice_get, ◌==◌}
use Rattle.std.specs.List.{list_all}
use Rattle.std.proofs.lemmas.Bool.Decides.{nat_tests}
use Rattle.fal_base.specs.declared.call.Config.{Config}
use Rattle.fal_base.specs.declared.event.Actor.{Actor}
use Rattle.fal_base.specs.declared.event.Actor.TheVariants.{Client, Node, Coord}
use Rattle.fal_base.specs.declared.event.Envelope.{Envelope}
use Rattle.fal_base.specs.declared.event.Event.{Event}
use Rattle.fal_batch.proofs.Truth.{both_first, both_second}
use Rattle.fal_client.specs.State.{ClientState}
use Rattle.fal_coord.specs.State.{CoordState, is_quiet as is_coord_quiet}
use Rattle.fal_node.specs.Due.{is_quiet}
use Rattle.fal_node.specs.Patch.{SeenNode}
use Rattle.fal_story.proofs.Drain.Actors.{IsActor}
use Rattle.fal_story.proofs.Drain.Dues.{none_due, all_came}
use Rattle.fal_story.proofs.Lists.Members.{each_in, in_at}
use Rattle.fal_story.proofs.Drain.Moving.{IsMoving}
use Rattle.fal_story.proofs.Drain.MovingRuns.{legal_moves}
use Rattle.fal_story.specs.Fresh.{IsQuiet, IsQuietAt, is_actor, due, came}
use Rattle.fal_story.specs.Run.{IsLegal, run}
use Rattle.fal_story.specs.World.{World}
use Rattle.fal_alone.proofs.FreshRuns.{lane_at, other_queue}
use Rattle.fal_alone.specs.Queues.{QueueSeen, actor_at}
use Rattle.fal_alone.specs.Whole.{IsWhole, IsWholeIn, IsWholeAt}

-- ---- lists

all_at : {A : Type 0} (p : A → Bool) (xs : List A) → list_all p xs ≡ true → (k : ℕ) (x : A) → slice_get xs k ≡ Some x → p x ≡ true
all_at p [] all k x at = absurd (cc)
all_at p (y ∷ xs) all zero x at = let same : y ≡ x = cc in ap p (sym same) ∙ both_first (p y) (list_all p xs) all
all_at p (y ∷ xs) all (suc k) x at = all_at p xs (both_second (p y) (list_all p xs) all) k x at

all_by : {A : Type 0} (p : A → Bool) (xs : List A) → ((k : ℕ) (x : A) → slice_get xs k ≡ Some x → p x ≡ true) → list_all p xs ≡ true
all_by p [] h = refl
all_by p (y ∷ xs) h = ap (λ b. b && list_all p xs) (h 0 y refl) ∙ all_by p xs (λ k x at. h (suc k) x at)

some_at : {A : Type 0} (xs : List A) (k : ℕ) → k < length xs → (x : A) × (slice_get xs k ≡ Some x)
some_at [] k below = absurd (omega arith)
some_at (x ∷ xs) zero below = (x, refl)
some_at (x ∷ xs) (suc k) below = some_at xs k (omega arith)

none_left : (xs : List ℕ) → (length xs == 0) ≡ true → xs ≡ []
none_left [] e = refl
none_left (x ∷ xs) e = let wrong : (suc (length xs) == 0) ≡ false = grind (arith, nat_tests) in absurd (cc)

itself : (a : Actor) → is_actor a a ≡ true
itself (Client lane) = eq-eqb lane lane refl
itself (Node n) = eq-eqb n n refl
itself Coord = refl

-- whether the queues are all empty
abbrev pub no_numbers : List QueueSeen → Bool
no_numbers queues = list_all (λ queue. length queue.items == 0) queues

-- whether the nodes are all quiet
abbrev pub all_quiet : List SeenNode → Bool
all_quiet nodes = list_all (λ n. is_quiet n.state) nodes

-- no queue has a number, and every node and the coordinator are quiet
pub record AllRest (nodes : List SeenNode) (coord : CoordState) (queues : List QueueSeen) : Type 0 where
  pub empty : no_numbers queues ≡ true
  pub quiet : all_quiet nodes ≡ true
  pub rests : is_coord_quiet coord ≡ true

module _ (config : Config) (w : World) (c : ℕ → Bool) (clients : List ClientState) (nodes : List SeenNode) (coord : CoordState) (queues : List QueueSeen) (at : IsWholeIn (length config.lanes) w c clients nodes coord queues) where
  -- nothing is due to an actor with an empty queue
  none_at : (place : ℕ) (actor : Actor) → length queues ≡ length config.lanes + 1 + config.nodes → no_numbers queues ≡ true → place < length config.lanes + 1 + config.nodes → actor_at (length config.lanes) place ≡ actor → due actor c w.envelopes ≡ []
  none_at place actor size empty there is =
      let q = some_at queues place (omega arith) in
      ap (λ a. due a c w.envelopes) (sym is) ∙ sym (at.queues_are place q.0 q.1) ∙ none_left q.0.items (all_at (λ (queue : QueueSeen). length queue.items == 0) queues empty place q.0 q.1)

  none_to : (actor : Actor) → length queues ≡ length config.lanes + 1 + config.nodes → no_numbers queues ≡ true → IsActor config actor → due actor c w.envelopes ≡ []
  none_to (Client lane) size empty there =
      let above : 1 ≤ lane = grind (arith, nat_tests) in
      let below : lane ≤ length config.lanes = grind (arith, nat_tests) in
      let e : lane - 1 + 1 ≡ lane = omega arith in
      none_at (lane - 1) (Client lane) size empty (omega arith) (lane_at (length config.lanes) (lane - 1) (omega arith) ∙ ap Client e)
  none_to (Node n) size empty there = none_at (length config.lanes + suc n) (Node n) size empty (omega arith) (other_queue (length config.lanes) (suc n))
  none_to Coord size empty there = none_at (length config.lanes + 0) Coord size empty (omega arith) (other_queue (length config.lanes) 0)

  quiet_in : length queues ≡ length config.lanes + 1 + config.nodes → length nodes ≡ config.nodes → IsMoving config w c → no_numbers queues ≡ true → all_quiet nodes ≡ true → is_coord_quiet coord ≡ true → IsQuiet config w c
  quiet_in size count m empty quiet rests = record {
    all_came = λ k x is.
        let e : k + 0 ≡ k = omega arith in
        ap c (sym e) ∙ none_due x.to c 0 w.envelopes (none_to x.to size empty (each_in (λ (y : Envelope). IsActor config y.to) w.envelopes x m.within (in_at w.envelopes k x is))) k x is (itself x.to);
    nodes = λ n.
        elim (nat_lt n config.nodes) as (λ b. nat_lt n config.nodes ≡ b → is_quiet (w.nodes n) ≡ true) [
          | true ↦ λ is.
              let there : n < config.nodes = grind (arith, nat_tests) in
              let x = some_at nodes n (omega arith) in
              ap is_quiet (sym (at.nodes_are n x.0 x.1)) ∙ all_at (λ (y : SeenNode). is_quiet y.state) nodes quiet n x.0 x.1
          | false ↦ λ is. let beyond : config.nodes ≤ n = grind (arith, nat_tests) in m.beyond n beyond
        ] refl;
    coord = ap (λ (x : CoordState). is_coord_quiet x) (sym at.coord_is) ∙ rests;
  }

  empty_in : IsQuiet config w c → AllRest nodes coord queues
  empty_in quiet = record {
    empty = all_by (λ (queue : QueueSeen). length queue.items == 0) queues (λ k q is.
        let came_before = λ (j : ℕ) (x : Envelope) (there : slice_get w.envelopes j ≡ Some x). let e : j + 0 ≡ j = omega arith in ap c e ∙ quiet.all_came j x there in
        ap (λ (xs : List ℕ). length xs == 0) (at.queues_are k q is ∙ all_came (actor_at (length config.lanes) k) c 0 w.envelopes came_before));
    quiet = all_by (λ (n : SeenNode). is_quiet n.state) nodes (λ k n is. ap is_quiet (at.nodes_are k n is) ∙ quiet.nodes k);
    rests = ap (λ (x : CoordState). is_coord_quiet x) at.coord_is ∙ quiet.coord;
  }

-- ---- a whole cluster

module _ (config : Config) (events : List Event) (clients : List ClientState) (nodes : List SeenNode) (coord : CoordState) (queues : List QueueSeen) (whole : IsWhole config events clients nodes coord queues) where
  -- where all rest, the run is quiet
  pub quiet_run : IsLegal config events → no_numbers queues ≡ true → all_quiet nodes ≡ true → is_coord_quiet coord ≡ true → IsQuietAt config (run config events) (came events)
  quiet_run legal empty quiet rests =
      elim (run config events) as (λ o. run config events ≡ o → IsWholeAt (length config.lanes) o (came events) clients nodes coord queues → IsQuietAt config o (came events)) [
        | None ↦ λ is at. absurd at
        | Some w ↦ λ is at. quiet_in config w (came events) clients nodes coord queues at whole.queues_count whole.nodes_count (legal_moves config events w legal is).1 empty quiet rests
      ] refl whole.at

  -- where the run is quiet, all rest
  pub run_quiet : IsQuietAt config (run config events) (came events) → AllRest nodes coord queues
  run_quiet quiet =
      elim (run config events) as (λ o. IsWholeAt (length config.lanes) o (came events) clients nodes coord queues → IsQuietAt config o (came events) → AllRest nodes coord queues) [
        | None ↦ λ at q. absurd at
        | Some w ↦ λ at q. empty_in config w (came events) clients nodes coord queues at q
      ] whole.at quiet
