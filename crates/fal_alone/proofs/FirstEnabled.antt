-- The first fresh event of a legal run, other than a Send, is enabled.
use Rattle.std.proofs.Common.{◌≡◌, ℕ, zero, suc, ◌+◌, ◌<◌, ◌≤◌, Bool, true, false, not, cond, List, [], ◌∷◌, ◌++◌, length, map, filter, Some, None, IsTrue, refl, sym, ap, subst, arith, eqb-true}
use Rattle.std.specs.Prelude.{slice_get, is_some, IsSome}
use Rattle.std.specs.List.{flat_map, range_with_len}
use Rattle.std.proofs.lemmas.Bool.Decides.{nat_tests}
use Rattle.fal_base.specs.declared.call.Config.{Config}
use Rattle.fal_base.specs.declared.event.Actor.{Actor}
use Rattle.fal_base.specs.declared.event.Actor.TheVariants.{Client, Node, Coord}
use Rattle.fal_base.specs.declared.event.Envelope.{Envelope}
use Rattle.fal_base.specs.declared.event.Event.{Event}
use Rattle.fal_base.specs.declared.event.Event.TheVariants as event
use Rattle.fal_batch.specs.Plan.{is_idle}
use Rattle.fal_coord.specs.declared.event.CoordEvent.TheVariants as coord_event
use Rattle.fal_coord.specs.Step.{coord_step}
use Rattle.fal_node.specs.declared.batch.Batch.{Batch}
use Rattle.fal_node.specs.declared.event.NodeEvent.TheVariants as node
use Rattle.fal_node.specs.declared.event.OwnEvent.{OwnEvent}
use Rattle.fal_node.specs.declared.event.OwnEvent.TheVariants as own
use Rattle.fal_node.specs.declared.item.Item.{Item}
use Rattle.fal_node.specs.Due.{event_of, dues, due_gather, due_execs, due_releases, due_serves}
use Rattle.fal_node.specs.Exec.{execute, executed}
use Rattle.fal_node.specs.Gather.{plan_at, gathered}
use Rattle.fal_node.specs.Letters.{begun}
use Rattle.fal_node.specs.Serve.{can_serve, serve, served}
use Rattle.fal_node.specs.State.{NodeState, released}
use Rattle.fal_node.specs.Step.{node_step, only_if, release}
use Rattle.fal_alone.proofs.ItemNumbers.{HaveItems, legal_items}
use Rattle.fal_alone.proofs.Hearing.{sent_is_heard}
use Rattle.fal_alone.proofs.Taken.{hears_own, takes_own, client_some, node_some, coord_some}
use Rattle.fal_alone.specs.Turns.{deed_in}
use Rattle.fal_story.proofs.Drain.Dues.{IsDue, due_is}
use Rattle.fal_story.proofs.Lists.Each.{Each, Apart, each_weaker, each_join}
use Rattle.fal_story.proofs.Drain.Follow.{IsFollowed}
use Rattle.fal_story.proofs.Drain.FollowRuns.{legal_lives}
use Rattle.fal_story.proofs.Events.LegalRuns.{IsKept}
use Rattle.fal_story.proofs.Lists.Members.{in_at, at_in, each_in, each_by, each_map, each_filter, find_apart}
use Rattle.fal_story.specs.Clusters.{is_lane, is_node}
use Rattle.fal_story.specs.Fresh.{is_actor, due, event_of_node, fresh_gets, fresh_at_node, fresh_start, fresh_at_coord, fresh_replies, fresh_replies_at, first_reply, came}
use Rattle.fal_story.specs.Machines.{client_hears, node_hears, coord_hears, coord_made}
use Rattle.fal_story.specs.Run.{deed, deed_by, run, IsLegal}
use Rattle.fal_story.specs.World.{World}

-- ---- lists

each_range : {A : Type 0} (P : A → Type 0) (f : ℕ → List A) (from count : ℕ) → ((n : ℕ) → from ≤ n → n < from + count → Each P (f n)) → Each P (flat_map f (range_with_len from count))
each_range P f from zero h = tt
each_range P f from (suc count) h =
    each_join P (f from) (flat_map f (range_with_len (from + 1) count)) (h from (omega arith) (omega arith)) (each_range P f (from + 1) count (λ n low high. h n (omega arith) (omega arith)))

each_due : (a : Actor) (came : ℕ → Bool) (xs : List Envelope) (P : ℕ → Type 0) → ((number : ℕ) → IsDue a came 0 xs number → P number) → Each P (due a came xs)
each_due a came xs P f = each_by P (due a came xs) (λ number m. let at = at_in (due a came xs) number m in f number (due_is a came 0 xs at.0 number at.1))

-- ---- what comes

to_lane : (l : ℕ) (to : Actor) → is_actor (Client l) to ≡ true → to ≡ Client l
to_lane l (Client m) is = ap Client (sym (eqb-true l m is))
to_lane l (Node n) is = absurd (cc)
to_lane l Coord is = absurd (cc)

to_node : (n : ℕ) (to : Actor) → is_actor (Node n) to ≡ true → to ≡ Node n
to_node n (Client l) is = absurd (cc)
to_node n (Node m) is = ap Node (sym (eqb-true n m is))
to_node n Coord is = absurd (cc)

to_coord : (to : Actor) → is_actor Coord to ≡ true → to ≡ Coord
to_coord (Client l) is = absurd (cc)
to_coord (Node n) is = absurd (cc)
to_coord Coord is = refl

-- what is due was sent
due_stands : (a : Actor) (came : ℕ → Bool) (xs : List Envelope) (number : ℕ) (d : IsDue a came 0 xs number) → slice_get xs number ≡ Some d.envelope
due_stands a came xs number d = subst (λ i. slice_get xs i ≡ Some d.envelope) (same d.at number d.is) d.stands
  where
    same : (at number : ℕ) → number ≡ at + 0 → at ≡ number
    same at number is = omega arith

-- ---- a node's own events

-- the event is enabled
abbrev IsOwn : NodeState → OwnEvent → Type 0
IsOwn node e = IsSome (node_step node (event_of e))

gather_own : (node : NodeState) → Each (IsOwn node) (due_gather node)
unfolding node_step
gather_own node =
    elim (is_idle (plan_at node)) as (λ b. is_idle (plan_at node) ≡ b → Each (IsOwn node) (cond b [] (own.Gather ∷ []))) [
      | true ↦ λ is. tt
      | false ↦ λ is. (subst (λ b. IsSome (cond b None (Some (gathered node (plan_at node))))) (sym is) refl, tt)
    ] refl

execs_own : (node : NodeState) → Apart (λ (b : Batch). b.number) node.batches → Each (IsOwn node) (due_execs node)
unfolding node_step
execs_own node apart =
    each_map (IsOwn node) (λ (b : Batch). own.Exec b.number) (filter (λ b. not b.executed) node.batches)
    (each_filter (λ (b : Batch). IsOwn node (own.Exec b.number)) (λ b. not b.executed) node.batches
    (each_by _ node.batches (λ b at waits.
    subst (λ o. IsSome (execute node b.number o)) (sym (find_apart (λ (x : Batch). x.number) node.batches b apart at))
    (subst (λ t. IsSome (cond t None (Some (executed node b.number b)))) (sym (not_true b.executed waits)) refl))))
  where
    not_true : (b : Bool) → not b ≡ true → b ≡ false
    not_true true e = absurd (cc)
    not_true false e = refl

releases_own : (node : NodeState) → Apart (λ (b : Batch). b.number) node.batches → Each (IsOwn node) (due_releases node)
unfolding node_step
releases_own node apart =
    each_map (IsOwn node) (λ (b : Batch). own.Release b.number) (filter (λ b. b.executed) node.batches)
    (each_filter (λ (b : Batch). IsOwn node (own.Release b.number)) (λ b. b.executed) node.batches
    (each_by _ node.batches (λ b at ended.
    subst (λ o. IsSome (release node b.number o)) (sym (find_apart (λ (x : Batch). x.number) node.batches b apart at))
    (subst (λ t. IsSome (only_if t (begun (released node b.number)))) (sym ended) refl))))

serves_own : (node : NodeState) → Apart (λ (i : Item). i.number) node.items → Each (IsOwn node) (due_serves node)
unfolding node_step
serves_own node apart =
    each_map (IsOwn node) (λ (i : Item). own.Serve i.number) (filter (λ i. can_serve node i.message) node.items)
    (each_filter (λ (i : Item). IsOwn node (own.Serve i.number)) (λ i. can_serve node i.message) node.items
    (each_by _ node.items (λ i at can.
    subst (λ o. IsSome (serve node o)) (sym (find_apart (λ (x : Item). x.number) node.items i apart at))
    (subst (λ t. IsSome (cond t (Some (served node i)) None)) (sym can) refl))))

dues_own : (node : NodeState) → Apart (λ (b : Batch). b.number) node.batches → Apart (λ (i : Item). i.number) node.items → Each (IsOwn node) (dues node)
dues_own node batches items =
    let two = each_join (IsOwn node) (due_gather node) (due_execs node) (gather_own node) (execs_own node batches) in
    let three = each_join (IsOwn node) (due_gather node ++ due_execs node) (due_releases node) two (releases_own node batches) in
    each_join (IsOwn node) (due_gather node ++ due_execs node ++ due_releases node) (due_serves node) three (serves_own node items)

-- ---- a world

abbrev IsEnabled : Config → World → Event → Type 0
IsEnabled config w e = IsSome (deed config w e)

own_enabled : (config : Config) (w : World) (n : ℕ) (e : OwnEvent) → IsTrue (is_node config n) → IsOwn (w.nodes n) e → IsEnabled config w (event_of_node n e)
unfolding deed
own_enabled config w n own.Gather there is = node_some w n (is_node config n) (node_step (w.nodes n) node.Gather) there is
own_enabled config w n (own.Exec number) there is = node_some w n (is_node config n) (node_step (w.nodes n) (node.Exec number)) there is
own_enabled config w n (own.Release number) there is = node_some w n (is_node config n) (node_step (w.nodes n) (node.Release number)) there is
own_enabled config w n (own.Serve number) there is = node_some w n (is_node config n) (node_step (w.nodes n) (node.Serve number)) there is

module _ (config : Config) (w : World) (came : ℕ → Bool) (k : IsKept config w) where
  get_enabled : (l number : ℕ) → IsTrue (is_lane config l) → IsDue (Client l) came 0 w.envelopes number → IsEnabled config w (event.Get l number)
  unfolding deed
  get_enabled l number there d =
      client_some w l (is_lane config l) (client_hears (w.clients l) (slice_get w.envelopes number)) there
      (subst (λ o. IsSome (client_hears (w.clients l) o)) (sym (due_stands (Client l) came w.envelopes number d)) (hears_own (w.clients l) d.envelope l (k.shows.heard l).lane (to_lane l d.envelope.to d.to)))

  deliver_enabled : (n number : ℕ) → IsTrue (is_node config n) → IsDue (Node n) came 0 w.envelopes number → IsEnabled config w (event.Deliver n number)
  unfolding deed
  deliver_enabled n number there d =
      node_some w n (is_node config n) (node_hears (w.nodes n) (slice_get w.envelopes number)) there
      (subst (λ o. IsSome (node_hears (w.nodes n) o)) (sym (due_stands (Node n) came w.envelopes number d)) (takes_own (w.nodes n) d.envelope n (k.shows.placed n).number (to_node n d.envelope.to d.to)))

  lane_enabled : (l : ℕ) → IsTrue (is_lane config l) → Each (IsEnabled config w) (fresh_gets w came l)
  lane_enabled l there =
      each_map (IsEnabled config w) (λ number. event.Get l number) (due (Client l) came w.envelopes)
      (each_due (Client l) came w.envelopes (λ number. IsEnabled config w (event.Get l number)) (λ number d. get_enabled l number there d))

  node_enabled : (n : ℕ) → IsTrue (is_node config n) → Each (IsOwn (w.nodes n)) (dues (w.nodes n)) → Each (IsEnabled config w) (fresh_at_node w came n)
  node_enabled n there owned =
      each_join (IsEnabled config w) (map (λ envelope. event.Deliver n envelope) (due (Node n) came w.envelopes)) (map (λ e. event_of_node n e) (dues (w.nodes n)))
      (each_map (IsEnabled config w) (λ envelope. event.Deliver n envelope) (due (Node n) came w.envelopes)
      (each_due (Node n) came w.envelopes (λ envelope. IsEnabled config w (event.Deliver n envelope)) (λ number d. deliver_enabled n number there d)))
      (each_map (IsEnabled config w) (λ e. event_of_node n e) (dues (w.nodes n)) (each_weaker (IsOwn (w.nodes n)) _ (dues (w.nodes n)) (λ e is. own_enabled config w n e there is) owned))

  hear_enabled : (number : ℕ) → IsDue Coord came 0 w.envelopes number → IsEnabled config w (event.Hear number)
  unfolding deed
  hear_enabled number d =
      let stands = due_stands Coord came w.envelopes number d in
      subst (λ o. IsSome (deed_by w Coord (coord_made (coord_hears w.coord o)))) (sym stands)
      (coord_some w (coord_step w.coord (coord_event.Hear d.envelope)) (sent_is_heard w.coord d.envelope (to_coord d.envelope.to d.to)))

  start_enabled : Each (IsEnabled config w) (fresh_start w)
  unfolding deed
  start_enabled =
      elim (is_some (coord_step w.coord coord_event.Start)) as (λ b. is_some (coord_step w.coord coord_event.Start) ≡ b → Each (IsEnabled config w) (cond b (event.Start ∷ []) [])) [
        | true ↦ λ is. (coord_some w (coord_step w.coord coord_event.Start) is, tt)
        | false ↦ λ is. tt
      ] refl

  coord_enabled : Each (IsEnabled config w) (fresh_at_coord w came)
  coord_enabled =
      each_join (IsEnabled config w) (map (λ number. event.Hear number) (due Coord came w.envelopes)) (fresh_start w)
      (each_map (IsEnabled config w) (λ number. event.Hear number) (due Coord came w.envelopes)
      (each_due Coord came w.envelopes (λ number. IsEnabled config w (event.Hear number)) (λ number d. hear_enabled number d)))
      start_enabled

  replies_enabled : IsFollowed w came → HaveItems w → Each (IsEnabled config w) (fresh_replies config w came)
  replies_enabled f items =
      let of_lanes = flat_map (λ lane. fresh_gets w came lane) (range_with_len 1 (length config.lanes)) in
      let of_nodes = flat_map (λ number. fresh_at_node w came number) (range_with_len 0 config.nodes) in
      each_join (IsEnabled config w) (of_lanes ++ of_nodes) (fresh_at_coord w came)
      (each_join (IsEnabled config w) of_lanes of_nodes
      (each_range (IsEnabled config w) (λ lane. fresh_gets w came lane) 1 (length config.lanes) (λ l low high. let there : IsTrue (is_lane config l) = grind (arith, nat_tests) in lane_enabled l there))
      (each_range (IsEnabled config w) (λ number. fresh_at_node w came number) 0 config.nodes
      (λ n low high. let there : IsTrue (is_node config n) = grind (arith, nat_tests) in node_enabled n there (dues_own (w.nodes n) (f.batches n).apart (items n).apart))))
      coord_enabled

-- the first fresh event after a legal run, other than a Send, is enabled
pub first_enabled : (config : Config) (events : List Event) (e : Event) → IsLegal config events → first_reply config events ≡ Some e → IsSome (deed_in config (run config events) e)
first_enabled config events e legal first =
    elim (run config events) as (λ o. run config events ≡ o → slice_get (fresh_replies_at config o (came events)) 0 ≡ Some e → IsSome (deed_in config o e)) [
      | None ↦ λ at z. absurd (cc)
      | Some w ↦ λ at z.
          let live = legal_lives config events w legal at in
          each_in (IsEnabled config w) (fresh_replies config w (came events)) e
          (replies_enabled config w (came events) live.0 live.1.followed (legal_items config events w legal at)) (in_at (fresh_replies config w (came events)) 0 e z)
    ] refl first
