-- Whose event each event is, and where what comes is enabled.
use Rattle.std.proofs.Common.{◌≡◌, ℕ, ◌<◌, Bool, true, false, List, [], Some, None, Option, IsTrue, refl, sym, ap, ◌∙◌, subst, arith, eqb-true, eq-eqb}
use Rattle.std.specs.Prelude.{slice_get, is_some, IsSome, IsNone}
use Rattle.std.proofs.lemmas.Bool.Decides.{nat_tests}
use Rattle.std.proofs.lemmas.Option.{none-some}
use Rattle.fal_base.specs.declared.call.Config.{Config}
use Rattle.fal_base.specs.declared.event.Actor.{Actor}
use Rattle.fal_base.specs.declared.event.Actor.TheVariants.{Client, Node, Coord}
use Rattle.fal_base.specs.declared.event.Envelope.{Envelope}
use Rattle.fal_base.specs.declared.event.Event.{Event}
use Rattle.fal_base.specs.declared.event.Event.TheVariants as event
use Rattle.fal_client.specs.declared.event.ClientEvent.TheVariants as client
use Rattle.fal_client.specs.State.{ClientState, Work as ClientWork}
use Rattle.fal_client.specs.Step.{client_step, got, is_to_lane as is_for}
use Rattle.fal_coord.specs.declared.event.CoordEvent.TheVariants as coord_event
use Rattle.fal_coord.specs.State.{Work as CoordWork}
use Rattle.fal_coord.specs.Step.{coord_step}
use Rattle.fal_node.specs.declared.event.NodeEvent.TheVariants as node
use Rattle.fal_node.specs.Deliver.{delivered}
use Rattle.fal_node.specs.Letters.{Work}
use Rattle.fal_node.specs.State.{NodeState}
use Rattle.fal_node.specs.Step.{node_step, only_if, is_to_node as is_of}
use Rattle.fal_story.proofs.Drain.Actors.{IsActor}
use Rattle.fal_story.proofs.Events.Enabled.{delivers}
use Rattle.fal_story.proofs.Events.EnabledClient.{gets_own}
use Rattle.fal_story.proofs.Events.LegalRuns.{legal_kept}
use Rattle.fal_story.proofs.Lists.Members.{each_in, in_at}
use Rattle.fal_story.proofs.Drain.MovingRuns.{legal_moves}
use Rattle.fal_story.specs.Clusters.{is_lane, is_node}
use Rattle.fal_story.specs.Machines.{Made, only_where, client_hears, node_hears, coord_hears, client_made, node_made, coord_made}
use Rattle.fal_story.specs.Run.{run, client_deed, node_deed, deed, deed_by, envelopes_at, IsLegal}
use Rattle.fal_story.specs.World.{World}
use Rattle.fal_alone.proofs.Hearing.{heard_was_sent, sent_is_heard}
use Rattle.fal_alone.specs.Queues.{WasSentTo}
use Rattle.fal_alone.specs.Turns.{deed_in, IsEventOfClientIn, IsEventOfNodeIn, IsEventOfCoordIn}

-- ---- whose event it is

-- what makes something of work makes nothing where there is none, so it does not matter where that is asked
where_made : {A : Type 0} (made : Option A → Option Made) → made None ≡ None → (there : Bool) (work : Option A) → made (only_where there work) ≡ only_where there (made work)
where_made made nothing true work = refl
where_made made nothing false work = nothing

client_where : (config : Config) (lane : ℕ) (work : Option ClientWork) → client_made (only_where (is_lane config lane) work) ≡ only_where (is_lane config lane) (client_made work)
client_where config lane work = where_made client_made refl (is_lane config lane) work

node_where : (config : Config) (n : ℕ) (work : Option Work) → node_made (only_where (is_node config n) work) ≡ only_where (is_node config n) (node_made work)
node_where config n work = where_made node_made refl (is_node config n) work

-- a Send is its lane's
pub of_send : (config : Config) (o : Option World) (lane : ℕ) → IsSome o → IsEventOfClientIn config o (event.Send lane) lane client.Send
of_send config None lane some = absurd (cc)
of_send config (Some w) lane some = record { by = refl; gets = tt; makes = λ c. client_where config lane (client_step c client.Send) }

-- a Get is its lane's, which hears the envelope
pub of_get : (config : Config) (o : Option World) (lane number : ℕ) (x : Envelope) → IsSome o → slice_get (envelopes_at o) number ≡ Some x → IsEventOfClientIn config o (event.Get lane number) lane (client.Get x)
of_get config None lane number x some at = absurd (cc)
of_get config (Some w) lane number x some at = record {
  by = refl;
  gets = at;
  makes = λ c. ap (λ y. client_made (only_where (is_lane config lane) (client_hears c y))) at ∙ client_where config lane (client_step c (client.Get x));
}

-- a Deliver is its node's, which hears the envelope
pub of_deliver : (config : Config) (o : Option World) (n number : ℕ) (x : Envelope) → IsSome o → slice_get (envelopes_at o) number ≡ Some x → IsEventOfNodeIn config o (event.Deliver n number) n (node.Deliver x)
of_deliver config None n number x some at = absurd (cc)
of_deliver config (Some w) n number x some at = record {
  by = refl;
  gets = at;
  makes = λ m. ap (λ y. node_made (only_where (is_node config n) (node_hears m y))) at ∙ node_where config n (node_step m (node.Deliver x));
}

-- a Gather is its node's
pub of_gather : (config : Config) (o : Option World) (n : ℕ) → IsSome o → IsEventOfNodeIn config o (event.Gather n) n node.Gather
of_gather config None n some = absurd (cc)
of_gather config (Some w) n some = record { by = refl; gets = tt; makes = λ m. node_where config n (node_step m node.Gather) }

-- an Exec is its node's
pub of_exec : (config : Config) (o : Option World) (n batch : ℕ) → IsSome o → IsEventOfNodeIn config o (event.Exec n batch) n (node.Exec batch)
of_exec config None n batch some = absurd (cc)
of_exec config (Some w) n batch some = record { by = refl; gets = tt; makes = λ m. node_where config n (node_step m (node.Exec batch)) }

-- a Release is its node's
pub of_release : (config : Config) (o : Option World) (n batch : ℕ) → IsSome o → IsEventOfNodeIn config o (event.Release n batch) n (node.Release batch)
of_release config None n batch some = absurd (cc)
of_release config (Some w) n batch some = record { by = refl; gets = tt; makes = λ m. node_where config n (node_step m (node.Release batch)) }

-- a Serve is its node's
pub of_serve : (config : Config) (o : Option World) (n item : ℕ) → IsSome o → IsEventOfNodeIn config o (event.Serve n item) n (node.Serve item)
of_serve config None n item some = absurd (cc)
of_serve config (Some w) n item some = record { by = refl; gets = tt; makes = λ m. node_where config n (node_step m (node.Serve item)) }

-- a Hear is the coordinator's, which hears the envelope
pub of_hear : (config : Config) (o : Option World) (number : ℕ) (x : Envelope) → IsSome o → slice_get (envelopes_at o) number ≡ Some x → IsEventOfCoordIn config o (event.Hear number) (coord_event.Hear x)
of_hear config None number x some at = absurd (cc)
of_hear config (Some w) number x some at = record { by = refl; gets = at; makes = λ c. ap (λ y. coord_made (coord_hears c y)) at }

-- a Start is the coordinator's
pub of_start : (config : Config) (o : Option World) → IsSome o → IsEventOfCoordIn config o event.Start coord_event.Start
of_start config None some = absurd (cc)
of_start config (Some w) some = record { by = refl; gets = tt; makes = λ c. refl }

-- ---- what comes to a lane

unsent_get : (w : World) (lane number : ℕ) (there : Bool) (o : Option Envelope) (m : Option ClientWork) → slice_get w.envelopes number ≡ o → client_hears (w.clients lane) o ≡ m → (w.clients lane).lane ≡ lane
    → (WasSentTo (Client lane) number w.envelopes → ⊥) → client_deed w lane (only_where there m) ≡ None
unsent_get w lane number false o m at is own none = refl
unsent_get w lane number true o None at is own none = refl
unsent_get w lane number true None (Some move) at is own none = absurd (cc)
unsent_get w lane number true (Some x) (Some move) at is own none = absurd (none (x, (at, gets_own (w.clients lane) x move is ∙ ap Client own)))

-- where the envelope was not sent to the lane, it does not come to it
pub no_get : (config : Config) (events : List Event) (lane number : ℕ) → IsLegal config events → (WasSentTo (Client lane) number (envelopes_at (run config events)) → ⊥) → IsNone (deed_in config (run config events) (event.Get lane number))
unfolding deed
no_get config events lane number legal none =
    elim (run config events) as (λ o. run config events ≡ o → (WasSentTo (Client lane) number (envelopes_at o) → ⊥) → IsNone (deed_in config o (event.Get lane number))) [
      | None ↦ λ t f. refl
      | Some w ↦ λ t f.
          let kept = legal_kept config events w legal t in
          ap (λ d. is_some d) (unsent_get w lane number (is_lane config lane) (slice_get w.envelopes number) (client_hears (w.clients lane) (slice_get w.envelopes number)) refl refl (kept.shows.heard lane).lane f)
    ] refl none

-- a client hears what was sent to its lane
pub hears_own : (c : ClientState) (x : Envelope) (lane : ℕ) → c.lane ≡ lane → x.to ≡ Client lane → is_some (client_step c (client.Get x)) ≡ true
unfolding client_step is_for got
hears_own c x lane own to = ap (λ b. is_some (got c x b)) (ap (is_for c.lane) to ∙ eq-eqb lane c.lane (sym own))

-- where the lane is there, what its client makes is the event's deed
pub client_some : (w : World) (lane : ℕ) (there : Bool) (m : Option ClientWork) → there ≡ true → is_some m ≡ true → is_some (client_deed w lane (only_where there m)) ≡ true
client_some w lane false m here some = absurd (cc)
client_some w lane true None here some = absurd (cc)
client_some w lane true (Some move) here some = refl

-- what was sent to a lane comes to it
pub some_get : (config : Config) (events : List Event) (lane number : ℕ) → IsLegal config events → WasSentTo (Client lane) number (envelopes_at (run config events)) → IsSome (deed_in config (run config events) (event.Get lane number))
unfolding deed
some_get config events lane number legal sent =
    elim (run config events) as (λ o. run config events ≡ o → WasSentTo (Client lane) number (envelopes_at o) → IsSome (deed_in config o (event.Get lane number))) [
      | None ↦ λ t s. absurd (nowhere s)
      | Some w ↦ λ t s.
          let x = s.0 in
          let at = s.1.0 in
          let to = s.1.1 in
          let moves = legal_moves config events w legal t in
          let there : IsTrue (is_lane config lane) = subst (IsActor config) to (each_in (λ (e : Envelope). IsActor config e.to) w.envelopes x moves.1.within (in_at w.envelopes number x at)) in
          subst (λ y. is_some (client_deed w lane (only_where (is_lane config lane) (client_hears (w.clients lane) y))) ≡ true) (sym at)
          (client_some w lane (is_lane config lane) (client_step (w.clients lane) (client.Get x)) there (hears_own (w.clients lane) x lane (moves.0.shows.heard lane).lane to))
    ] refl sent
  where
    nowhere : WasSentTo (Client lane) number [] → ⊥
    nowhere s = let at = s.1.0 in absurd (cc)

-- ---- what comes to a node

node_to : (to : Actor) (number : ℕ) → is_of to number ≡ true → to ≡ Node number
node_to (Node m) number is = ap Node (eqb-true m number is)
node_to other number is = absurd (cc)

-- what comes to a node was sent to it
delivers_own : (n : NodeState) (x : Envelope) (work : Work) → node_step n (node.Deliver x) ≡ Some work → x.to ≡ Node n.number
delivers_own n x work is = delivers n x work (λ k. x.to ≡ Node n.number) (λ to. node_to x.to n.number to) is

unsent_deliver : (w : World) (n number : ℕ) (there : Bool) (o : Option Envelope) (m : Option Work) → slice_get w.envelopes number ≡ o → node_hears (w.nodes n) o ≡ m → (w.nodes n).number ≡ n
    → (WasSentTo (Node n) number w.envelopes → ⊥) → node_deed w n (only_where there m) ≡ None
unsent_deliver w n number false o m at is own none = refl
unsent_deliver w n number true o None at is own none = refl
unsent_deliver w n number true None (Some work) at is own none = absurd (cc)
unsent_deliver w n number true (Some x) (Some work) at is own none = absurd (none (x, (at, delivers_own (w.nodes n) x work is ∙ ap Node own)))

-- where the envelope was not sent to the node, it does not come to it
pub no_deliver : (config : Config) (events : List Event) (n number : ℕ) → IsLegal config events → (WasSentTo (Node n) number (envelopes_at (run config events)) → ⊥) → IsNone (deed_in config (run config events) (event.Deliver n number))
unfolding deed
no_deliver config events n number legal none =
    elim (run config events) as (λ o. run config events ≡ o → (WasSentTo (Node n) number (envelopes_at o) → ⊥) → IsNone (deed_in config o (event.Deliver n number))) [
      | None ↦ λ t f. refl
      | Some w ↦ λ t f.
          let kept = legal_kept config events w legal t in
          ap (λ d. is_some d) (unsent_deliver w n number (is_node config n) (slice_get w.envelopes number) (node_hears (w.nodes n) (slice_get w.envelopes number)) refl refl (kept.shows.placed n).number f)
    ] refl none

-- a node takes what was sent to it
pub takes_own : (n : NodeState) (x : Envelope) (number : ℕ) → n.number ≡ number → x.to ≡ Node number → is_some (node_step n (node.Deliver x)) ≡ true
unfolding node_step
takes_own n x number own to = ap (λ b. is_some (only_if b (delivered n x))) (ap (λ a. is_of a n.number) to ∙ eq-eqb number n.number (sym own))

-- where the node is there, what it makes is the event's deed
pub node_some : (w : World) (n : ℕ) (there : Bool) (m : Option Work) → there ≡ true → is_some m ≡ true → is_some (node_deed w n (only_where there m)) ≡ true
node_some w n false m here some = absurd (cc)
node_some w n true None here some = absurd (cc)
node_some w n true (Some work) here some = refl

-- what was sent to a node comes to it
pub some_deliver : (config : Config) (events : List Event) (n number : ℕ) → IsLegal config events → WasSentTo (Node n) number (envelopes_at (run config events)) → IsSome (deed_in config (run config events) (event.Deliver n number))
unfolding deed
some_deliver config events n number legal sent =
    elim (run config events) as (λ o. run config events ≡ o → WasSentTo (Node n) number (envelopes_at o) → IsSome (deed_in config o (event.Deliver n number))) [
      | None ↦ λ t s. absurd (nowhere s)
      | Some w ↦ λ t s.
          let x = s.0 in
          let at = s.1.0 in
          let to = s.1.1 in
          let moves = legal_moves config events w legal t in
          let below : n < config.nodes = subst (IsActor config) to (each_in (λ (e : Envelope). IsActor config e.to) w.envelopes x moves.1.within (in_at w.envelopes number x at)) in
          let there : is_node config n ≡ true = grind (arith, nat_tests) in
          subst (λ y. is_some (node_deed w n (only_where (is_node config n) (node_hears (w.nodes n) y))) ≡ true) (sym at)
          (node_some w n (is_node config n) (node_step (w.nodes n) (node.Deliver x)) there (takes_own (w.nodes n) x n (moves.0.shows.placed n).number to))
    ] refl sent
  where
    nowhere : WasSentTo (Node n) number [] → ⊥
    nowhere s = let at = s.1.0 in absurd (cc)

-- ---- what comes to the coordinator

unsent_hear : (w : World) (number : ℕ) (o : Option Envelope) (m : Option CoordWork) → slice_get w.envelopes number ≡ o → coord_hears w.coord o ≡ m → (WasSentTo Coord number w.envelopes → ⊥) → deed_by w Coord (coord_made m) ≡ None
unsent_hear w number o None at is none = refl
unsent_hear w number None (Some work) at is none = absurd (none-some work is)
unsent_hear w number (Some x) (Some work) at is none = absurd (none (x, (at, heard_was_sent w.coord x work is)))

-- where the envelope was not sent to the coordinator, it does not come to it
pub no_hear : (config : Config) (events : List Event) (number : ℕ) → (WasSentTo Coord number (envelopes_at (run config events)) → ⊥) → IsNone (deed_in config (run config events) (event.Hear number))
unfolding deed
no_hear config events number none =
    elim (run config events) as (λ o. (WasSentTo Coord number (envelopes_at o) → ⊥) → IsNone (deed_in config o (event.Hear number))) [
      | None ↦ λ f. refl
      | Some w ↦ λ f. ap (λ d. is_some d) (unsent_hear w number (slice_get w.envelopes number) (coord_hears w.coord (slice_get w.envelopes number)) refl refl f)
    ] none

-- what the coordinator makes is the event's deed
pub coord_some : (w : World) (m : Option CoordWork) → is_some m ≡ true → is_some (deed_by w Coord (coord_made m)) ≡ true
coord_some w None some = absurd (cc)
coord_some w (Some work) some = refl

-- what was sent to the coordinator comes to it
pub some_hear : (config : Config) (events : List Event) (number : ℕ) → IsLegal config events → WasSentTo Coord number (envelopes_at (run config events)) → IsSome (deed_in config (run config events) (event.Hear number))
unfolding deed
some_hear config events number legal sent =
    elim (run config events) as (λ o. run config events ≡ o → WasSentTo Coord number (envelopes_at o) → IsSome (deed_in config o (event.Hear number))) [
      | None ↦ λ t s. absurd (nowhere s)
      | Some w ↦ λ t s.
          let x = s.0 in
          subst (λ y. is_some (deed_by w Coord (coord_made (coord_hears w.coord y))) ≡ true) (sym s.1.0)
          (coord_some w (coord_step w.coord (coord_event.Hear x)) (sent_is_heard w.coord x s.1.1))
    ] refl sent
  where
    nowhere : WasSentTo Coord number [] → ⊥
    nowhere s = let at = s.1.0 in absurd (cc)
