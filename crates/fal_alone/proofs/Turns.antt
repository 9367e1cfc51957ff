-- An event of an actor that is there adds to a run what the actor's step makes.
use Rattle.std.proofs.Common.{◌≡◌, ℕ, ◌+◌, Bool, true, false, ◌++◌, length, Option, Some, None, refl, sym, ap, ◌∙◌, subst, arith, eqb-true, length-append}
use Rattle.std.specs.Prelude.{slice_get, IsTrue, IsNone, IsSomeAnd, List}
use Rattle.std.proofs.lemmas.List.{length-map}
use Rattle.std.proofs.lemmas.Option.{none-some}
use Rattle.fal_base.specs.declared.call.Config.{Config}
use Rattle.fal_base.specs.declared.event.Actor.{Actor}
use Rattle.fal_base.specs.declared.event.Actor.TheVariants.{Client, Node, Coord}
use Rattle.fal_base.specs.declared.event.Envelope.{Envelope}
use Rattle.fal_base.specs.declared.event.Event.{Event}
use Rattle.fal_base.specs.declared.event.Event.TheVariants as event
use Rattle.fal_base.specs.declared.event.Output.{Output}
use Rattle.fal_client.specs.declared.event.ClientEvent.TheVariants as client
use Rattle.fal_client.specs.Step.{client_step}
use Rattle.fal_coord.specs.declared.event.CoordEvent.TheVariants as coord_event
use Rattle.fal_coord.specs.Step.{coord_step}
use Rattle.fal_node.specs.declared.event.NodeEvent.TheVariants as node
use Rattle.fal_node.specs.Step.{node_step, is_to_node as is_for}
use Rattle.fal_story.proofs.Histories.Books.{deed_does, run_snoc, then, world_then}
use Rattle.fal_story.proofs.Events.Enabled.{delivers}
use Rattle.fal_story.proofs.Events.EnabledClient.{gets_own}
use Rattle.fal_story.proofs.Events.LegalRuns.{IsKept, legal_kept}
use Rattle.fal_story.specs.Actors.{actor_of}
use Rattle.fal_story.specs.Clusters.{is_lane, is_node}
use Rattle.fal_story.specs.Machines.{Machine, Made, coord_made, client_hears, node_hears, coord_hears, envelope_named, machine_step, only_where}
use Rattle.fal_story.specs.Run.{Deed, IsLegal, Follows, Makes, client_deed, deed, deed_by, done, envelopes_at, machine_in, node_deed, run, with_machine}
use Rattle.fal_story.specs.Told.{Told}
use Rattle.fal_story.specs.World.{World, posted, envelopes_of}
use Rattle.fal_alone.proofs.Hearing.{heard_was_sent}
use Rattle.fal_alone.specs.Queues.{WasSentTo, TakesItsOwn}
use Rattle.fal_alone.specs.Turns.{world_of, told_envelopes, with_event, deed_in, deed_after, sent_count, IsOwn, IsOwnIn, IsEventIn, IsStateIn, Next, NextIn}

-- ---- what an enabled event takes

-- what comes to a lane's client was sent to that lane
client_took : (w : World) (l number : ℕ) (b : Bool) (o : Option Envelope) (d : Deed) → (w.clients l).lane ≡ l → slice_get w.envelopes number ≡ o
    → client_deed w l (only_where b (client_hears (w.clients l) o)) ≡ Some d → WasSentTo (Client l) number w.envelopes
client_took w l number false o d placed at is = absurd (cc)
client_took w l number true None d placed at is = absurd (cc)
client_took w l number true (Some x) d placed at is =
    elim (client_step (w.clients l) (client.Get x)) as (λ m. client_step (w.clients l) (client.Get x) ≡ m → client_deed w l m ≡ Some d → WasSentTo (Client l) number w.envelopes) [
      | None ↦ λ t z. absurd (cc)
      | Some m ↦ λ t z. (x, (at, gets_own (w.clients l) x m t ∙ ap Client placed))
    ] refl is

node_to : (to : Actor) (n : ℕ) → is_for to n ≡ true → to ≡ Node n
node_to (Node m) n is = ap Node (eqb-true m n is)
node_to (Client l) n is = absurd (cc)
node_to Coord n is = absurd (cc)

-- what comes to a node was sent to that node
node_took : (w : World) (n number : ℕ) (b : Bool) (o : Option Envelope) (d : Deed) → (w.nodes n).number ≡ n → slice_get w.envelopes number ≡ o
    → node_deed w n (only_where b (node_hears (w.nodes n) o)) ≡ Some d → WasSentTo (Node n) number w.envelopes
node_took w n number false o d placed at is = absurd (cc)
node_took w n number true None d placed at is = absurd (cc)
node_took w n number true (Some x) d placed at is =
    elim (node_step (w.nodes n) (node.Deliver x)) as (λ k. node_step (w.nodes n) (node.Deliver x) ≡ k → node_deed w n k ≡ Some d → WasSentTo (Node n) number w.envelopes) [
      | None ↦ λ t z. absurd (cc)
      | Some k ↦ λ t z. (x, (at, delivers (w.nodes n) x k (λ _. x.to ≡ Node n) (λ to. node_to x.to (w.nodes n).number to ∙ ap Node placed) t))
    ] refl is

-- what comes to the coordinator was sent to it
coord_took : (w : World) (number : ℕ) (o : Option Envelope) (d : Deed) → slice_get w.envelopes number ≡ o → deed_by w Coord (coord_made (coord_hears w.coord o)) ≡ Some d → WasSentTo Coord number w.envelopes
coord_took w number None d at is = absurd (none-some d is)
coord_took w number (Some x) d at is =
    elim (coord_step w.coord (coord_event.Hear x)) as (λ k. coord_step w.coord (coord_event.Hear x) ≡ k → deed_by w Coord (coord_made k) ≡ Some d → WasSentTo Coord number w.envelopes) [
      | None ↦ λ t z. absurd (none-some d z)
      | Some k ↦ λ t z. (x, (at, heard_was_sent w.coord x k t))
    ] refl is

-- in a world that is kept, what an enabled event takes was sent to the actor that takes it
takes_own : (config : Config) (w : World) (e : Event) (d : Deed) → IsKept config w → deed config w e ≡ Some d → TakesItsOwn e w.envelopes
unfolding deed
takes_own config w (event.Send l) d kept is = tt
takes_own config w (event.Get l number) d kept is = client_took w l number (is_lane config l) (slice_get w.envelopes number) d (kept.shows.heard l).lane refl is
takes_own config w (event.Deliver n number) d kept is = node_took w n number (is_node config n) (slice_get w.envelopes number) d (kept.shows.placed n).number refl is
takes_own config w (event.Gather n) d kept is = tt
takes_own config w (event.Exec n batch) d kept is = tt
takes_own config w (event.Release n batch) d kept is = tt
takes_own config w (event.Serve n item) d kept is = tt
takes_own config w (event.Hear number) d kept is = coord_took w number (slice_get w.envelopes number) d refl is
takes_own config w event.Start d kept is = tt

-- ---- what an enabled event adds

-- the envelopes after an event are those before it, and so many more
then_sent : (config : Config) (w : World) (e : Event) (d : Deed) → deed config w e ≡ Some d → length (world_then config w d).envelopes ≡ length w.envelopes + length d.sent
unfolding posted
then_sent config w e d is =
    let same = ap length (deed_does config w e d is).envelopes in
    let all = length-append d.world.envelopes (envelopes_of d.from d.world.events (length d.world.commits) d.sent) in
    let made : length (envelopes_of d.from d.world.events (length d.world.commits) d.sent) ≡ length d.sent = length-map d.sent _ in
    omega arith

-- what the event takes was sent to its actor, and it sends as many envelopes as these records
pub record Adds (told : Told) (e : Event) (sent : List Output) : Type 0 where
  pub takes : TakesItsOwn e (told_envelopes told)
  pub sends : sent_count told e ≡ length sent

-- the world after an event is the one that its deed leaves
after : (told : Told) (e : Event) (w : World) (d : Deed) → world_of told ≡ Some w → deed told.config w e ≡ Some d → world_of (with_event told e) ≡ Some (world_then told.config w d)
after told e w d at is = run_snoc told.config told.events e ∙ ap (λ o. then told.config o e) at ∙ ap (done told.config) is

-- an enabled event adds the records of its deed
adds : (told : Told) (e : Event) (w : World) (d : Deed) → IsLegal told.config told.events → world_of told ≡ Some w → deed told.config w e ≡ Some d → Adds told e d.sent
adds told e w d legal at is =
    let config = told.config in
    let before : length (told_envelopes told) ≡ length w.envelopes = ap (λ o. length (envelopes_at o)) at in
    let behind : length (told_envelopes (with_event told e)) ≡ length w.envelopes + length d.sent = ap (λ o. length (envelopes_at o)) (after told e w d at is) ∙ then_sent config w e d is in
    record {
      takes = subst (λ o. TakesItsOwn e (envelopes_at o)) (sym at) (takes_own config w e d (legal_kept config told.events w legal at) is);
      sends = omega arith;
    }

-- ---- an event of an actor

-- what the actor made, as the cluster has it
abbrev deed_made : World → Event → Made → Deed
deed_made w e k = record { world = with_machine w (actor_of e) k.0; from = actor_of e; sent = k.1.sent; notes = k.1.notes }

made_is : (config : Config) (w : World) (e : Event) (m : Machine) (made : Option Made) (k : Made) → IsOwnIn config (Some w) e m made → made ≡ Some k → deed config w e ≡ Some (deed_made w e k)
unfolding deed
made_is config w e m made k is some =
    ap (λ x. deed_by w (actor_of e) (machine_step config x e (envelope_named w.envelopes e))) is.0 ∙ ap (λ o. deed_by w (actor_of e) o) (is.1 ∙ some)

next_of : (config : Config) (w : World) (e : Event) (k : Made) → deed config w e ≡ Some (deed_made w e k) → Next w (world_then config w (deed_made w e k)) (actor_of e) k.0
unfolding posted
next_of config w e k is =
    let d = deed_made w e k in
    let does = deed_does config w e d is in
    let sent = envelopes_of d.from d.world.events (length d.world.commits) d.sent in
    record { clients = refl; nodes = refl; coord = refl; sent = sent; envelopes = ap (λ xs. xs ++ sent) does.envelopes }

-- the event adds what was prepared to be sent, and the actor is in the state that it leads to
pub record Turns (told : Told) (e : Event) (k : Made) : Type 0 where
  pub follows : Follows told.config told.events e k.1.sent k.1.notes
  pub adds : Adds told e k.1.sent
  pub next : NextIn (world_of told) (world_of (with_event told e)) (actor_of e) k.0

turns_at : (told : Told) (e : Event) (k : Made) (w : World) → IsLegal told.config told.events → world_of told ≡ Some w → deed told.config w e ≡ Some (deed_made w e k) → Turns told e k
turns_at told e k w legal at is = record {
  follows = subst (λ o. Makes told.config o e k.1.sent k.1.notes) (sym at)
      (subst (λ o. IsSomeAnd o (λ (d : Deed). (d.sent ≡ k.1.sent) × (d.notes ≡ k.1.notes))) (sym is) (refl, refl));
  adds = adds told e w (deed_made w e k) legal at is;
  next = subst (λ o. NextIn o (world_of (with_event told e)) (actor_of e) k.0) (sym at)
      (subst (λ o. NextIn (Some w) o (actor_of e) k.0) (sym (after told e w (deed_made w e k) at is)) (next_of told.config w e k is));
}

-- what an actor prepared for its event is what the event does
pub turns : (told : Told) (e : Event) (m : Machine) (made : Option Made) (k : Made) → IsLegal told.config told.events → IsOwn told e m made → made ≡ Some k → Turns told e k
turns told e m made k legal is some =
    elim (run told.config told.events) as (λ o. run told.config told.events ≡ o → IsOwnIn told.config o e m made → Turns told e k) [
      | None ↦ λ r i. absurd i
      | Some w ↦ λ r i. turns_at told e k w legal r (made_is told.config w e m made k i some)
    ] refl is

-- ---- where it makes nothing

nothing_by : (w : World) (a : Actor) (o : Option Made) → IsNone o → IsNone (deed_by w a o)
nothing_by w a None none = refl
nothing_by w a (Some k) none = absurd (cc)

by_nothing : (w : World) (a : Actor) (o : Option Made) → IsNone (deed_by w a o) → IsNone o
by_nothing w a None none = refl
by_nothing w a (Some k) none = absurd (cc)

own_deed : (config : Config) (w : World) (e : Event) (m : Machine) (made : Option Made) → IsOwnIn config (Some w) e m made → deed config w e ≡ deed_by w (actor_of e) made
unfolding deed
own_deed config w e m made is =
    ap (λ x. deed_by w (actor_of e) (machine_step config x e (envelope_named w.envelopes e))) is.0 ∙ ap (λ o. deed_by w (actor_of e) o) is.1

-- the event does nothing exactly where its actor makes nothing of it
pub none_made : (told : Told) (e : Event) (m : Machine) (made : Option Made) → IsOwn told e m made → IsNone made → IsNone (deed_after told e)
none_made told e m made is none =
    elim (run told.config told.events) as (λ o. IsOwnIn told.config o e m made → IsNone (deed_in told.config o e)) [
      | None ↦ λ i. absurd i
      | Some w ↦ λ i. subst (λ d. IsNone d) (sym (own_deed told.config w e m made i)) (nothing_by w (actor_of e) made none)
    ] is

pub made_none : (told : Told) (e : Event) (m : Machine) (made : Option Made) → IsOwn told e m made → IsNone (deed_after told e) → IsNone made
made_none told e m made is none =
    elim (run told.config told.events) as (λ o. IsOwnIn told.config o e m made → IsNone (deed_in told.config o e) → IsNone made) [
      | None ↦ λ i n. absurd i
      | Some w ↦ λ i n. by_nothing w (actor_of e) made (subst (λ d. IsNone d) (own_deed told.config w e m made i) n)
    ] is none

-- where its actor makes something of it the event is enabled
pub some_made : (told : Told) (e : Event) (m : Machine) (made : Option Made) (k : Made) → IsOwn told e m made → made ≡ Some k → IsNone (deed_after told e) → ⊥
some_made told e m made k is some none = let gone : IsNone (Some k) = subst (λ o. IsNone o) some (made_none told e m made is none) in absurd (cc)

-- ---- an own event, of an actor of whichever kind

module _ {State : Type 0} (told : Told) (e : Event) (actor : Actor) (there : Bool) (machine : State → Machine) (made : State → Option Made) (Takes : Option Envelope → Type 0)
    (state : World → State) (stands : (w : World) → machine_in w actor ≡ machine (state w)) (is : IsEventIn told.config (world_of told) e actor there machine made Takes) where
  -- an actor that is there makes of the event what it makes of its own
  pub makes_own : (s : State) → IsTrue there → IsStateIn (world_of told) state s → IsOwn told e (machine s) (made s)
  makes_own s here at =
      elim (run told.config told.events) as (λ o. IsEventIn told.config o e actor there machine made Takes → IsStateIn o state s → IsOwnIn told.config o e (machine s) (made s)) [
        | None ↦ λ i a. absurd i
        | Some w ↦ λ i a. (
          ap (machine_in w) i.by ∙ stands w ∙ ap machine (sym a),
          i.makes s ∙ ap (λ b. only_where b (made s)) here,
        )
      ] is at

  -- no event of one that is not there is enabled
  pub none_absent : there ≡ false → IsNone (deed_after told e)
  none_absent gone =
      elim (run told.config told.events) as (λ o. IsEventIn told.config o e actor there machine made Takes → IsNone (deed_in told.config o e)) [
        | None ↦ λ i. absurd i
        | Some w ↦ λ i.
            let nothing : IsOwnIn told.config (Some w) e (machine (state w)) None = (ap (machine_in w) i.by ∙ stands w, i.makes (state w) ∙ ap (λ b. only_where b (made (state w))) gone) in
            subst (λ d. IsNone d) (sym (own_deed told.config w e (machine (state w)) None nothing)) refl
      ] is

  -- whose event it is
  pub made_by : actor_of e ≡ actor
  made_by =
      elim (run told.config told.events) as (λ o. IsEventIn told.config o e actor there machine made Takes → actor_of e ≡ actor) [
        | None ↦ λ i. absurd i
        | Some w ↦ λ i. i.by
      ] is
