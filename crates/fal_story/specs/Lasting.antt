-- What may be pushed after a list may be pushed after every longer one with no further event of its actor.
use Rattle.std.proofs.Common.{◌≡◌, ℕ, zero, suc, Bool, true, false, cond, List, [], ◌∷◌, ◌++◌, length, Option, Some, None, sym, refl, ap, ◌∙◌, subst, append_assoc, append-nil, eqb-true, eq-eqb}
use Rattle.std.specs.Prelude.{slice_get, ◌==◌}
use Rattle.std.proofs.lemmas.List.Elements.{filter-append}
use Rattle.std.proofs.lemmas.Option.{none-some}
use Rattle.fal_base.specs.declared.call.Config.{Config}
use Rattle.fal_base.specs.declared.event.Actor.{Actor}
use Rattle.fal_base.specs.declared.event.Actor.TheVariants.{Client, Node, Coord}
use Rattle.fal_base.specs.declared.event.Envelope.{Envelope}
use Rattle.fal_base.specs.declared.event.Event.{Event}
use Rattle.fal_base.specs.declared.event.Event.TheVariants as event
use Rattle.fal_base.specs.declared.event.Outputs.{Outputs}
use Rattle.fal_book.specs.Entries.{entries_of, StartsWith}
use Rattle.fal_book.proofs.Lists.{starts_on, starts_here}
use Rattle.fal_story.specs.Actors.{actor_of, is_actor, own_events, number_of, actor_number}
use Rattle.fal_story.specs.Clusters.{is_lane, is_node}
use Rattle.fal_story.specs.Machines.{Machine, ClientMachine, NodeMachine, CoordMachine, Made, only_where, client_made, node_made, machine_step, envelope_named}
use Rattle.fal_story.specs.Pushing.{Sent, MayPush, outcome_with, sent_after, sent_then, sent_from, sent_by}
use Rattle.fal_story.specs.Replay.{try_step, machine_after, replay_from, opening_machine, replay}

get_longer : (xs ys : List Envelope) (n : ℕ) (a : Envelope) → slice_get xs n ≡ Some a → slice_get (xs ++ ys) n ≡ Some a
get_longer [] ys n a e = absurd (none-some a e)
get_longer (x ∷ xs) ys zero a e = e
get_longer (x ∷ xs) ys (suc n) a e = get_longer xs ys n a e

-- what an envelope that is there gives, it gives with more of them
more_given : (xs ys : List Envelope) (n : ℕ) (g : Option Envelope → Option Made) (x : Made) → g None ≡ None → g (slice_get xs n) ≡ Some x → g (slice_get (xs ++ ys) n) ≡ Some x
more_given xs ys n g x none is =
    elim (slice_get xs n) as (λ o. slice_get xs n ≡ o → g o ≡ Some x → g (slice_get (xs ++ ys) n) ≡ Some x) [
      | None ↦ λ t z. absurd (none-some x (sym none ∙ z))
      | Some a ↦ λ t z. ap g (get_longer xs ys n a t) ∙ z
    ] refl is

nothing_where : {A : Type 0} (b : Bool) → only_where {A = A} b None ≡ None
nothing_where true = refl
nothing_where false = refl

-- no actor makes anything of an envelope that was not sent
no_get : (config : Config) (m : Machine) (lane n : ℕ) → machine_step config m (event.Get lane n) None ≡ None
no_get config (ClientMachine c) lane n = ap client_made (nothing_where (is_lane config lane))
no_get config (NodeMachine s) lane n = refl
no_get config (CoordMachine c) lane n = refl

no_deliver : (config : Config) (m : Machine) (node n : ℕ) → machine_step config m (event.Deliver node n) None ≡ None
no_deliver config (ClientMachine c) node n = refl
no_deliver config (NodeMachine s) node n = ap node_made (nothing_where (is_node config node))
no_deliver config (CoordMachine c) node n = refl

no_hear : (config : Config) (m : Machine) (n : ℕ) → machine_step config m (event.Hear n) None ≡ None
no_hear config (ClientMachine c) n = refl
no_hear config (NodeMachine s) n = refl
no_hear config (CoordMachine c) n = refl

-- an event that is enabled is enabled in the same way where more was sent
pub step_longer : (config : Config) (sent more : List Envelope) (m : Machine) (e : Event) (x : Made) → machine_step config m e (envelope_named sent e) ≡ Some x → machine_step config m e (envelope_named (sent ++ more) e) ≡ Some x
step_longer config sent more m (event.Send lane) x h = h
step_longer config sent more m (event.Get lane n) x h = more_given sent more n (λ o. machine_step config m (event.Get lane n) o) x (no_get config m lane n) h
step_longer config sent more m (event.Deliver node n) x h = more_given sent more n (λ o. machine_step config m (event.Deliver node n) o) x (no_deliver config m node n) h
step_longer config sent more m (event.Gather node) x h = h
step_longer config sent more m (event.Exec node batch) x h = h
step_longer config sent more m (event.Release node batch) x h = h
step_longer config sent more m (event.Serve node item) x h = h
step_longer config sent more m (event.Hear n) x h = more_given sent more n (λ o. machine_step config m (event.Hear n) o) x (no_hear config m n) h
step_longer config sent more m event.Start x h = h

-- the same of an actor that may have stopped
pub try_longer : (config : Config) (sent more : List Envelope) (m : Option Machine) (e : Event) (x : Made) → try_step config sent m e ≡ Some x → try_step config (sent ++ more) m e ≡ Some x
try_longer config sent more None e x h = h
try_longer config sent more (Some m) e x h = step_longer config sent more m e x h

dead : (config : Config) (sent : List Envelope) (es : List Event) (r : Machine) → replay_from config sent None es ≡ Some r → ⊥
dead config sent [] r h = none-some r h
dead config sent (e ∷ es) r h = dead config sent es r h

-- a replay that got on gets on in the same way where more was sent
pub replay_longer : (config : Config) (sent more : List Envelope) (m : Option Machine) (es : List Event) (r : Machine) → replay_from config sent m es ≡ Some r → replay_from config (sent ++ more) m es ≡ Some r
replay_longer config sent more m [] r h = h
replay_longer config sent more m (e ∷ es) r h =
    elim (try_step config sent m e)
    as (λ t. try_step config sent m e ≡ t → replay_from config sent (machine_after t) es ≡ Some r → replay_from config (sent ++ more) (machine_after (try_step config (sent ++ more) m e)) es ≡ Some r) [
      | None ↦ λ is z. absurd (dead config sent es r z)
      | Some x ↦ λ is z. ap (λ t. replay_from config (sent ++ more) (machine_after t) es) (try_longer config sent more m e x is) ∙ replay_longer config sent more (Some x.0) es r z
    ] refl h

-- ---- what was sent

after_starts : (config : Config) (so : Sent) (from : Actor) (number : ℕ) (made : Option Made) → StartsWith (sent_after config so from number made).envelopes so.envelopes
after_starts config so from number None = starts_here so.envelopes
after_starts config so from number (Some made) = record { rest = _; is = refl }

sent_starts : (config : Config) (so : Sent) (before es : List Event) → StartsWith (sent_from config so before es).envelopes so.envelopes
sent_starts config so before [] = starts_here so.envelopes
sent_starts config so before (e ∷ es) =
    let then : Sent = sent_then config so before e in
    starts_on so.envelopes then.envelopes (sent_from config then (before ++ e ∷ []) es).envelopes (after_starts config so (actor_of e) (length before) (outcome_with config so before e)) (sent_starts config then (before ++ e ∷ []) es)

sent-append : (config : Config) (so : Sent) (before xs ys : List Event) → sent_from config so before (xs ++ ys) ≡ sent_from config (sent_from config so before xs) (before ++ xs) ys
sent-append config so before [] ys = ap (λ z. sent_from config so z ys) (sym (append-nil before))
sent-append config so before (e ∷ es) ys =
    let then : Sent = sent_then config so before e in
    sent-append config then (before ++ e ∷ []) es ys ∙ ap (λ z. sent_from config (sent_from config then (before ++ e ∷ []) es) z ys) (append_assoc before (e ∷ []) es)

-- what was sent by a longer list begins with what was sent by the shorter one
pub sent_on : (config : Config) (xs ys : List Event) → StartsWith (sent_by config (xs ++ ys)).envelopes (sent_by config xs).envelopes
unfolding sent_by
sent_on config xs ys =
    let none : Sent = record { envelopes = []; commits = 0 } in
    subst (λ (z : Sent). StartsWith z.envelopes (sent_from config none [] xs).envelopes) (sym (sent-append config none [] xs ys)) (sent_starts config (sent_from config none [] xs) xs ys)

-- one more event at the end
pub sent_snoc : (config : Config) (es : List Event) (e : Event) → sent_by config (es ++ e ∷ []) ≡ sent_then config (sent_by config es) es e
unfolding sent_by
sent_snoc config es e = sent-append config (record { envelopes = []; commits = 0 }) [] es (e ∷ [])

-- ---- own events

-- actors that are the same are equal
pub same_actor : (a b : Actor) → is_actor a b ≡ true → a ≡ b
same_actor (Client l) (Client m) is = ap Client (eqb-true l m is)
same_actor (Node l) (Node m) is = ap Node (eqb-true l m is)
same_actor Coord Coord is = refl
same_actor a b is = absurd (cc)

-- where no event has the actor's number, none is its own
pub none_own : (a : Actor) (es : List Event) → entries_of actor_number (number_of a) es ≡ [] → own_events a es ≡ []
unfolding actor_number
none_own a [] h = refl
none_own a (e ∷ es) h =
    elim (is_actor a (actor_of e))
    as (λ b. is_actor a (actor_of e) ≡ b → cond (number_of (actor_of e) == number_of a) (e ∷ entries_of actor_number (number_of a) es) (entries_of actor_number (number_of a) es) ≡ [] → cond b (e ∷ own_events a es) (own_events a es) ≡ []) [
      | true ↦ λ is z.
          let same : (number_of (actor_of e) == number_of a) ≡ true = eq-eqb (number_of (actor_of e)) (number_of a) (ap number_of (sym (same_actor a (actor_of e) is))) in
          absurd (some_none (ap (λ b. cond b (e ∷ entries_of actor_number (number_of a) es) (entries_of actor_number (number_of a) es)) (sym same) ∙ z))
      | false ↦ λ is z. none_own a es (rest (number_of (actor_of e) == number_of a) z)
    ] refl h
  where
    some_none : {x : Event} {xs : List Event} → x ∷ xs ≡ [] → ⊥
    some_none z = cc

    rest : (b : Bool) → cond b (e ∷ entries_of actor_number (number_of a) es) (entries_of actor_number (number_of a) es) ≡ [] → entries_of actor_number (number_of a) es ≡ []
    rest true z = absurd (cc)
    rest false z = z

-- ---- the law

-- what may be pushed may be pushed after every longer list in which its actor has no further event
pub lasts : (config : Config) (xs ys : List Event) (e : Event) (o : Outputs) → MayPush config xs e o → entries_of actor_number (actor_number e) ys ≡ [] → MayPush config (xs ++ ys) e o
unfolding replay actor_number
lasts config xs ys e o may none =
    let a : Actor = actor_of e in
    let sent : List Envelope = (sent_by config xs).envelopes in
    let grows = sent_on config xs ys in
    let own : own_events a (xs ++ ys) ≡ own_events a xs
    = filter-append (λ x. is_actor a (actor_of x)) xs ys ∙ (ap (λ z. own_events a xs ++ z) (none_own a ys none) ∙ append-nil (own_events a xs)) in
    let made : Made = (may.after, o) in
    let first : Option Machine = Some (opening_machine config a) in
    let longer : try_step config (sent ++ grows.rest) (replay_from config (sent ++ grows.rest) first (own_events a xs)) e ≡ Some made
    = elim (replay_from config sent first (own_events a xs))
    as (λ m. replay_from config sent first (own_events a xs) ≡ m → try_step config sent m e ≡ Some made
    → try_step config (sent ++ grows.rest) (replay_from config (sent ++ grows.rest) first (own_events a xs)) e ≡ Some made) [
      | None ↦ λ t z. absurd (none-some made z)
      | Some m ↦ λ t z. ap (λ u. try_step config (sent ++ grows.rest) u e) (replay_longer config sent grows.rest first (own_events a xs) m t) ∙ step_longer config sent grows.rest m e made z
    ] refl may.makes in
    record {
      cluster = may.cluster;
      after = may.after;
      makes = subst (λ z. try_step config z (replay_from config z first (own_events a (xs ++ ys))) e ≡ Some made) (sym grows.is)
          (subst (λ own. try_step config (sent ++ grows.rest) (replay_from config (sent ++ grows.rest) first own) e ≡ Some made) (sym own) longer);
    }
