-- Each actor of a run is the replay of its own events, and what they made is what the world has.
use Rattle.std.proofs.Common.{◌≡◌, ◌+◌, true, false, cond, List, [], ◌∷◌, ◌++◌, length, Option, Some, None, refl, sym, ap, ◌∙◌, subst, append_assoc, append-nil}
use Rattle.std.specs.Prelude.{IsSome}
use Rattle.std.specs.Option.{option_map}
use Rattle.std.proofs.lemmas.List.{length-append}
use Rattle.std.proofs.lemmas.List.Elements.{filter-append}
use Rattle.std.proofs.lemmas.Option.{none-some, same_Some}
use Rattle.fal_base.specs.declared.call.Config.{Config}
use Rattle.fal_base.specs.declared.event.Actor.{Actor}
use Rattle.fal_base.specs.declared.event.Envelope.{Envelope}
use Rattle.fal_base.specs.declared.event.Event.{Event}
use Rattle.fal_base.specs.Transcript.{commits_of}
use Rattle.fal_story.proofs.Histories.Deeds.{deed_does, made_in, stands, others_stay}
use Rattle.fal_story.specs.Actors.{actor_of, is_actor, own_events}
use Rattle.fal_story.specs.Lasting.{step_longer, replay_longer, sent_snoc, same_actor}
use Rattle.fal_story.specs.Machines.{Machine, Made, machine_step, envelope_named}
use Rattle.fal_story.specs.Pushing.{Sent, sent_after, sent_by, outcome}
use Rattle.fal_story.specs.Replay.{try_step, machine_after, replay_from, opening_machine, replay, IsReplayed}
use Rattle.fal_story.specs.Run.{deed_by, deed, done, run_from, run, IsLegal, envelopes_at, machine_in, with_machine}
use Rattle.fal_story.specs.World.{World, posted, envelopes_of, entries_of, opening_world}

-- after these events the world has what was sent, and its actors are the replays of their own events
pub record Agrees (config : Config) (es : List Event) (w : World) : Type 0 where
  pub envelopes : (sent_by config es).envelopes ≡ w.envelopes
  pub commits : (sent_by config es).commits ≡ length w.commits
  pub events : length es ≡ w.events
  pub machines : (a : Actor) → replay config w.envelopes a (own_events a es) ≡ Some (machine_in w a)

pub agrees_first : (config : Config) → Agrees config [] (opening_world config)
unfolding sent_by replay
agrees_first config = record { envelopes = refl; commits = refl; events = refl; machines = λ a. refl }

-- what the event makes is what the world's actor makes of it
pub outcome_is : (config : Config) (es : List Event) (w : World) (e : Event) → Agrees config es w → outcome config es e ≡ made_in config w e
outcome_is config es w e a =
    let actor = actor_of e in
    ap (λ z. try_step config z (replay config z actor (own_events actor es)) e) a.envelopes ∙ ap (λ m. try_step config w.envelopes m e) (a.machines actor)

-- ---- one more event

pub replay_snoc : (config : Config) (sent : List Envelope) (m : Option Machine) (es : List Event) (e : Event)
    → replay_from config sent m (es ++ e ∷ []) ≡ machine_after (try_step config sent (replay_from config sent m es) e)
replay_snoc config sent m [] e = refl
replay_snoc config sent m (x ∷ es) e = replay_snoc config sent (machine_after (try_step config sent m x)) es e

own_snoc : (a : Actor) (es : List Event) (e : Event) → own_events a (es ++ e ∷ []) ≡ own_events a es ++ cond (is_actor a (actor_of e)) (e ∷ []) []
own_snoc a es e = filter-append (λ x. is_actor a (actor_of x)) es (e ∷ [])

-- the world with what the event made, before that is posted
abbrev pub world_with : World → Event → Made → World
world_with w e made = with_machine w (actor_of e) made.0

-- the world after the event
abbrev pub world_after : Config → World → Event → Made → World
world_after config w e made = posted config (world_with w e made) (actor_of e) made.1.sent made.1.notes

module _ (config : Config) (es : List Event) (w : World) (e : Event) (made : Made) (more : List Envelope) (agreed : Agrees config es w) (is : made_in config w e ≡ Some made) where
  -- the actor that made the event
  own_then : (a : Actor) → actor_of e ≡ a → replay_from config (w.envelopes ++ more) (Some (opening_machine config a)) (own_events a es) ≡ Some (machine_in w a)
      → machine_after (try_step config (w.envelopes ++ more) (replay_from config (w.envelopes ++ more) (Some (opening_machine config a)) (own_events a es)) e) ≡ Some (machine_in (world_with w e made) a)
  own_then a same before =
      let all : List Envelope = w.envelopes ++ more in
      let stepped : machine_step config (machine_in w (actor_of e)) e (envelope_named all e) ≡ Some made
      = step_longer config w.envelopes more (machine_in w (actor_of e)) e made is in
      ap (λ m. machine_after (try_step config all m e)) before
      ∙ subst (λ b. machine_after (machine_step config (machine_in w b) e (envelope_named all e)) ≡ Some (machine_in (world_with w e made) b)) same
      (ap machine_after stepped ∙ ap Some (sym (stands config w (actor_of e) e (envelope_named w.envelopes e) made is)))

  -- and each actor
  machines_then : (a : Actor) → replay config (w.envelopes ++ more) a (own_events a (es ++ e ∷ [])) ≡ Some (machine_in (world_with w e made) a)
  unfolding replay
  machines_then a =
      let all : List Envelope = w.envelopes ++ more in
      let first : Option Machine = Some (opening_machine config a) in
      let before : replay_from config all first (own_events a es) ≡ Some (machine_in w a) = replay_longer config w.envelopes more first (own_events a es) (machine_in w a) (agreed.machines a) in
      ap (λ z. replay_from config all first z) (own_snoc a es e)
      ∙ elim (is_actor a (actor_of e)) as (λ b. is_actor a (actor_of e) ≡ b → replay_from config all first (own_events a es ++ cond b (e ∷ []) []) ≡ Some (machine_in (world_with w e made) a)) [
        | true ↦ λ mine. replay_snoc config all first (own_events a es) e ∙ own_then a (sym (same_actor a (actor_of e) mine)) before
        | false ↦ λ other. ap (λ z. replay_from config all first z) (append-nil (own_events a es)) ∙ (before ∙ ap Some (sym (others_stay w (actor_of e) a made.0 (turned a (actor_of e) other))))
      ] refl
    where
      turned : (a b : Actor) → is_actor a b ≡ false → is_actor b a ≡ false
      turned a b other = elim (is_actor b a) as (λ t. is_actor b a ≡ t → t ≡ false) [
        | true ↦ λ same. let here : is_actor a b ≡ true = subst (λ x. is_actor x b ≡ true) (same_actor b a same) (subst (λ x. is_actor b x ≡ true) (sym (same_actor b a same)) same) in let wrong : true ≡ false = sym here ∙ other in absurd (cc)
        | false ↦ λ same. refl
      ] refl

pub agrees_then : (config : Config) (es : List Event) (w : World) (e : Event) (made : Made) → Agrees config es w → made_in config w e ≡ Some made → Agrees config (es ++ e ∷ []) (world_after config w e made)
unfolding posted deed
agrees_then config es w e made a is =
    let does = deed_does config w e _ (ap (deed_by w (actor_of e)) is) in
    let u : World = world_with w e made in
    let s : Sent = sent_by config es in
    let then : sent_by config (es ++ e ∷ []) ≡ sent_after config s (actor_of e) (length es) (Some made) = sent_snoc config es e ∙ ap (λ o. sent_after config s (actor_of e) (length es) o) (outcome_is config es w e a ∙ is) in
    let number : length es ≡ u.events = a.events ∙ sym does.events in
    let count : s.commits ≡ length u.commits = a.commits ∙ sym (ap length does.commits) in
    let sent : s.envelopes ≡ u.envelopes = a.envelopes ∙ sym does.envelopes in
    let more : List Envelope = envelopes_of (actor_of e) u.events (length u.commits) made.1.sent in
    record {
      envelopes = ap (λ (z : Sent). z.envelopes) then ∙ (λ i. sent i ++ envelopes_of (actor_of e) (number i) (count i) made.1.sent);
      commits = ap (λ (z : Sent). z.commits) then ∙ ((λ i. count i + length (commits_of config (entries_of (count i) made.1.notes)))
          ∙ sym (length-append u.commits (commits_of config (entries_of (length u.commits) made.1.notes))));
      events = length-append es (e ∷ []) ∙ ap (λ k. k + 1) number;
      machines = λ b. subst (λ z. replay config (z ++ more) b (own_events b (es ++ e ∷ [])) ≡ Some (machine_in u b)) (sym does.envelopes) (machines_then config es w e made more a is b);
    }

-- ---- more events

dead : (config : Config) (es : List Event) (u : World) → run_from config None es ≡ Some u → ⊥
dead config [] u z = none-some u z
dead config (x ∷ xs) u z = none-some u z

-- what each event that is enabled keeps, and then the run goes on
agrees_on : (config : Config) (before es : List Event) (w u : World) → Agrees config before w → run_from config (Some w) es ≡ Some u → Agrees config (before ++ es) u
unfolding deed
agrees_on config before [] w u a at = subst (λ v. Agrees config (before ++ []) v) (same_Some w u at) (subst (λ z. Agrees config z w) (sym (append-nil before)) a)
agrees_on config before (e ∷ es) w u a at =
    elim (made_in config w e) as (λ o. made_in config w e ≡ o → run_from config (done config (deed_by w (actor_of e) o)) es ≡ Some u → Agrees config (before ++ e ∷ es) u) [
      | None ↦ λ t z. absurd (dead config es u z)
      | Some made ↦ λ t z. subst (λ xs. Agrees config xs u) (append_assoc before (e ∷ []) es) (agrees_on config (before ++ e ∷ []) es (world_after config w e made) u (agrees_then config before w e made a t) z)
    ] refl at

-- a run's world has what was sent, and its actors are the replays of their own events
pub agrees : (config : Config) (es : List Event) (w : World) → run config es ≡ Some w → Agrees config es w
unfolding run
agrees config es w at = agrees_on config [] es (opening_world config) w (agrees_first config) at

pub legal_is_replayed : (config : Config) (es : List Event) → IsLegal config es → IsReplayed config es
legal_is_replayed config es legal a =
    elim (run config es) as (λ o. run config es ≡ o → IsSome o → replay config (envelopes_at o) a (own_events a es) ≡ option_map (λ w. machine_in w a) o) [
      | None ↦ λ t y. absurd (cc)
      | Some w ↦ λ t y. (agrees config es w t).machines a
    ] refl legal.enabled
