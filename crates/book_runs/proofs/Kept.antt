-- What holds of an actor at its seat still holds when the seat has seen more, and when an event of the actor was entered.
use Rattle.std.proofs.Common.{◌≡◌, ◌<◌, ℕ, ◌+◌, Bool, true, false, List, [], ◌∷◌, ◌++◌, length, Option, Some, None, refl, sym, ap, ◌∙◌, subst, append_assoc, cond}
use Rattle.std.specs.Prelude.{slice_get, get_or, IsSome, IsTrue}
use Rattle.std.specs.List.{All}
use Rattle.std.proofs.lemmas.List.{length-append}
use Rattle.std.proofs.lemmas.List.Elements.{All-nil, All-cons, All-append}
use Rattle.std.proofs.lemmas.Option.{same_Some, get_or_from_slice_get, slice_get_within}
use Rattle.fal_base.specs.declared.call.Config.{Config}
use Rattle.fal_base.specs.declared.event.Actor.{Actor}
use Rattle.fal_base.specs.declared.event.Envelope.{Envelope}
use Rattle.fal_base.specs.declared.event.Event.{Event}
use Rattle.fal_base.specs.declared.event.Outputs.{Outputs}
use Rattle.fal_book.specs.Entries.{entries_of, StartsWith, IsSound}
use Rattle.fal_book.specs.Sitting.{IsSameSitting, Entered, Looked, NothingEntered, MayEnter}
use Rattle.fal_story.proofs.Lists.Grown.{slice_get_front, slice_get_end}
use Rattle.fal_story.specs.declared.inbox.Arrived.{Arrived}
use Rattle.fal_story.specs.Actors.{actor_of, own_events, number_of, actor_number}
use Rattle.fal_story.specs.Arriving.{arrives, arrived_next, Arrives}
use Rattle.fal_story.specs.Clusters.{IsCluster}
use Rattle.fal_story.specs.Lasting.{step_longer, replay_longer, sent_on}
use Rattle.fal_story.specs.Machines.{Machine, machine_step, envelope_named}
use Rattle.fal_story.specs.Pushing.{MayPush, all_sent}
use Rattle.fal_story.specs.Replay.{try_step, machine_after, replay_from, opening_machine, replay}
use Rattle.fal_story.specs.Run.{IsLegal, run, machine_in}
use Rattle.fal_story.specs.World.{World}
use Rattle.fal_story.proofs.Histories.Numbers.{own_by_number}
use Rattle.fal_story.proofs.Histories.Pushed.{sound_legal}
use Rattle.fal_story.proofs.Histories.Replays.{agrees, replay_snoc}
use Rattle.book_runs.specs.Posts.{Seated, IsKnown, IsSent, IsHeard, IsPost, IsNew}

-- ---- what was heard

-- each of these holds where each of those does
all_on : {A : Type 0} (P Q : A → Type 0) (xs : List A) → ((x : A) → P x → Q x) → All P xs → All Q xs
all_on P Q xs f h = λ k d below. f (get_or xs k d) (h k d below)

-- what stands in an inbox is heard
pub heard : (xs : List Arrived) (i : ℕ) (a : Arrived) → slice_get xs i ≡ Some a → IsHeard xs a.number a.envelope
heard xs i a at sent all = subst (IsSent sent) (get_or_from_slice_get xs i a a at) (all i a (slice_get_within xs i a at))

-- what arrives stands under its number among all that was sent
arrived_sent : (n from : ℕ) (before xs : List Envelope) → All (IsSent (before ++ xs)) (arrived_next (length before) n from xs)
arrived_sent n from before [] = All-nil (IsSent (before ++ []))
arrived_sent n from before (x ∷ xs) =
    let rest : All (IsSent (before ++ x ∷ xs)) (arrived_next (length before + 1) n from xs)
    = subst (λ k. All (IsSent (before ++ x ∷ xs)) (arrived_next k n from xs)) (length-append before (x ∷ []))
    (subst (λ z. All (IsSent z) (arrived_next (length (before ++ x ∷ [])) n from xs)) (append_assoc before (x ∷ []) xs) (arrived_sent n from (before ++ x ∷ []) xs)) in
    let here : slice_get (before ++ x ∷ xs) (length before) ≡ Some x
    = ap (λ z. slice_get z (length before)) (sym (append_assoc before (x ∷ []) xs)) ∙ slice_get_front (before ++ x ∷ []) xs (length before) x (slice_get_end before x) in
    elim (arrives n from x) as (λ b. All (IsSent (before ++ x ∷ xs)) (cond b (record { number = length before; envelope = x } ∷ arrived_next (length before + 1) n from xs) (arrived_next (length before + 1) n from xs))) [
      | true ↦ All-cons (IsSent (before ++ x ∷ xs)) (record { number = length before; envelope = x }) (arrived_next (length before + 1) n from xs) here rest
      | false ↦ rest
    ]

-- ---- more was seen

-- what holds at a seat holds where it has seen more, with no further event of its own
more_seen : (has : Config → Bool) (a : Actor) (m : Machine) (s t : Seated) (xs : List Arrived) → IsPost has a m s xs → IsSameSitting s t → StartsWith t.seen s.seen → t.mine ≡ s.mine → IsPost has a m t xs
unfolding replay
more_seen has a m s t xs p same starts mine =
    let config = p.config in
    let grows = sent_on config s.seen starts.rest in
    let longer : all_sent config t.seen ≡ all_sent config s.seen ++ grows.rest = ap (λ z. all_sent config z) starts.is ∙ grows.is in
    record {
      config = config;
      setting = same.2 ∙ p.setting;
      cluster = p.cluster;
      there = p.there;
      number = same.1 ∙ p.number;
      seated = p.seated;
      machine = ap (λ z. replay_from config z (Some (opening_machine config a)) t.mine) longer
          ∙ (ap (λ z. replay_from config (all_sent config s.seen ++ grows.rest) (Some (opening_machine config a)) z) mine
          ∙ replay_longer config (all_sent config s.seen) grows.rest (Some (opening_machine config a)) s.mine m p.machine);
      inbox = subst (λ z. All (IsSent z) xs) (sym longer)
          (all_on (IsSent (all_sent config s.seen)) (IsSent (all_sent config s.seen ++ grows.rest)) xs (λ a at. slice_get_front (all_sent config s.seen) grows.rest a.number a.envelope at) p.inbox);
    }

-- nothing was entered
pub nothing_entered : (has : Config → Bool) (a : Actor) (m : Machine) (s t : Seated) (xs : List Arrived) → IsPost has a m s xs → IsSameSitting s t → NothingEntered s t → IsPost has a m t xs
nothing_entered has a m s t xs p same none = more_seen has a m s t xs p same none.2 none.0

-- the seat has looked, and its inbox was told what arrived
pub has_looked : (has : Config → Bool) (a : Actor) (m : Machine) (s t : Seated) (xs ys : List Arrived) (k from : ℕ) → IsPost has a m s xs → IsSameSitting s t → Looked s t k
    → ((c : Config) → s.setting ≡ Some c → Arrives c t.seen s.number from xs ys) → IsPost has a m t ys
unfolding more_seen
has_looked has a m s t xs ys k from p same looked told =
    let q = more_seen has a m s t xs p same looked.seen looked.mine in
    record {
      config = p.config;
      setting = q.setting;
      cluster = q.cluster;
      there = q.there;
      number = q.number;
      seated = q.seated;
      machine = q.machine;
      inbox = subst (λ zs. All (IsSent (all_sent p.config t.seen)) zs) (sym (told p.config p.setting))
          (All-append (IsSent (all_sent p.config t.seen)) xs (arrived_next 0 s.number from (all_sent p.config t.seen)) q.inbox (arrived_sent s.number from [] (all_sent p.config t.seen)));
    }

-- ---- an event of its own

-- the events of a seat's actor are the seat's own
own_mine : (has : Config → Bool) (a : Actor) (m : Machine) (s : Seated) (xs : List Arrived) → IsPost has a m s xs → IsKnown s → own_events a s.seen ≡ s.mine
own_mine has a m s xs p known = own_by_number a s.seen p.seated ∙ (ap (λ n. entries_of actor_number n s.seen) (sym p.number) ∙ sym known.mine)

-- what the machine makes of an event at its seat may be entered
pub may_enter : (has : Config → Bool) (a : Actor) (m after : Machine) (s : Seated) (xs : List Arrived) (e : Event) (o : Outputs) → (p : IsPost has a m s xs) → IsKnown s → actor_of e ≡ a
    → machine_step p.config m e (envelope_named (all_sent p.config s.seen) e) ≡ Some (after, o) → MayEnter MayPush s.setting s.seen e o
may_enter has a m after s xs e o p known own makes =
    let config = p.config in
    let sent = all_sent config s.seen in
    let mine : own_events a s.seen ≡ s.mine = own_mine has a m s xs p known in
    let at : replay config sent (actor_of e) (own_events (actor_of e) s.seen) ≡ Some m = ap (λ b. replay config sent b (own_events b s.seen)) own ∙ (ap (λ z. replay config sent a z) mine ∙ p.machine) in
    subst (λ z. MayEnter MayPush z s.seen e o) (sym p.setting) (record { cluster = p.cluster; after = after; makes = ap (λ z. try_step config sent z e) at ∙ makes })

-- and once it is entered the actor after it is at the seat
pub has_entered : (has : Config → Bool) (a : Actor) (m after : Machine) (s t : Seated) (xs : List Arrived) (e : Event) (o : Outputs) (k : ℕ) → (p : IsPost has a m s xs) → IsSameSitting s t → Entered s t e k
    → machine_step p.config m e (envelope_named (all_sent p.config s.seen) e) ≡ Some (after, o) → IsPost has a after t xs
unfolding replay more_seen
has_entered has a m after s t xs e o k p same entered makes =
    let config = p.config in
    let sent = all_sent config s.seen in
    let seen : t.seen ≡ s.seen ++ (entered.between ++ e ∷ []) = entered.seen ∙ append_assoc s.seen entered.between (e ∷ []) in
    let middle : Seated = record t { mine = s.mine } in
    let q : IsPost has a m middle xs = more_seen has a m s middle xs p same (record { rest = entered.between ++ e ∷ []; is = seen }) refl in
    let grows = sent_on config s.seen (entered.between ++ e ∷ []) in
    let longer : all_sent config t.seen ≡ sent ++ grows.rest = ap (λ z. all_sent config z) seen ∙ grows.is in
    let step : machine_step config m e (envelope_named (all_sent config t.seen) e) ≡ Some (after, o)
    = subst (λ z. machine_step config m e (envelope_named z e) ≡ Some (after, o)) (sym longer) (step_longer config sent grows.rest m e (after, o) makes) in
    let first : Option Machine = Some (opening_machine config a) in
    record {
      config = config;
      setting = q.setting;
      cluster = q.cluster;
      there = q.there;
      number = q.number;
      seated = q.seated;
      machine = ap (λ z. replay_from config (all_sent config t.seen) first z) entered.mine
          ∙ (replay_snoc config (all_sent config t.seen) first s.mine e
          ∙ (ap (λ z. machine_after (try_step config (all_sent config t.seen) z e)) q.machine ∙ ap machine_after step));
      inbox = q.inbox;
    }

-- ---- the run that a seat has seen

-- a seat has seen a legal run, whose world has the machine of its actor
pub record IsRun (a : Actor) (m : Machine) (config : Config) (es : List Event) : Type 0 where
  pub legal : IsLegal config es
  pub world : World
  pub at : run config es ≡ Some world
  pub envelopes : all_sent config es ≡ world.envelopes
  pub machine : m ≡ machine_in world a

some_world : (o : Option World) → IsSome o → (w : World) × (o ≡ Some w)
some_world None h = absurd (cc)
some_world (Some w) h = (w, refl)

pub seen_run : (has : Config → Bool) (a : Actor) (m : Machine) (s : Seated) (xs : List Arrived) → (p : IsPost has a m s xs) → IsKnown s → IsRun a m p.config s.seen
seen_run has a m s xs p known =
    let config = p.config in
    let sound = known.sound in
    let same : sound.0 ≡ config = same_Some sound.0 config (sym sound.1 ∙ p.setting) in
    let legal : IsLegal config s.seen = sound_legal config s.seen p.cluster (subst (λ c. IsSound MayPush c s.seen) same sound.2) in
    let found = some_world (run config s.seen) legal.enabled in
    let agreed = agrees config s.seen found.0 found.1 in
    record {
      legal = legal;
      world = found.0;
      at = found.1;
      envelopes = agreed.envelopes;
      machine = same_Some m (machine_in found.0 a)
          (sym p.machine ∙ (ap (λ z. replay config z a s.mine) agreed.envelopes ∙ (ap (λ z. replay config found.0.envelopes a z) (sym (own_mine has a m s xs p known)) ∙ agreed.machines a)));
    }

-- an actor before its first event is at a new seat
pub new_post : (has : Config → Bool) (a : Actor) (config : Config) (s : Seated) → IsCluster config → IsTrue (has config) → number_of a < 255 → IsNew config (number_of a) s → IsPost has a (opening_machine config a) s []
unfolding replay
new_post has a config s cluster there seated new = record {
  config = config;
  setting = new.setting;
  cluster = cluster;
  there = there;
  number = new.number;
  seated = seated;
  machine = ap (λ z. replay_from config (all_sent config s.seen) (Some (opening_machine config a)) z) new.mine;
  inbox = All-nil (IsSent (all_sent config s.seen));
}
