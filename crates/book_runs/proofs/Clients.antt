-- A client at its seat: what it makes ready may be entered, and what it lays on then is the replay again.
use Rattle.std.proofs.Common.{cond, ◌≡◌, ℕ, ◌+◌, ◌-◌, ◌<◌, ◌≤◌, nat_lt, nat_le, true, List, [], length, Option, Some, None, refl, sym, ap, ◌∙◌, subst, arith}
use Rattle.std.specs.Prelude.{IsTrue}
use Rattle.std.proofs.lemmas.Bool.Decides.{nat_tests}
use Rattle.fal_alone.proofs.Ranged.{client_can_make}
use Rattle.fal_alone.proofs.Taken.{of_send, of_get}
use Rattle.fal_alone.specs.Turns.{IsEventOfClientIn, IsClientIn}
use Rattle.fal_base.specs.declared.call.Config.{Config}
use Rattle.fal_base.specs.declared.event.Actor.TheVariants.{Client}
use Rattle.fal_base.specs.declared.event.Envelope.{Envelope}
use Rattle.fal_base.specs.declared.event.Event.{Event}
use Rattle.fal_base.specs.declared.event.Outputs.{Outputs}
use Rattle.fal_batch.proofs.Truth.{both, both_first, both_second}
use Rattle.fal_book.specs.Sitting.{IsSameSitting, Entered, MayEnter}
use Rattle.fal_client.specs.declared.event.ClientEvent.{ClientEvent}
use Rattle.fal_client.specs.declared.event.ClientEvent.TheVariants as client
use Rattle.fal_client.specs.declared.patch.Prepared.{Prepared}
use Rattle.fal_client.specs.Patch.{IsStepOf, IsStepFor, patched}
use Rattle.fal_client.specs.State.{ClientState, Work as ClientWork, opening_client}
use Rattle.fal_client.specs.Step.{CanMake, client_step}
use Rattle.fal_story.proofs.Histories.Numbers.{lane_seated}
use Rattle.fal_story.specs.declared.inbox.Arrived.{Arrived}
use Rattle.fal_story.specs.Actors.{actor_of, client_number, number_of, actor_number}
use Rattle.fal_story.specs.Clusters.{IsCluster, is_lane, calls_of_lane}
use Rattle.fal_story.specs.Machines.{Machine, ClientMachine, only_where, client_hears, client_made, machine_step, envelope_named}
use Rattle.fal_story.specs.Pushing.{MayPush, all_sent}
use Rattle.fal_story.specs.Told.{Told}
use Rattle.fal_story.specs.World.{World}
use Rattle.book_runs.specs.Posts.{Seated, IsKnown, IsPost, IsNew, IsClientPost, IsOwnOfClientIn, IsOwnOfClient}
use Rattle.book_runs.proofs.Kept.{seen_run, may_enter, has_entered, new_post}

-- a lane that is there is 1 to 16
lane_within : (config : Config) (lane : ℕ) → IsCluster config → IsTrue (is_lane config lane) → (0 < lane) × (lane ≤ 16)
lane_within config lane cluster is =
    let some : 0 < lane = grind (arith, nat_tests, both_first (nat_lt 0 lane) (nat_le lane (length config.lanes)) is) in
    let last : lane ≤ length config.lanes = grind (arith, nat_tests, both_second (nat_lt 0 lane) (nat_le lane (length config.lanes)) is) in
    let lanes = cluster.few_lanes in
    let few : lane ≤ 16 = omega arith in
    (some, few)

-- its number is one that a seat may have
seated : (config : Config) (lane : ℕ) → IsCluster config → IsTrue (is_lane config lane) → client_number lane < 255
seated config lane cluster is = let within = lane_within config lane cluster is in lane_seated lane within.0 within.1

-- the client in a machine
client_in : ClientState → Machine → ClientState
client_in other (ClientMachine c) = c
client_in other m = other

-- the event is the client's own
own_actor : (sent : List Envelope) (lane : ℕ) (e : Event) (own : ClientEvent) → IsOwnOfClientIn sent lane e own → actor_of e ≡ Client lane
own_actor sent lane e client.Send is = ap actor_of is
own_actor sent lane e (client.Get envelope) is = ap actor_of is.1.0

-- what a client is to take is its event in the world
is_event : (config : Config) (w : World) (lane : ℕ) (e : Event) (own : ClientEvent) → IsOwnOfClientIn w.envelopes lane e own → IsEventOfClientIn config (Some w) e lane own
is_event config w lane e client.Send is = subst (λ z. IsEventOfClientIn config (Some w) z lane client.Send) (sym is) (of_send config (Some w) lane refl)
is_event config w lane e (client.Get envelope) is =
    subst (λ z. IsEventOfClientIn config (Some w) z lane (client.Get envelope)) (sym is.1.0) (of_get config (Some w) lane is.0 envelope refl is.1.1)

made : (c : ClientState) (o : Option ClientWork) (p : Prepared) → IsStepOf c o p → client_made o ≡ Some (ClientMachine (patched c p.patch), p.outputs)
made c None p step = absurd step
made c (Some m) p step = λ i. Some (ClientMachine (step.client i), record { sent = sym step.sent i; notes = sym step.notes i })

-- what was made ready is what the machine makes
makes : (config : Config) (sent : List Envelope) (lane : ℕ) (e : Event) (own : ClientEvent) (c : ClientState) (p : Prepared) → IsTrue (is_lane config lane) → IsOwnOfClientIn sent lane e own → IsStepFor c own p
    → machine_step config (ClientMachine c) e (envelope_named sent e) ≡ Some (ClientMachine (patched c p.patch), p.outputs)
makes config sent lane e client.Send c p there is step =
    ap (λ z. machine_step config (ClientMachine c) z (envelope_named sent z)) is ∙ (ap (λ b. client_made (only_where b (client_step c client.Send))) there ∙ made c (client_step c client.Send) p step)
makes config sent lane e (client.Get envelope) c p there is step =
    ap (λ z. machine_step config (ClientMachine c) z (envelope_named sent z)) is.1.0
    ∙ (ap (λ o. client_made (only_where (is_lane config lane) (client_hears c o))) is.1.1
    ∙ (ap (λ b. client_made (only_where b (client_step c (client.Get envelope)))) there ∙ made c (client_step c (client.Get envelope)) p step))

-- what the client is to take is within the ranges
pub client_ready : (lane : ℕ) (c : ClientState) (s : Seated) (xs : List Arrived) (e : Event) (own : ClientEvent) → IsClientPost lane c s xs → IsKnown s → IsOwnOfClient xs lane e own → CanMake c own
unfolding client_in
client_ready lane c s xs e own p known is =
    let config = p.config in
    let r = seen_run (λ config. is_lane config lane) (Client lane) (ClientMachine c) s xs p known in
    let w = r.world in
    let told : Told = record { config = config; events = s.seen } in
    let same : c ≡ w.clients lane = ap (client_in c) r.machine in
    let its : IsOwnOfClientIn w.envelopes lane e own = subst (λ z. IsOwnOfClientIn z lane e own) r.envelopes (is (all_sent config s.seen) p.inbox) in
    client_can_make told e lane own c r.legal p.there
    (subst (λ o. IsEventOfClientIn config o e lane own) (sym r.at) (is_event config w lane e own its))
    (subst (λ o. IsClientIn o lane c) (sym r.at) same)

-- what was made ready may be entered
pub client_may : (lane : ℕ) (c : ClientState) (s : Seated) (xs : List Arrived) (e : Event) (own : ClientEvent) (p : Prepared) (o : Outputs) → IsClientPost lane c s xs → IsKnown s → IsOwnOfClient xs lane e own
    → IsStepFor c own p → o ≡ p.outputs → MayEnter MayPush s.setting s.seen e o
client_may lane c s xs e own p o post known is step outputs =
    let its = is (all_sent post.config s.seen) post.inbox in
    subst (λ z. MayEnter MayPush s.setting s.seen e z) (sym outputs)
    (may_enter (λ config. is_lane config lane) (Client lane) (ClientMachine c) (ClientMachine (patched c p.patch)) s xs e p.outputs post known
    (own_actor (all_sent post.config s.seen) lane e own its)
    (makes post.config (all_sent post.config s.seen) lane e own c p post.there its step))

-- the event is of the seat's actor
pub client_owns : (lane : ℕ) (c : ClientState) (s : Seated) (xs : List Arrived) (e : Event) (own : ClientEvent) → IsClientPost lane c s xs → IsOwnOfClient xs lane e own → actor_number e ≡ s.number
unfolding actor_number
client_owns lane c s xs e own post is = ap number_of (own_actor (all_sent post.config s.seen) lane e own (is (all_sent post.config s.seen) post.inbox)) ∙ sym post.number

-- once the event is entered, the client that it leaves is at the seat
pub client_entered : (lane : ℕ) (c : ClientState) (s t : Seated) (xs : List Arrived) (e : Event) (own : ClientEvent) (p : Prepared) (k : ℕ) → IsClientPost lane c s xs → IsOwnOfClient xs lane e own
    → IsStepFor c own p → IsSameSitting s t → Entered s t e k → IsClientPost lane (patched c p.patch) t xs
client_entered lane c s t xs e own p k post is step same entered =
    let its = is (all_sent post.config s.seen) post.inbox in
    has_entered (λ config. is_lane config lane) (Client lane) (ClientMachine c) (ClientMachine (patched c p.patch)) s t xs e p.outputs k post same entered
    (makes post.config (all_sent post.config s.seen) lane e own c p post.there its step)

-- the client of a lane before its first event, at a new seat, with nothing heard
pub client_new : (lane : ℕ) (config : Config) (s : Seated) (c : ClientState) (xs : List Arrived) → IsCluster config → IsTrue (is_lane config lane) → IsNew config (client_number lane) s
    → c ≡ opening_client lane config.nodes (calls_of_lane config lane) → xs ≡ [] → IsClientPost lane c s xs
client_new lane config s c xs cluster there new is none =
    subst (λ zs. IsClientPost lane c s zs) (sym none)
    (subst (λ m. IsPost (λ config. is_lane config lane) (Client lane) m s []) (ap ClientMachine (sym is)) (new_post (λ config. is_lane config lane) (Client lane) config s cluster there (seated config lane cluster there) new))

-- a new seat of the number that is a lane's
pub client_seat : (config : Config) (lane number : ℕ) (s : Seated) → IsCluster config → IsTrue (is_lane config lane) → number ≡ s.number → lane ≡ number - 16 → 16 < number → IsNew config s.number s → IsNew config (client_number lane) s
client_seat config lane number s cluster there is lane_is above new =
    let within = lane_within config lane cluster there in
    let some = within.0 in
    let few = within.1 in
    let from : nat_lt 0 lane ≡ true = grind (arith, nat_tests) in
    let to : nat_le lane 16 ≡ true = grind (arith, nat_tests) in
    let back : s.number ≡ 16 + lane = omega arith in
    record { setting = new.setting; number = back ∙ sym (ap (λ b. cond b (16 + lane) 255) (both (nat_lt 0 lane) (nat_le lane 16) from to)); seen = new.seen; mine = new.mine }
