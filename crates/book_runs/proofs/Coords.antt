-- The coordinator at its seat: what it makes ready may be entered, and what it makes then is the replay again.
use Rattle.std.proofs.Common.{◌≡◌, ◌<◌, ℕ, true, arith, List, [], Option, Some, None, refl, sym, ap, ◌∙◌, subst}
use Rattle.fal_alone.proofs.Ranged.{coord_can_make}
use Rattle.fal_alone.proofs.Taken.{of_hear, of_start}
use Rattle.fal_alone.specs.Turns.{IsEventOfCoordIn, IsCoordIn}
use Rattle.fal_base.specs.declared.call.Config.{Config}
use Rattle.fal_base.specs.declared.event.Actor.TheVariants.{Coord}
use Rattle.fal_base.specs.declared.event.Envelope.{Envelope}
use Rattle.fal_base.specs.declared.event.Event.{Event}
use Rattle.fal_base.specs.declared.event.Outputs.{Outputs}
use Rattle.fal_book.specs.Sitting.{IsSameSitting, Entered, MayEnter}
use Rattle.fal_coord.specs.declared.event.CoordEvent.{CoordEvent}
use Rattle.fal_coord.specs.declared.event.CoordEvent.TheVariants as coord
use Rattle.fal_coord.specs.declared.patch.Prepared.{Prepared}
use Rattle.fal_coord.specs.Patch.{SeenCoord, patched}
use Rattle.fal_coord.specs.Ready.{IsStepOf, IsStepFor}
use Rattle.fal_coord.specs.State.{CoordState, Work, opening_coord}
use Rattle.fal_coord.specs.Step.{CanMake, coord_step}
use Rattle.fal_story.specs.declared.inbox.Arrived.{Arrived}
use Rattle.fal_story.specs.Actors.{actor_of, number_of, actor_number}
use Rattle.fal_story.specs.Clusters.{IsCluster}
use Rattle.fal_story.specs.Machines.{Machine, CoordMachine, coord_hears, coord_made, machine_step, envelope_named}
use Rattle.fal_story.specs.Pushing.{MayPush, all_sent}
use Rattle.fal_story.specs.Told.{Told}
use Rattle.fal_story.specs.World.{World}
use Rattle.book_runs.specs.Posts.{Seated, IsKnown, IsPost, IsNew, IsCoordPost, IsOwnOfCoordIn, IsOwnOfCoord}
use Rattle.book_runs.proofs.Kept.{seen_run, may_enter, has_entered, new_post}

-- the coordinator in a machine
coord_in : CoordState → Machine → CoordState
coord_in other (CoordMachine c) = c
coord_in other m = other

-- the event is the coordinator's own
own_actor : (sent : List Envelope) (e : Event) (own : CoordEvent) → IsOwnOfCoordIn sent e own → actor_of e ≡ Coord
own_actor sent e (coord.Hear envelope) is = ap actor_of is.1.0
own_actor sent e coord.Start is = ap actor_of is

-- what the coordinator is to take is its event in the world
is_event : (config : Config) (w : World) (e : Event) (own : CoordEvent) → IsOwnOfCoordIn w.envelopes e own → IsEventOfCoordIn config (Some w) e own
is_event config w e (coord.Hear envelope) is =
    subst (λ z. IsEventOfCoordIn config (Some w) z (coord.Hear envelope)) (sym is.1.0) (of_hear config (Some w) is.0 envelope refl is.1.1)
is_event config w e coord.Start is = subst (λ z. IsEventOfCoordIn config (Some w) z coord.Start) (sym is) (of_start config (Some w) refl)

made : (s : SeenCoord) (o : Option Work) (p : Prepared) → IsStepOf s o p → coord_made o ≡ Some (CoordMachine (patched s.state p.patch), p.outputs)
made s None p step = absurd step
made s (Some work) p step = λ i. Some (CoordMachine (step.coord_after i), record { sent = sym step.sent i; notes = sym step.notes i })

-- what was made ready is what the machine makes
makes : (config : Config) (sent : List Envelope) (e : Event) (own : CoordEvent) (s : SeenCoord) (p : Prepared) → IsOwnOfCoordIn sent e own → IsStepFor s own p
    → machine_step config (CoordMachine s.state) e (envelope_named sent e) ≡ Some (CoordMachine (patched s.state p.patch), p.outputs)
makes config sent e (coord.Hear envelope) s p is step =
    ap (λ z. machine_step config (CoordMachine s.state) z (envelope_named sent z)) is.1.0
    ∙ (ap (λ o. coord_made (coord_hears s.state o)) is.1.1 ∙ made s (coord_step s.state (coord.Hear envelope)) p step)
makes config sent e coord.Start s p is step = ap (λ z. machine_step config (CoordMachine s.state) z (envelope_named sent z)) is ∙ made s (coord_step s.state coord.Start) p step

-- what the coordinator is to take is within the ranges
pub coord_ready : (c : CoordState) (s : Seated) (xs : List Arrived) (e : Event) (own : CoordEvent) → IsCoordPost c s xs → IsKnown s → IsOwnOfCoord xs e own → CanMake c own
unfolding coord_in
coord_ready c s xs e own p known is =
    let config = p.config in
    let r = seen_run (λ config. true) Coord (CoordMachine c) s xs p known in
    let w = r.world in
    let told : Told = record { config = config; events = s.seen } in
    let same : c ≡ w.coord = ap (coord_in c) r.machine in
    let its : IsOwnOfCoordIn w.envelopes e own = subst (λ z. IsOwnOfCoordIn z e own) r.envelopes (is (all_sent config s.seen) p.inbox) in
    coord_can_make told e own c r.legal
    (subst (λ o. IsEventOfCoordIn config o e own) (sym r.at) (is_event config w e own its))
    (subst (λ o. IsCoordIn o c) (sym r.at) same)

-- what was made ready may be entered
pub coord_may : (c : SeenCoord) (s : Seated) (xs : List Arrived) (e : Event) (own : CoordEvent) (p : Prepared) (o : Outputs) → IsCoordPost c.state s xs → IsKnown s → IsOwnOfCoord xs e own
    → IsStepFor c own p → o ≡ p.outputs → MayEnter MayPush s.setting s.seen e o
coord_may c s xs e own p o post known is step outputs =
    let its = is (all_sent post.config s.seen) post.inbox in
    subst (λ z. MayEnter MayPush s.setting s.seen e z) (sym outputs)
    (may_enter (λ config. true) Coord (CoordMachine c.state) (CoordMachine (patched c.state p.patch)) s xs e p.outputs post known
    (own_actor (all_sent post.config s.seen) e own its)
    (makes post.config (all_sent post.config s.seen) e own c p its step))

-- the event is of the seat's actor
pub coord_owns : (c : CoordState) (s : Seated) (xs : List Arrived) (e : Event) (own : CoordEvent) → IsCoordPost c s xs → IsOwnOfCoord xs e own → actor_number e ≡ s.number
unfolding actor_number
coord_owns c s xs e own post is = ap number_of (own_actor (all_sent post.config s.seen) e own (is (all_sent post.config s.seen) post.inbox)) ∙ sym post.number

-- once the event is entered, the coordinator that it leaves is at the seat
pub coord_entered : (c : SeenCoord) (s t : Seated) (xs : List Arrived) (e : Event) (own : CoordEvent) (p : Prepared) (k : ℕ) → IsCoordPost c.state s xs → IsOwnOfCoord xs e own
    → IsStepFor c own p → IsSameSitting s t → Entered s t e k → IsCoordPost (patched c.state p.patch) t xs
coord_entered c s t xs e own p k post is step same entered =
    let its = is (all_sent post.config s.seen) post.inbox in
    has_entered (λ config. true) Coord (CoordMachine c.state) (CoordMachine (patched c.state p.patch)) s t xs e p.outputs k post same entered
    (makes post.config (all_sent post.config s.seen) e own c p its step)

-- the coordinator before its first event, at a new seat, with nothing heard
pub coord_new : (config : Config) (s : Seated) (c : CoordState) (xs : List Arrived) → IsCluster config → IsNew config 16 s → c ≡ opening_coord config.nodes → xs ≡ [] → IsCoordPost c s xs
coord_new config s c xs cluster new is none =
    let seated : 16 < 255 = omega arith in
    subst (λ zs. IsCoordPost c s zs) (sym none)
    (subst (λ m. IsPost (λ config. true) Coord m s []) (ap CoordMachine (sym is)) (new_post (λ config. true) Coord config s cluster refl seated new))

-- a new seat of the number that is the coordinator's
pub coord_seat : (config : Config) (s : Seated) → s.number ≡ 16 → IsNew config s.number s → IsNew config 16 s
coord_seat config s is new = record { setting = new.setting; number = is; seen = new.seen; mine = new.mine }
