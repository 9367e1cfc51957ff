-- A cluster goes on when the coordinator begins with a call; and what its stage says of the nodes.
use Rattle.std.proofs.Common.{◌≡◌, ◌≢◌, ⊎_elim, ℕ, ◌<◌, Bool, true, false, cond, List, [], ◌∷◌, length, Option, Some, None, IsTrue, refl, sym, ap, subst, ◌∙◌}
use Rattle.std.specs.List.{All}
use Rattle.std.proofs.lemmas.Option.{same_Some}
use Rattle.fal_base.specs.declared.call.CallRec.{CallRec}
use Rattle.fal_base.specs.declared.call.Config.{Config}
use Rattle.fal_base.specs.declared.event.Point.TheVariants.{Here}
use Rattle.fal_base.specs.declared.key.Key.{Key}
use Rattle.fal_base.specs.declared.reply.Errno.TheVariants.{Ebusy}
use Rattle.fal_base.specs.declared.reply.Reply.TheVariants as reply
use Rattle.fal_base.specs.declared.row.Update.{Update}
use Rattle.fal_coord.specs.declared.event.CoordEvent.TheVariants as coord_event
use Rattle.fal_coord.specs.declared.stage.Operation.{Operation}
use Rattle.fal_coord.specs.declared.stage.Stage.{Stage}
use Rattle.fal_coord.specs.declared.stage.Stage.TheVariants as stage
use Rattle.fal_coord.specs.Begin.{begun_by, started, start_first, begin, start, given_up}
use Rattle.fal_coord.specs.Hear.{heard}
use Rattle.fal_coord.specs.Nodes.{is_missing}
use Rattle.fal_coord.specs.State.{Work}
use Rattle.fal_coord.specs.Step.{coord_step}
use Rattle.fal_coord.specs.Walks.{is_busy, placing_of}
use Rattle.fal_wire.specs.declared.letter.Letter.{Letter}
use Rattle.fal_wire.specs.Letters.{reply_letter}
use Rattle.fal_wire.specs.Messages.{Fits}
use Rattle.fal_story.proofs.Drain.Actors.{lane_there}
use Rattle.fal_story.proofs.Drain.Blocked.{none_blocked}
use Rattle.fal_story.proofs.Drain.Moving.{IsMoving, items_in}
use Rattle.fal_story.proofs.Drain.MovingCoord.{IsWell, coord_moves, idle_well, begun_well, tabled}
use Rattle.fal_story.proofs.Drain.OnWay.{way_more}
use Rattle.fal_story.proofs.Events.Doing.{work_of}
use Rattle.fal_story.proofs.Events.InCoord.{coord_after}
use Rattle.fal_story.proofs.Events.InStep.{letter_posts}
use Rattle.fal_story.proofs.Events.Shows.{Ghost, Shows, WaitsThere, view_of, posts_of, before_in}
use Rattle.fal_story.proofs.Families.Operation.{Stands, IsOf, shut_by}
use Rattle.fal_story.proofs.Lists.Each.{Each}
use Rattle.fal_story.proofs.Phase.{Idle, Runs, Waits}
use Rattle.fal_story.specs.Clusters.{is_lane}
use Rattle.fal_story.specs.World.{World}

-- ---- what the stage says

module _ (config : Config) (w : World) (h : Ghost) (s : Shows config w h) where
  abbrev pub StandsAt : Stage → ℕ → Type 0
  StandsAt t n = Stands w.coord.table w.coord.operation (work_of (before_in config h) t) n (w.nodes n).locks.shut (h.queued n) (w.nodes n).last_operation (h.due n)

  pub stands_at : (t : Stage) (n : ℕ) → w.coord.stage ≡ t → n < config.nodes → StandsAt t n
  stands_at t n at there = subst (λ t. StandsAt t n) at (s.good.operation.stands n there)

  pub idle_open : (n : ℕ) → w.coord.stage ≡ stage.Idle → n < config.nodes → (w.nodes n).locks.shut ≡ None
  idle_open n at there = let x = stands_at stage.Idle n at there in x.1

  pub walk_open : (call : CallRec) (number : ℕ) (key : Key) (n : ℕ) → w.coord.stage ≡ stage.Walk call number key → n < config.nodes → (w.nodes n).locks.shut ≡ None
  walk_open call number key n at there = let x = stands_at (stage.Walk call number key) n at there in x.1

  shut_some : (n : ℕ) (operation : ℕ) (keys : List Key) → (w.nodes n).locks.shut ≡ shut_by operation keys → (w.nodes n).locks.shut ≢ None
  shut_some n operation keys is none = let wrong : None ≡ shut_by operation keys = sym none ∙ is in cc

  pub count_shut : (operation : Operation) (rows : List Update) (dir : ℕ) (updates : List Update) (missing counts : List ℕ) (n : ℕ) → w.coord.stage ≡ stage.Count operation rows dir updates missing counts → n < config.nodes
      → (w.nodes n).locks.shut ≢ None
  count_shut operation rows dir updates missing counts n at there = let x = stands_at (stage.Count operation rows dir updates missing counts) n at there in shut_some n w.coord.operation operation.keys x.1.0

  -- each node but those that are still to be heard
  pub lock_shut : (operation : Operation) (missing : List ℕ) (rows : List Update) (n : ℕ) → w.coord.stage ≡ stage.Lock operation missing rows → n < config.nodes → (is_missing n missing ≡ true → ⊥) → (w.nodes n).locks.shut ≢ None
  lock_shut operation missing rows n at there heard =
      let x = stands_at (stage.Lock operation missing rows) n at there in
      ⊎_elim (λ waits. absurd (heard waits.0)) (λ shut. shut_some n w.coord.operation operation.keys shut.0) x.1

  -- the call that is walked, and the operation's, are of lanes that are there
  pub waits_there : (l : ℕ) (fetch : Option ℕ) → h.phase l ≡ Waits 255 fetch → IsTrue (is_lane config l)
  waits_there l fetch is = lane_there config (view_of config w h) l s.good (λ e. let wrong : Idle ≡ Waits 255 fetch = sym e ∙ is in absurd (cc))

  pub runs_there : (l : ℕ) → IsOf l (work_of (before_in config h) w.coord.stage) → IsTrue (is_lane config l)
  runs_there l is = lane_there config (view_of config w h) l s.good (λ e. let wrong : Idle ≡ Runs = sym e ∙ s.good.operation.running l is in absurd (cc))

-- ---- Start

pub start_moves : (config : Config) (w : World) (came : ℕ → Bool) (h : Ghost) (k : Work) → Shows config w h → IsMoving config w came → coord_step w.coord coord_event.Start ≡ Some k
    → All (λ (l : Letter). Fits l.message) k.sent → IsMoving config (coord_after config w k) came
unfolding coord_step started
start_moves config w came h k s m is fit =
    coord_moves config w came came k fit m m.past (λ n f _ o. way_more (posts_of w.envelopes) (letter_posts (length w.commits) k.sent) came (items_in w) (items_in w) n f (λ i item at. at) o)
    (by_stage w.coord.stage w.coord.waiting refl refl is)
  where
    from_first : (call : CallRec) (calls : List CallRec) → w.coord.stage ≡ stage.Idle → w.coord.waiting ≡ call ∷ calls → Some (start (started w.coord calls) call) ≡ Some k → IsWell config w came k
    from_first call calls at waits e =
        let waiter = subst (λ cs. Each (WaitsThere h.call h.phase) cs) waits s.beside.hosts.waiters in
        let lane = waits_there config w h s call.id.client None waiter.0.0 in
        subst (IsWell config w came) (same_Some (start (started w.coord calls) call) k e)
        (elim (is_busy call.op) as (λ b. IsWell config w came (cond b (given_up (started w.coord calls) call (Here 0) Ebusy) (begun_by (started w.coord calls) call (placing_of call.op)))) [
          | true ↦ idle_well config w came m.past (started w.coord calls) (reply_letter call (Here 0) (reply.Fail Ebusy) ∷ []) [] (lane, tt)
          | false ↦ begun_well config w came m.past (started w.coord calls) call (tabled config w h s) lane (λ n there. idle_open config w h s n at there) (λ n there. none_blocked config w h s stage.Idle n at tt there)
        ])

    by_stage : (t : Stage) (cs : List CallRec) → w.coord.stage ≡ t → w.coord.waiting ≡ cs → begin w.coord t ≡ Some k → IsWell config w came k
    by_stage stage.Idle [] at waits e = let wrong : None ≡ Some k = sym (ap (λ cs. start_first w.coord cs) waits) ∙ e in absurd (cc)
    by_stage stage.Idle (call ∷ calls) at waits e = from_first call calls at waits (sym (ap (λ cs. start_first w.coord cs) waits) ∙ e)
    by_stage (stage.Walk call fetch key) cs at waits e = absurd (cc)
    by_stage (stage.Lock operation missing rows) cs at waits e = absurd (cc)
    by_stage (stage.Count operation rows dir updates missing counts) cs at waits e = absurd (cc)
    by_stage (stage.Finish keys updates missing) cs at waits e = absurd (cc)
    by_stage (stage.Block call missing rows) cs at waits e = absurd (cc)
    by_stage (stage.Install call missing) cs at waits e = absurd (cc)
