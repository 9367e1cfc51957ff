-- The coordinator begins with the first of the calls that wait.
use Rattle.std.proofs.Common.{◌≡◌, ℕ, ◌+◌, ◌≤◌, true, false, cond, List, [], ◌∷◌, ◌++◌, length, Option, Some, None, refl, sym, ap, subst, arith}
use Rattle.std.proofs.lemmas.Option.{same_Some}
use Rattle.fal_base.specs.declared.call.CallRec.{CallRec}
use Rattle.fal_base.specs.declared.call.Config.{Config}
use Rattle.fal_base.specs.declared.event.Point.TheVariants.{Here}
use Rattle.fal_base.specs.declared.reply.Errno.TheVariants.{Ebusy}
use Rattle.fal_base.specs.Commits.{tree_at}
use Rattle.fal_coord.specs.declared.event.CoordEvent.TheVariants.{Start}
use Rattle.fal_coord.specs.declared.stage.Stage.{Stage}
use Rattle.fal_coord.specs.declared.stage.Stage.TheVariants as stage
use Rattle.fal_coord.specs.Begin.{begin, begun_by, given_up, start, start_first, started}
use Rattle.fal_coord.specs.Place.{place_refusal}
use Rattle.fal_coord.specs.State.{Work}
use Rattle.fal_coord.specs.Step.{coord_step}
use Rattle.fal_coord.specs.Walks.{is_busy, placing_of}
use Rattle.fal_place.specs.Placement.{Placing}
use Rattle.fal_story.proofs.Coordinator.PlaceStart.{place_begins}
use Rattle.fal_story.proofs.Coordinator.Placeable.{walking_or}
use Rattle.fal_story.proofs.Coordinator.WalkStep.{walks_on}
use Rattle.fal_story.proofs.Coordinator.Walking.{IsWalking, gives_up, walking}
use Rattle.fal_story.proofs.Events.Doing.{awaited, work_of}
use Rattle.fal_story.proofs.Events.GotEvent.{AllFit}
use Rattle.fal_story.proofs.Events.InCoord.{EndsCoord}
use Rattle.fal_story.proofs.Events.Shows.{Ghost, Shows, WaitsThere, askings_of, view_of, before_in}
use Rattle.fal_story.proofs.Events.Tables.{coord_nodes, numbered_few}
use Rattle.fal_story.proofs.Good.{Good}
use Rattle.fal_story.proofs.Lists.Each.{Apart, Each}
use Rattle.fal_story.proofs.Phase.{IsPast}
use Rattle.fal_story.proofs.Steps.Carried.{started_good}
use Rattle.fal_story.proofs.Trees.PathWalks.{busy_answered}
use Rattle.fal_story.proofs.View.{Walks}
use Rattle.fal_story.specs.Clusters.{IsCluster}
use Rattle.fal_story.specs.World.{World, put}

module _ (config : Config) (w : World) (h : Ghost) (cluster : IsCluster config) (shown : Shows config w h) where
  module _ (c : CallRec) (calls : List CallRec) (idle : w.coord.stage ≡ stage.Idle) (first : w.coord.waiting ≡ c ∷ calls) where
    abbrev l : ℕ
    l = c.id.client

    -- an operation more was started
    abbrev later : Ghost
    later = record h { starts = h.starts ++ (l, (w.clients l).seq) ∷ [] }

    walks : IsWalking config w (started w.coord calls) later c
    unfolding started
    walks =
        let v = view_of config w h in
        let waits = subst (Each (WaitsThere h.call h.phase)) first shown.beside.hosts.waiters in
        let apart = subst (Apart (λ (k : CallRec). k.id.client)) first shown.beside.hosts.apart in
        let numbered = numbered_few config w h shown in
        let good = started_good config v l (ap (work_of (before_in config h)) idle) (λ past. subst IsPast waits.0.0 past) shown.good in
        let same : record v { op = record v.op { operation = v.op.operation + 1; work = Walks l; starts = v.op.starts ++ (l, v.seq l) ∷ [] } } ≡ walking config w (started w.coord calls) later l =
        λ i. record (walking config w (started w.coord calls) later l) { fetches = put (λ m. askings_of (w.nodes m).waiting.fetches) 255 (ap awaited idle i) } in
        record {
          good = subst (Good config) same good;
          held = shown.held;
          heard = shown.heard;
          queues = shown.beside.queues;
          holding = shown.beside.holding;
          waiters = waits.1;
          apart = apart.1;
          others = apart.0;
          is = waits.0.1;
          waits = waits.0.0;
          nodes = coord_nodes config w h shown;
          numbered = omega arith;
        }

    -- a name is placed, or paths are walked
    goes : (placing : Option Placing) → placing_of c.op ≡ placing → is_busy c.op ≡ false → AllFit (begun_by (started w.coord calls) c placing).sent → EndsCoord config w (begun_by (started w.coord calls) c placing)
    unfolding started
    goes None none free fit =
        let waits = subst (Each (WaitsThere h.call h.phase)) first shown.beside.hosts.waiters in
        walks_on config w (started w.coord calls) later h c cluster shown walks (walking_or c.op waits.0.2 none) free fit
    goes (Some placing) places free fit = place_begins config w h c calls placing cluster shown idle places walks (place_refusal (started w.coord calls).table c.cred placing) refl fit

    -- an operation on the root is busy
    begins : AllFit (start (started w.coord calls) c).sent → EndsCoord config w (start (started w.coord calls) c)
    begins =
        let coord = started w.coord calls in
        elim (is_busy c.op) as (λ b. is_busy c.op ≡ b → AllFit (cond b (given_up coord c (Here 0) Ebusy) (begun_by coord c (placing_of c.op))).sent
        → EndsCoord config w (cond b (given_up coord c (Here 0) Ebusy) (begun_by coord c (placing_of c.op)))) [
          | true ↦ λ busy fit.
              let past : h.since l ≤ length w.commits = walks.good.script.calls.past l in
              gives_up config w coord later c walks h (Here 0) Ebusy shown (omega arith) (omega arith) (busy_answered (tree_at w.commits (length w.commits + 0)) c.cred c.op busy) fit
          | false ↦ λ free fit. goes (placing_of c.op) refl free fit
        ] refl

  first_of : (k : Work) (calls : List CallRec) → w.coord.stage ≡ stage.Idle → w.coord.waiting ≡ calls → start_first w.coord calls ≡ Some k → AllFit k.sent → EndsCoord config w k
  first_of k [] idle first is fit = absurd (cc)
  first_of k (c ∷ calls) idle first is fit =
      let same = same_Some (start (started w.coord calls) c) k is in
      subst (EndsCoord config w) same (begins c calls idle first (subst (λ (k : Work). AllFit k.sent) (sym same) fit))

  begins_at : (k : Work) (s : Stage) → w.coord.stage ≡ s → begin w.coord s ≡ Some k → AllFit k.sent → EndsCoord config w k
  begins_at k stage.Idle idle is fit = first_of k w.coord.waiting idle refl is fit
  begins_at k other at is fit = absurd (cc)

pub start_event : (config : Config) (w : World) (h : Ghost) (k : Work) → IsCluster config → Shows config w h → coord_step w.coord Start ≡ Some k → AllFit k.sent → EndsCoord config w k
unfolding coord_step
start_event config w h k cluster shown is fit = begins_at config w h cluster shown k w.coord.stage refl is fit
