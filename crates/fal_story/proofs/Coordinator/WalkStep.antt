-- The coordinator's walk step: it asks for a directory that it lacks, or tells every node to shut the keys at which the walks ended.
use Rattle.std.proofs.Common.{◌≡◌, inr, ℕ, ◌+◌, ◌<◌, ◌≤◌, true, false, not, List, [], ◌∷◌, ◌++◌, length, Some, refl, sym, ap, ◌∙◌, subst, arith, append-nil}
use Rattle.std.specs.Prelude.{IsTrue}
use Rattle.std.specs.List.{All}
use Rattle.fal_base.specs.declared.call.CallRec.{CallRec}
use Rattle.fal_base.specs.declared.call.Config.{Config}
use Rattle.fal_base.specs.declared.event.Actor.TheVariants.{Node}
use Rattle.fal_base.specs.declared.event.Point.TheVariants.{Here}
use Rattle.fal_base.specs.declared.key.Key.{Key}
use Rattle.fal_base.specs.declared.op.Op.{Op}
use Rattle.fal_base.specs.declared.op.Op.TheVariants as op
use Rattle.fal_base.specs.declared.path.PathArg.TheVariants.{Good as GoodPath}
use Rattle.fal_base.specs.declared.reply.Reply.TheVariants.{Fail}
use Rattle.fal_base.specs.Answer.{answer}
use Rattle.fal_base.specs.Commits.{tree_at}
use Rattle.fal_coord.specs.declared.paths_walk.PathsWalk.{PathsWalk}
use Rattle.fal_coord.specs.declared.paths_walk.PathsWalk.TheVariants.{Stopped, Lacking, Ready}
use Rattle.fal_coord.specs.declared.stage.Operation.{Operation}
use Rattle.fal_coord.specs.declared.stage.PathWalk.{PathWalk}
use Rattle.fal_coord.specs.declared.stage.Stage.TheVariants as stage
use Rattle.fal_coord.specs.Begin.{ask_letter, asking, locking, walk_step, walked_as}
use Rattle.fal_coord.specs.Judged.{is_for_rows}
use Rattle.fal_coord.specs.Nodes.{numbers_below, to_nodes}
use Rattle.fal_coord.specs.State.{CoordState, Work, begun, at_stage}
use Rattle.fal_coord.specs.Walks.{is_busy, is_walking, parents_of, walk_paths, walked_paths, with_ends}
use Rattle.fal_place.specs.Placement.{owner}
use Rattle.fal_run.specs.Calls.{is_making}
use Rattle.fal_wire.specs.declared.message.Message.TheVariants as message
use Rattle.fal_wire.specs.Letters.{letter}
use Rattle.fal_story.proofs.Coordinator.Concludes.{some_below}
use Rattle.fal_story.proofs.Coordinator.CoordSends.{IsFineHere, coord_sends_all, fine_nodes}
use Rattle.fal_story.proofs.Coordinator.Walking.{IsWalking, gives_up, goes_on, held_there, walking}
use Rattle.fal_story.proofs.Events.Doing.{kept_walks}
use Rattle.fal_story.proofs.Events.GotEvent.{AllFit}
use Rattle.fal_story.proofs.Events.InCoord.{InCoord, EndsCoord, coord_ends, view_at}
use Rattle.fal_story.proofs.Events.Shows.{Ghost, Shows, Suits, askings_of, posts_of}
use Rattle.fal_story.proofs.Families.Operation.{IsKept}
use Rattle.fal_story.proofs.Good.{Good}
use Rattle.fal_story.proofs.Lists.Grown.{put_other, put_put, put_same}
use Rattle.fal_story.proofs.Phase.{Waits, Runs}
use Rattle.fal_story.proofs.Steps.Carried.{locking_good}
use Rattle.fal_story.proofs.Steps.PathsMet.{AreMet, met_paths}
use Rattle.fal_story.proofs.Steps.Walked.{IsLacking, crossed_now, lacking_good, pended}
use Rattle.fal_story.proofs.Trees.PathWalks.{first_stop, operation_paths_are, paths_stopped}
use Rattle.fal_story.proofs.Trees.Standing.{Reaches, call_paths, reaches, tree_now}
use Rattle.fal_story.proofs.View.{View, Locks, post}
use Rattle.fal_story.specs.Clusters.{IsCluster}
use Rattle.fal_story.specs.World.{World, put}

-- ---- what an operation is

-- it makes no row of a new number
makes_no_number : (call : Op) → is_walking call ≡ true → is_making call ≡ false
makes_no_number (op.Chmod path mode) is = refl
makes_no_number (op.Chown path uid gid) is = refl
makes_no_number (op.Rmdir path) is = refl
makes_no_number (op.Rename old new) is = refl
makes_no_number other is = absurd (cc)

-- with a walk of each of its paths, rows decide it
for_rows : (call : Op) (walks : List PathWalk) → is_walking call ≡ true → is_busy call ≡ false → length walks ≡ length (walked_paths call) → IsTrue (is_for_rows call (parents_of walks))
for_rows (op.Chmod (GoodPath path) mode) (walk ∷ []) is busy all = refl
for_rows (op.Chown (GoodPath path) uid gid) (walk ∷ []) is busy all = refl
for_rows (op.Rmdir (GoodPath path)) (walk ∷ []) is busy all = ap not busy
for_rows (op.Rename (GoodPath old) (GoodPath new)) (walk ∷ later ∷ []) is busy all = ap not busy
for_rows other walks is busy all = absurd (cc)

module _ (config : Config) (w : World) (coord : CoordState) (h h0 : Ghost) (c : CallRec) (cluster : IsCluster config) (shown : Shows config w h0) (s : IsWalking config w coord h c) (is_walked : IsTrue (is_walking c.op)) (busy : is_busy c.op ≡ false) where
  abbrev l : ℕ
  l = c.id.client

  abbrev v : View
  v = walking config w coord h l

  -- ---- it lacks a directory

  -- the walks come to the key
  comes_to : (key : Key) → reaches (tree_now w.commits) c.cred (walked_paths c.op) key ≡ true → Reaches (tree_now w.commits) (h.call l) key
  comes_to key is = subst (λ (d : CallRec). Reaches (tree_now w.commits) d key) s.is
      (subst (λ paths. reaches (tree_now w.commits) c.cred paths key ≡ true) (sym (operation_paths_are c.op is_walked busy)) is)

  asks : (key : Key) → reaches (tree_now w.commits) c.cred (walked_paths c.op) key ≡ true → AllFit (asking coord c key).sent → EndsCoord config w (asking coord c key)
  unfolding asking
  asks key is fit =
      let few = cluster.few_nodes in
      let q = Waits 255 (Some coord.asked) in
      let rests = put h.crossed l (crossed_now config v l key (length w.commits + 0)) in
      let later : Ghost = record h { phase = put h.phase l q; crossed = rests } in
      let lacks : IsLacking config v l key (length w.commits + 0) = record { few = omega arith; work = refl; waits = s.waits; none = refl; lacks = comes_to key is } in
      let good = lacking_good config v l key (length w.commits + 0) lacks s.good in
      let k = asking coord c key in
      let same : record (pended config v l key (length w.commits + 0)) { posts = v.posts ++ post (Node (owner coord.table key)) (length w.commits + 0) (message.FetchAsk 255 coord.asked key) ∷ [] } ≡ view_at config w k later =
      λ i. record (view_at config w k later) {
        fetches = put_put (λ m. askings_of (w.nodes m).waiting.fetches) 255 [] (record { number = coord.asked; key = key } ∷ []) i;
        opened = put_put (λ m. (w.nodes m).waiting.opened) 255 coord.asked (coord.asked + 1) i;
        entries = sym (append-nil w.entries) i;
        commits = sym (append-nil w.commits) i;
      } in (
        later,
        coord_ends config w h0 k later fit shown
            (goes_on config w coord h c s (coord.asked + 1) (stage.Walk c coord.asked key) (ask_letter coord key ∷ []) q rests (λ z. cc) (λ n x z. cc) tt
            (λ a apart. sym (put_other h.crossed l _ a apart))
            (s.is, put_same h.phase l q, is_walked, busy) s.numbered (subst (Good config) same good)),
      )

  -- ---- the walks are ready

  module _ (walks : List PathWalk) (kept : All (IsKept (tree_now w.commits) c.cred) (kept_walks (walked_paths c.op) walks)) (all : length walks ≡ length (walked_paths c.op)) where
    abbrev keys : List Key
    keys = with_ends [] (walked_paths c.op) walks

    abbrev operation : Operation
    operation = record { call = c; keys = keys; walks = walks }

    abbrev at : Work
    at = begun (at_stage coord (stage.Lock operation (numbers_below coord.table.nodes) []))

    abbrev then : Ghost
    then = record h { phase = put h.phase l Runs }

    suits : Suits operation
    suits = record { rows = for_rows c.op walks is_walked busy all; keys = refl }

    locks : InCoord config w at then
    locks =
        let nodes = s.nodes in
        let some = cluster.some_nodes in
        let unmaking = subst (λ (d : CallRec). is_making d.op ≡ false) s.is (makes_no_number c.op is_walked) in
        let kept_there = subst (λ (d : CallRec). All (IsKept (tree_now w.commits) d.cred) (kept_walks (walked_paths c.op) walks)) s.is kept in
        let good = locking_good config v l 255 keys (kept_walks (walked_paths c.op) walks) refl (held_there config w coord h c s) refl unmaking kept_there s.good in
        let same : record v { phase = then.phase; op = record v.op { work = Locks l keys (kept_walks (walked_paths c.op) walks) (numbers_below config.nodes) [] } } ≡ view_at config w at then =
        λ i. record (view_at config w at then) {
          posts = sym (append-nil (posts_of w.envelopes)) i;
          entries = sym (append-nil w.entries) i;
          commits = sym (append-nil w.commits) i;
          op = record (view_at config w at then).op { work = Locks l keys (kept_walks (walked_paths c.op) walks) (numbers_below (sym nodes i)) [] };
        } in
        goes_on config w coord h c s coord.asked (stage.Lock operation (numbers_below coord.table.nodes) []) [] Runs h.crossed (λ z. cc) (λ n x z. cc) tt (λ a _. refl)
        (s.is, suits, some_below coord.table.nodes (omega arith)) s.numbered (subst (Good config) same good)

    lock_fine : (n : ℕ) → n < config.nodes → IsFineHere config w at then (letter (Node n) (Here 0) (message.Lock coord.operation keys))
    lock_fine n below = record { asking = tt; records = (n, refl); operation = (n, refl, below, inr (refl, refl)); bars = tt; knowing = tt; listings = tt }

    sends_locks : AllFit (locking coord c keys walks).sent → EndsCoord config w (locking coord c keys walks)
    unfolding locking
    sends_locks fit =
        let nodes = s.nodes in
        let fine = fine_nodes config w at then (λ (n : ℕ). letter (Node n) (Here 0) (message.Lock coord.operation keys)) coord.table.nodes (λ n below. lock_fine n (omega arith)) in
        (then, coord_ends config w h0 (locking coord c keys walks) then fit shown (coord_sends_all config w at then (to_nodes coord.table.nodes (message.Lock coord.operation keys)) fine locks))

  -- ---- by how the walks end

  walks_as : (end : PathsWalk) → AreMet (tree_now w.commits) coord.replica c.cred (walked_paths c.op) end → AllFit (walked_as coord c end).sent → EndsCoord config w (walked_as coord c end)
  walks_as (Stopped errno) met fit =
      let tree = tree_now w.commits in
      let stops : first_stop tree c.cred (call_paths c.op) ≡ Some errno = ap (first_stop tree c.cred) (operation_paths_are c.op is_walked busy) ∙ met.1 in
      let here : length w.commits ≡ length w.commits + 0 = omega arith in
      let past : h.since l ≤ length w.commits = s.good.script.calls.past l in
      gives_up config w coord h c s h0 (Here 0) errno shown (omega arith) (omega arith)
      (subst (λ k. answer (tree_at w.commits k) c.cred c.op ≡ Fail errno) here (paths_stopped tree c.cred c.op errno stops)) fit
  walks_as (Lacking key) met fit = asks key met fit
  walks_as (Ready walks) met fit = sends_locks walks met.0 met.1 fit

  pub walks_on : AllFit (walk_step coord c).sent → EndsCoord config w (walk_step coord c)
  unfolding walk_step
  walks_on fit = walks_as (walk_paths coord.replica c.cred (walked_paths c.op)) (met_paths (tree_now w.commits) coord.replica c.cred (s.good.ground.replicas 255) (walked_paths c.op)) fit
