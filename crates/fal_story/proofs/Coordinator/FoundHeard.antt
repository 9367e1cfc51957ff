-- What was found for the fetch of its walk comes to the coordinator: the walk goes on over one directory more, or the call is given up.
use Rattle.std.proofs.Common.{◌≡◌, ◌≢◌, ◌⊎◌, inl, inr, ℕ, ◌≤◌, ◌==◌, true, false, cond, [], ◌∷◌, length, None, refl, sym, ap, ◌∙◌, subst, arith}
use Rattle.std.proofs.lemmas.Bool.{eqb-true}
use Rattle.fal_base.specs.declared.call.CallRec.{CallRec}
use Rattle.fal_base.specs.declared.call.Config.{Config}
use Rattle.fal_base.specs.declared.event.Actor.TheVariants.{Node}
use Rattle.fal_base.specs.declared.event.Point.TheVariants.{Carried}
use Rattle.fal_base.specs.declared.inode.Dentry.{Dentry}
use Rattle.fal_base.specs.declared.key.Key.{Key}
use Rattle.fal_base.specs.declared.reply.Errno.{Errno}
use Rattle.fal_base.specs.declared.reply.Errno.TheVariants.{Enoent, Enotdir}
use Rattle.fal_base.specs.declared.reply.Reply.TheVariants.{Fail}
use Rattle.fal_base.specs.Answer.{answer}
use Rattle.fal_base.specs.Commits.{tree_at}
use Rattle.fal_base.specs.Maps.{with_value}
use Rattle.fal_base.specs.Tree.{row_at}
use Rattle.fal_coord.specs.declared.stage.Stage.{Stage}
use Rattle.fal_coord.specs.declared.stage.Stage.TheVariants as stage
use Rattle.fal_coord.specs.Begin.{given_up}
use Rattle.fal_coord.specs.Hear.{found_at, learned, take_found}
use Rattle.fal_coord.specs.State.{CoordState, begun, at_stage}
use Rattle.fal_run.specs.declared.call.BatchCall.{BatchCall}
use Rattle.fal_wire.specs.declared.message.Found.{Found}
use Rattle.fal_wire.specs.declared.message.Found.TheVariants as found
use Rattle.fal_wire.specs.declared.message.Message.TheVariants as message
use Rattle.fal_story.proofs.Coordinator.AtStage.{hosts_at, seen, seen_at, stays}
use Rattle.fal_story.proofs.Coordinator.CoordMoves.{IsThere, moved_heard, moved_held, moved_holds, moved_waiters}
use Rattle.fal_story.proofs.Coordinator.WalkStep.{walks_on}
use Rattle.fal_story.proofs.Coordinator.Walking.{IsWalking, gives_up, walking}
use Rattle.fal_story.proofs.Events.GotEvent.{AllFit, file_found, none_found}
use Rattle.fal_story.proofs.Events.InCoord.{EndsCoord}
use Rattle.fal_story.proofs.Events.Shows.{Ghost, Shows, WaitsThere, askings_of, calls_in, posts_of}
use Rattle.fal_story.proofs.Events.Tables.{coord_nodes, numbered_few}
use Rattle.fal_story.proofs.Families.Asking.{IsOpened}
use Rattle.fal_story.proofs.Families.Clear.{IsShut}
use Rattle.fal_story.proofs.Good.{Good}
use Rattle.fal_story.proofs.Lists.Each.{Each, each_weaker}
use Rattle.fal_story.proofs.Lists.Grown.{put_all, put_put, put_same}
use Rattle.fal_story.proofs.Phase.{Idle, Waits, Plans, IsHeld}
use Rattle.fal_story.proofs.Steps.Fetching.{closed_good}
use Rattle.fal_story.proofs.Steps.Learned.{learned_good}
use Rattle.fal_story.proofs.Steps.Moved.{MayMove, moved_good}
use Rattle.fal_story.proofs.Trees.PathWalks.{StopsAt, reached_fails}
use Rattle.fal_story.proofs.Trees.Standing.{HasDir, tree_now}
use Rattle.fal_story.proofs.Trees.Ways.{reached_file, reached_none}
use Rattle.fal_story.proofs.View.{Asking, IsPosted, View}
use Rattle.fal_story.specs.Clusters.{IsCluster}
use Rattle.fal_story.specs.World.{World, put}

-- one directory more is learned on the walk
learns : (config : Config) (w : World) (coord : CoordState) (h : Ghost) (c : CallRec) (key : Key) (dentry : Dentry) → config.nodes ≤ 255 → HasDir (tree_now w.commits) key dentry → IsWalking config w coord h c
    → IsWalking config w (learned coord key dentry) h c
unfolding learned
learns config w coord h c key dentry few is s =
    let v = walking config w coord h c.id.client in
    let good = learned_good config v 255 key dentry (inl refl) is (λ shut. subst (λ o. IsShut o key) (s.good.operation.beyond 255 few) shut) s.good in
    let same : record v { replica = put v.replica 255 (with_value coord.replica key dentry) } ≡ walking config w (learned coord key dentry) h c.id.client =
    λ i. record (walking config w (learned coord key dentry) h c.id.client) { replica = put_put (λ m. (w.nodes m).replica) 255 coord.replica (with_value coord.replica key dentry) i } in
    record {
      good = subst (Good config) same good;
      held = s.held;
      heard = s.heard;
      queues = s.queues;
      holding = s.holding;
      waiters = s.waiters;
      apart = s.apart;
      others = s.others;
      is = s.is;
      waits = s.waits;
      nodes = s.nodes;
      numbered = s.numbered;
    }

module _ (config : Config) (w : World) (h : Ghost) (e p number : ℕ) (key : Key) (cluster : IsCluster config) (shown : Shows config w h) where
  module _ (c : CallRec) (wanted : Key) (at : w.coord.stage ≡ stage.Walk c number wanted) where
    abbrev l : ℕ
    l = c.id.client

    abbrev fetch : Asking
    fetch = record { number = number; key = wanted }

    -- where the coordinator waits for this fetch
    abbrev v : View
    v = seen config w (at_stage w.coord (stage.Walk c number wanted)) h

    good_at : Good config v
    good_at = seen_at config w h shown (stage.Walk c number wanted) at

    abbrev later : Ghost
    later = record h { phase = put h.phase l (Waits 255 None) }

    -- the fetch is no longer pending, and the call waits for nothing
    walks : IsWalking config w w.coord later c
    walks =
        let hosts = hosts_at config w h shown (stage.Walk c number wanted) at in
        let waits = hosts.current.1 in
        let there : IsThere (h.phase l) = subst IsThere (sym waits) refl in
        let busy : Waits 255 None ≢ Idle = λ z. cc in
        let unplanned : (n : ℕ) (x : BatchCall) → Waits 255 None ≢ Plans n x = λ n x z. cc in
        let closed = closed_good config v 255 [] (inl refl) (λ j f none. absurd (cc)) (λ _. tt) good_at in
        let v1 : View = record v { fetches = put v.fetches 255 [] } in
        let moved = moved_good config v1 later.phase h.crossed
        (put_all (λ a q. ((q ≡ h.phase a) × (h.crossed a ≡ h.crossed a)) ⊎ MayMove config v1 a (h.phase a) q (h.crossed a)) h.phase l (Waits 255 None) (inr (subst (IsHeld 255) (sym waits) refl)) (λ a _. inl (refl, refl))) closed in
        let same : record v1 { phase = later.phase } ≡ walking config w w.coord later l =
        λ i. record (walking config w w.coord later l) { fetches = put_put (λ m. askings_of (w.nodes m).waiting.fetches) 255 (fetch ∷ []) [] i } in
        let others : Each (λ (k : CallRec). k.id.client ≢ l) w.coord.waiting = each_weaker (WaitsThere h.call h.phase) (λ (k : CallRec). k.id.client ≢ l) w.coord.waiting
        (λ k free one. let both = sym waits ∙ ap h.phase (sym one) ∙ free.0 in absurd (cc)) hosts.waiters in
        record {
          good = subst (Good config) same moved;
          held = λ n. moved_held h.call h.phase l (Waits 255 None) there busy unplanned n (w.nodes n).waiting.calls (calls_in (w.nodes n).batches) (shown.held n);
          heard = moved_heard h.call h.phase l (Waits 255 None) there busy unplanned tt config w shown.heard;
          queues = shown.beside.queues;
          holding = λ n. moved_holds h.call h.phase l (Waits 255 None) there busy unplanned h.crossed h.crossed (λ a _. refl) n (w.nodes n) (shown.beside.holding n);
          waiters = moved_waiters h.call h.phase l (Waits 255 None) there busy unplanned w.coord.waiting others hosts.waiters;
          apart = hosts.apart;
          others = others;
          is = hosts.current.0;
          waits = put_same h.phase l (Waits 255 None);
          nodes = coord_nodes config w h shown;
          numbered = numbered_few config w h shown;
        }

    -- the fetch was opened after so many commits, and its answers are younger
    opened : (o : ℕ) × IsOpened w.commits (posts_of w.envelopes) h.call h.since h.phase h.crossed 255 fetch o
    opened = (good_at.asking.fetches 255 0 fetch refl).1

    -- every walk that comes to the key stopped there at the answer's point
    refuses : (what : Found) (errno : Errno) → IsPosted (posts_of w.envelopes) e (Node 255) p (message.FetchGot number key what) → p ≤ length w.commits → StopsAt (tree_at w.commits p) wanted errno
        → AllFit (given_up w.coord c (Carried p) errno).sent → EndsCoord config w (given_up w.coord c (Carried p) errno)
    refuses what errno posted past stops fit =
        let hosts = hosts_at config w h shown (stage.Walk c number wanted) at in
        let is = opened.1 in
        let younger = (is.later e p key what posted).1 in
        let mine = is.waiters l hosts.current.1 in
        let since = mine.0 in
        let fails = reached_fails (tree_at w.commits p) (h.call l) wanted errno stops (mine.1 p younger past) in
        gives_up config w w.coord later c walks h (Carried p) errno shown (omega arith) past (subst (λ (d : CallRec). answer (tree_at w.commits p) d.cred d.op ≡ Fail errno) (sym hosts.current.0) fails) fit

    found_now : (what : Found) → IsPosted (posts_of w.envelopes) e (Node 255) p (message.FetchGot number key what) → AllFit (found_at w.coord p c key what).sent → EndsCoord config w (found_at w.coord p c key what)
    found_now (found.Dir dentry) posted fit =
        let few = cluster.few_nodes in
        let hosts = hosts_at config w h shown (stage.Walk c number wanted) at in
        let key_is = (opened.1.later e p key (found.Dir dentry) posted).0 in
        let posted_so = subst (λ q. IsPosted (posts_of w.envelopes) e (Node 255) p (message.FetchGot number q (found.Dir dentry))) key_is posted in
        let is = good_at.asking.found_dirs e 255 p 0 fetch dentry refl posted_so in
        walks_on config w (learned w.coord key dentry) later h c cluster shown
        (learns config w w.coord later c key dentry (omega arith) (subst (λ q. HasDir (tree_now w.commits) q dentry) (sym key_is) is) walks) hosts.current.2 hosts.current.3 fit
    found_now found.Nothing posted fit =
        let key_is = (opened.1.later e p key found.Nothing posted).0 in
        let was = good_at.asking.founds e 255 p number key found.Nothing posted in
        let none = ap (row_at (tree_at w.commits p)) (sym key_is) ∙ none_found (row_at (tree_at w.commits p) key) was.1 in
        refuses found.Nothing Enoent posted was.0 (λ cred names on. reached_none (tree_at w.commits p) cred names wanted on none) fit
    found_now found.File posted fit =
        let key_is = (opened.1.later e p key found.File posted).0 in
        let was = good_at.asking.founds e 255 p number key found.File posted in
        let file = file_found (row_at (tree_at w.commits p) key) was.1 in
        let there = ap (row_at (tree_at w.commits p)) (sym key_is) ∙ file.1.0 in
        refuses found.File Enotdir posted was.0 (λ cred names on. reached_file (tree_at w.commits p) cred names wanted file.0 on there file.1.1) fit

  found_by : (what : Found) → IsPosted (posts_of w.envelopes) e (Node 255) p (message.FetchGot number key what) → (s : Stage) → w.coord.stage ≡ s
      → AllFit (take_found w.coord p number key what s).sent → EndsCoord config w (take_found w.coord p number key what s)
  found_by what posted (stage.Walk c awaited wanted) at fit =
      elim (number == awaited) as (λ b. (number == awaited) ≡ b → AllFit (cond b (found_at w.coord p c key what) (begun w.coord)).sent → EndsCoord config w (cond b (found_at w.coord p c key what) (begun w.coord))) [
        | true ↦ λ same fit. found_now c wanted (at ∙ ap (λ n. stage.Walk c n wanted) (sym (eqb-true number awaited same))) what posted fit
        | false ↦ λ _ _. stays config w h shown
      ] refl fit
  found_by what posted other at fit = stays config w h shown

-- only what was found for the fetch that the walk waits for changes anything
pub found_heard : (config : Config) (w : World) (h : Ghost) (e p number : ℕ) (key : Key) (what : Found) → IsCluster config → Shows config w h → IsPosted (posts_of w.envelopes) e (Node 255) p (message.FetchGot number key what)
    → AllFit (take_found w.coord p number key what w.coord.stage).sent → EndsCoord config w (take_found w.coord p number key what w.coord.stage)
found_heard config w h e p number key what cluster shown posted fit = found_by config w h e p number key cluster shown what posted w.coord.stage refl fit
