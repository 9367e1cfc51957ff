-- A call comes to the coordinator.
use Rattle.std.proofs.Common.{◌≡◌, ◌≢◌, ◌⊎◌, inl, inr, ⊎_elim, ℕ, true, false, ◌&&◌, cond, [], ◌∷◌, None, refl, sym, ap, subst, ◌∙◌}
use Rattle.std.specs.Prelude.{IsTrue}
use Rattle.fal_base.specs.declared.call.CallRec.{CallRec}
use Rattle.fal_base.specs.declared.call.Config.{Config}
use Rattle.fal_base.specs.declared.event.Actor.TheVariants.{Node}
use Rattle.fal_base.specs.Marks.{is_newer, last_mark, mark_of, with_mark}
use Rattle.fal_batch.proofs.Truth.{both_first, both_second}
use Rattle.fal_coord.specs.Hear.{take_call, taken}
use Rattle.fal_coord.specs.State.{begun}
use Rattle.fal_coord.specs.Walks.{is_operation}
use Rattle.fal_run.specs.declared.call.BatchCall.{BatchCall}
use Rattle.fal_wire.specs.declared.message.Message.TheVariants as message
use Rattle.fal_story.proofs.Coordinator.AtStage.{seen, stays}
use Rattle.fal_story.proofs.Coordinator.CoordMoves.{IsThere, moved_heard, moved_held, moved_holds}
use Rattle.fal_story.proofs.Events.Besides.{StaysThere, hosts_kept}
use Rattle.fal_story.proofs.Events.GotEvent.{AllFit}
use Rattle.fal_story.proofs.Events.InCoord.{EndsCoord, coord_ends, view_started}
use Rattle.fal_story.proofs.Events.Shows.{Ghost, Shows, WaitsThere, calls_in, posts_of, view_of, before_in}
use Rattle.fal_story.proofs.Good.{Good}
use Rattle.fal_story.proofs.Lists.Each.{Each, each_join, each_weaker}
use Rattle.fal_story.proofs.Lists.Grown.{put_all, put_put, put_same}
use Rattle.fal_story.proofs.Lists.Members.{apart_push}
use Rattle.fal_story.proofs.Phase.{Idle, Asked, Waits, Plans, Runs, IsHeld}
use Rattle.fal_story.proofs.Steps.Called.{taken_good}
use Rattle.fal_story.proofs.View.{IsPosted}
use Rattle.fal_story.specs.Clusters.{IsCluster}
use Rattle.fal_story.specs.World.{World, put}

-- a record that is newer is that of the call under way
asked_there : (config : Config) (w : World) (h : Ghost) (e p : ℕ) (c : CallRec) → Shows config w h → IsPosted (posts_of w.envelopes) e (Node 255) p (message.Call c)
    → is_newer (mark_of c.id) (last_mark w.coord.last c.id.client) ≡ true → (c ≡ h.call c.id.client) × (h.phase c.id.client ≡ Asked 255)
asked_there config w h e p c shown posted newer = ⊎_elim (λ live. live) (λ old. absurd (cc)) (shown.good.records.requests e 255 p c posted)

takes : (config : Config) (w : World) (h : Ghost) (e p : ℕ) (c : CallRec) → Shows config w h → IsPosted (posts_of w.envelopes) e (Node 255) p (message.Call c) → AllFit []
    → IsTrue (is_operation c.op) → is_newer (mark_of c.id) (last_mark w.coord.last c.id.client) ≡ true → EndsCoord config w (begun (taken w.coord c))
unfolding taken
takes config w h e p c shown posted fit operation newer =
    let l = c.id.client in
    let v = view_of config w h in
    let asked = asked_there config w h e p c shown posted newer in
    let later : Ghost = record h { phase = put h.phase l (Waits 255 None) } in
    let coord = taken w.coord c in
    let good = taken_good config v e 255 p c posted newer shown.good in
    let same : record v { taken = put v.taken 255 (with_mark w.coord.last l (mark_of c.id)); phase = later.phase } ≡ seen config w coord later = λ i. record (seen config w coord later) {
      taken = put_put (λ m. (w.nodes m).waiting.last) 255 w.coord.last (with_mark w.coord.last l (mark_of c.id)) i;
    } in
    let at_seat : IsThere (h.phase l) = subst IsThere (sym asked.1) refl in
    let busy : Waits 255 None ≢ Idle = λ z. cc in
    let unplanned : (n : ℕ) (x : BatchCall) → Waits 255 None ≢ Plans n x = λ n x z. cc in
    let stay : (a : ℕ) → StaysThere h.call h.call h.phase later.phase a = put_all (λ a q. ((q ≡ h.phase a) × (h.call a ≡ h.call a)) ⊎ ((IsHeld 255 (h.phase a) → ⊥) × (h.phase a ≢ Runs))) h.phase l (Waits 255 None)
    (inr ((λ held. subst (IsHeld 255) asked.1 held), (λ runs. let both = sym asked.1 ∙ runs in absurd (cc)))) (λ a _. inl (refl, refl)) in
    let hosts = hosts_kept h.call h.call h.phase later.phase stay config (before_in config h) w.coord shown.good.operation.running shown.beside.hosts in
    let others : Each (λ (k : CallRec). k.id.client ≢ l) w.coord.waiting = each_weaker (WaitsThere h.call h.phase) (λ (k : CallRec). k.id.client ≢ l) w.coord.waiting
    (λ k waits same. let both = sym asked.1 ∙ ap h.phase (sym same) ∙ waits.0 in absurd (cc)) shown.beside.hosts.waiters in (
      later,
      coord_ends config w h (begun coord) later fit shown (record {
        good = subst (Good config) (same ∙ view_started config (record w { coord = coord }) later) good;
        held = λ n. moved_held h.call h.phase l (Waits 255 None) at_seat busy unplanned n (w.nodes n).waiting.calls (calls_in (w.nodes n).batches) (shown.held n);
        heard = moved_heard h.call h.phase l (Waits 255 None) at_seat busy unplanned tt config w shown.heard;
        beside = record {
          queues = shown.beside.queues;
          holding = λ n. moved_holds h.call h.phase l (Waits 255 None) at_seat busy unplanned h.crossed h.crossed (λ a _. refl) n (w.nodes n) (shown.beside.holding n);
          hosts = record {
            waiters = each_join (WaitsThere h.call later.phase) w.coord.waiting (c ∷ []) hosts.waiters ((put_same h.phase l (Waits 255 None), asked.0, operation), tt);
            apart = apart_push (λ (k : CallRec). k.id.client) w.coord.waiting c others hosts.apart;
            current = hosts.current;
            numbered = hosts.numbered;
          };
        };
      }),
    )

-- an old one changes nothing, nor does one of another kind
pub call_heard : (config : Config) (w : World) (h : Ghost) (e p : ℕ) (c : CallRec) → IsCluster config → Shows config w h → IsPosted (posts_of w.envelopes) e (Node 255) p (message.Call c)
    → AllFit (begun (take_call w.coord c)).sent → EndsCoord config w (begun (take_call w.coord c))
call_heard config w h e p c cluster shown posted fit =
    let new = is_operation c.op && is_newer (mark_of c.id) (last_mark w.coord.last c.id.client) in
    elim new as (λ b. new ≡ b → EndsCoord config w (begun (cond b (taken w.coord c) w.coord))) [
      | true ↦ λ is. takes config w h e p c shown posted fit (both_first (is_operation c.op) _ is) (both_second (is_operation c.op) _ is)
      | false ↦ λ _. stays config w h shown
    ] refl
