-- Each call under way is found after a node gathers: a free call joins the batch, or waits on.
use Rattle.std.proofs.Common.{◌≡◌, ◌≢◌, ◌⊎◌, inl, inr, ⊎_elim, ℕ, ◌+◌, ◌<◌, Bool, true, false, List, [], ◌∷◌, ◌++◌, length, sym, ap, subst, ◌∙◌, arith, Option, Some, None, is_some, IsTrue, refl}
use Rattle.std.specs.List.{All}
use Rattle.fal_base.specs.declared.call.CallRec.{CallRec}
use Rattle.fal_base.specs.declared.call.Config.{Config}
use Rattle.fal_base.specs.declared.key.Key.{Key}
use Rattle.fal_node.specs.declared.batch.Batch.{Batch}
use Rattle.fal_run.specs.declared.call.BatchCall.{BatchCall}
use Rattle.fal_wire.specs.declared.letter.Letter.{Letter}
use Rattle.fal_node.specs.Deliver.{without_calls}
use Rattle.fal_node.specs.Gather.{setting_at, plan_at, with_fetches, leaving, batch_calls, with_waiting, batched, with_batch, gathered, away_letter, stale_letter}
use Rattle.fal_node.specs.State.{NodeState}
use Rattle.fal_wait.specs.declared.waiting_call.WaitingCall.{WaitingCall}
use Rattle.fal_base.specs.Marks.{mark_of, last_mark, is_newer, Marks}
use Rattle.fal_wait.specs.Waiting.{WaitList}
use Rattle.fal_wire.specs.Messages.{Fits}
use Rattle.fal_story.proofs.Drain.Follow.{marks_in, IsFollowed, IsNumbered, under_node, waiting_now, planned_now, asked_now, IsNewest, IsUpTo, Asked, Stale, passed_on}
use Rattle.fal_story.proofs.Drain.FollowNode.{IsUnderAfter, marks_at, IsFoundAfter, found_follows}
use Rattle.fal_story.proofs.Drain.MovingGather.{batch_waiting, goes_below}
use Rattle.fal_story.proofs.Drain.MovingServe.{After}
use Rattle.fal_story.proofs.Events.InStep.{letter_posts}
use Rattle.fal_story.proofs.Events.Shows.{Ghost, Shows, IsTidy, calls_in, pending_calls, posts_of}
use Rattle.fal_story.proofs.Lists.Each.{each_weaker, each_join}
use Rattle.fal_story.proofs.Lists.GatherLists.{IsMet, leavers, gathered_node, IsLeft, Leaver}
use Rattle.fal_story.proofs.Lists.OpenedFetches.{bound_call, pending_of}
use Rattle.fal_story.proofs.Lists.Joined.{in_back}
use Rattle.fal_story.proofs.Lists.Members.{IsIn, each_in, in_front, in_join, apart_push, in_map}
use Rattle.fal_story.specs.World.{World, put}
use Rattle.fal_story.proofs.Drain.FollowExec.{newer_up, up_later}
use Rattle.fal_story.proofs.Drain.Moving.{IsMoving}
use Rattle.fal_story.proofs.Drain.Sent.{letter_fresh}
use Rattle.fal_story.proofs.Gathers.Leaving.{leaves_now}
use Rattle.fal_story.proofs.Gathers.GatherPhases.{waits_at}
use Rattle.fal_story.proofs.Lists.GatherLetters.{AreLetters, Parts, Errand, letter_of, parts_in, errands_of, gathered_letters}
use Rattle.fal_story.proofs.Lists.Grown.{put_all}
use Rattle.fal_base.specs.declared.call.CallId.{CallId}
use Rattle.fal_base.specs.declared.mark.Mark.{Mark}
use Rattle.fal_run.specs.Letters.{pass_letter, passed_on as raised}
use Rattle.fal_base.specs.declared.event.Actor.TheVariants.{Node}
use Rattle.fal_base.specs.declared.event.Point.TheVariants.{Here}
use Rattle.fal_place.specs.Placement.{changes_since}
use Rattle.fal_exec.specs.RowCall.{row_names}
use Rattle.fal_node.specs.Letters.{Work}
use Rattle.fal_wait.specs.declared.pending_fetch.PendingFetch.{PendingFetch}

-- ---- the calls of the batch

calls_push : (bs : List Batch) (b : Batch) (y : BatchCall) → IsIn y (calls_in bs) ⊎ IsIn y (pending_calls b) → IsIn y (calls_in (bs ++ b ∷ []))
calls_push [] b y at = ⊎_elim (λ z. absurd z) (λ z. in_front (pending_calls b) [] y z) at
calls_push (c ∷ bs) b y at =
    ⊎_elim
    (λ z. ⊎_elim (λ here. in_front (pending_calls c) (calls_in (bs ++ b ∷ [])) y here) (λ there. in_back (pending_calls c) (calls_in (bs ++ b ∷ [])) y (calls_push bs b y (inl there))) (in_join (pending_calls c) (calls_in bs) y z))
    (λ z. in_back (pending_calls c) (calls_in (bs ++ b ∷ [])) y (calls_push bs b y (inr z)))
    at

-- the calls of the earlier batches and of the new one
batched_calls : (node : NodeState) (calls : List BatchCall) (keys : List Key) (y : BatchCall) → IsIn y (calls_in node.batches) ⊎ IsIn y calls → IsIn y (calls_in (with_batch node calls keys).batches)
unfolding batched
batched_calls node [] keys y at = ⊎_elim (λ z. z) (λ z. absurd z) at
batched_calls node (c ∷ cs) keys y at = calls_push node.batches (record { number = node.batches_numbered; calls = c ∷ cs; executed = false }) y at

batched_numbered : (node : NodeState) (calls : List BatchCall) (keys : List Key) → IsNumbered node → IsNumbered (with_batch node calls keys)
unfolding batched
batched_numbered node [] keys h = h
batched_numbered node (c ∷ cs) keys h =
    let b : Batch = record { number = node.batches_numbered; calls = c ∷ cs; executed = false } in
    record {
      apart = apart_push (λ (x : Batch). x.number) node.batches b (each_weaker _ _ node.batches (λ x low e. absurd (omega arith)) h.below) h.apart;
      below = each_join (λ (x : Batch). x.number < node.batches_numbered + 1) node.batches (b ∷ []) (each_weaker _ _ node.batches (λ x low. omega arith) h.below) (omega arith, tt);
    }

-- ---- the plan

-- a call waits on, or joins the batch, or leaves by a record
found_after : (node : NodeState) (x : WaitingCall) → IsTidy node.waiting → IsIn x node.waiting.calls
    → ((y : WaitingCall) × (IsIn y (without_calls (with_fetches node.waiting (plan_at node).fetches) (leaving (plan_at node))).calls × (y.call ≡ x.call)))
    ⊎ (((y : BatchCall) × (IsIn y (batch_calls node.waiting (plan_at node).calls) × (y.call ≡ x.call)))
    ⊎ ((y : Leaver) × (IsIn y (leavers node.waiting (plan_at node).away) × (y.call ≡ x.call))))
found_after node x tidy at =
    let s = setting_at node in
    let list = node.waiting in
    let plan = plan_at node in
    let opened = pending_of list.opened plan.fetches in
    ⊎_elim
    (λ waits. inl (waits.0, (waits.1.0, bound_call s opened x waits.0 waits.1.1)))
    (λ away. ⊎_elim (λ joins. inr (inl joins)) (λ leaves. inr (inr (leaves.0, (leaves.1.0, leaves.1.2)))) away)
    (each_in (IsMet s opened (without_calls (with_fetches list plan.fetches) (leaving plan)).calls (batch_calls list plan.calls) (leavers list plan.away)) list.calls x (gathered_node node tidy).all at)

away_sent : (node : NodeState) (opened : List PendingFetch) (left : List Leaver) (errands : List Errand) (sent : List Letter) → AreLetters node opened left errands sent → (y : Leaver) → IsIn y left → IsIn (away_letter node y.call y.to) sent
away_sent node opened left errands sent l y at =
    subst (IsIn (away_letter node y.call y.to)) (sym l.letters_are) (in_map (λ e. letter_of node e) errands (Parts y) (parts_in errands y (subst (IsIn y) (sym l.parted) at)))

-- ---- a call that leaves

module _ (config : Config) (w : World) (came : ℕ → Bool) (n : ℕ) (k : Work) (m : IsMoving config w came) (last : k.node.waiting.last ≡ marks_in w n) where
  abbrev taken : ℕ → Marks
  taken = put (marks_in w) n k.node.waiting.last

  -- the marks are what they were
  upto : (id : CallId) → IsNewest (marks_in w) id → IsNewest taken id
  upto id newest =
      put_all (λ i ms. (mark : Mark) → last_mark ms id.client ≡ Some mark → IsUpTo mark id) (marks_in w) n k.node.waiting.last
      (λ mark is. newest n mark (subst (λ ms. last_mark ms id.client ≡ Some mark) last is)) (λ i _. newest i)

  found_here : (id : CallId) → IsNewest (marks_in w) id → IsUnderAfter w came n k id → IsFoundAfter w came n k id
  found_here id newest u = record { hop = id.hop; under = u; newest = upto id newest }

  -- it is on its way to the other node with its hop raised, or its client is told
  left_under : (id : CallId) (call : CallRec) (to : Option ℕ) → IsIn (away_letter (w.nodes n) call to) k.sent → call.id ≡ id → IsTrue (is_some (row_names call.op)) → ((i : ℕ) → to ≡ Some i → i < config.nodes) → IsNewest (marks_in w) id
      → IsFoundAfter w came n k id
  left_under id call None at same row below newest =
      let fresh = letter_fresh w.envelopes came (length w.commits) k.sent (stale_letter (w.nodes n) call) m.past at in
      let under : IsUnderAfter w came n k call.id = Stale fresh.0 fresh.1.0 call.version (w.nodes n).table.version (changes_since call.version (w.nodes n).table) fresh.1.1.0 fresh.1.1.1 in
      found_here id newest (subst (λ i. IsUnderAfter w came n k i) same under)
  left_under id call (Some to) at same row below newest =
      let fresh = letter_fresh w.envelopes came (length w.commits) k.sent (pass_letter call (Here 0) (Node to)) m.past at in
      let few = m.few in
      let there = below to refl in
      let up = upto id newest in
      record {
        hop = id.hop + 1;
        under = Asked fresh.0 fresh.1.0 to (raised call) fresh.1.1.0 fresh.1.1.1 (ap (λ (j : CallId). passed_on j (j.hop + 1)) same) (newer_up id (last_mark (taken to) id.client) (λ mark is. up to mark is))
            ((λ seat. absurd (omega arith)), (λ _. row));
        newest = λ i mark is. up_later mark id (up i mark is);
      }

-- ---- the step

pub gather_follows : (config : Config) (w : World) (came : ℕ → Bool) (n : ℕ) (h : Ghost) → n < config.nodes → n ≢ 255 → Shows config w h → IsMoving config w came → IsFollowed w came
    → All (λ (l : Letter). Fits l.message) (gathered (w.nodes n) (plan_at (w.nodes n))).sent → IsFollowed (After config w n (gathered (w.nodes n) (plan_at (w.nodes n)))) came
unfolding gathered with_waiting
gather_follows config w came n h there other s m f fit =
    let node = w.nodes n in
    let plan = plan_at node in
    let k = gathered node plan in
    let tidy = (s.placed n).tidy in
    let list = gathered_node node tidy in
    let inner = with_waiting node plan.fetches (leaving plan) in
    let calls = batch_calls node.waiting plan.calls in
    let opened = pending_of node.waiting.opened plan.fetches in
    let errands = errands_of node.waiting node.waiting.opened plan.sends in
    let waiting : k.node.waiting ≡ without_calls (with_fetches node.waiting plan.fetches) (leaving plan) = batch_waiting inner calls plan.keys in
    let marks_same = ap (λ (l : WaitList). l.last) waiting ∙ list.last in
    let last : k.node.waiting.last ≡ marks_in w n = marks_same ∙ sym (marks_at w n other) in
    let more = letter_posts (length w.commits) k.sent in
    let posts = posts_of w.envelopes in
    let taken = put (marks_in w) n k.node.waiting.last in
    let here = λ (id : CallId) (newest : IsNewest (marks_in w) id) (u : IsUnderAfter w came n k id). found_here config w came n k m last id newest u in
    let leaves = λ (id : CallId) (newest : IsNewest (marks_in w) id) (y : WaitingCall) (same : y.call.id ≡ id) (z : Leaver) (away : IsIn z (leavers node.waiting plan.away)) (is : z.call ≡ y.call).
    let gone = each_in (IsLeft (setting_at node) node.waiting) (leavers node.waiting plan.away) z list.gone away in
    let at = waits_at config w n h there other s gone.0 gone.1.0 in
    left_under config w came n k m last id z.call z.to (away_sent node opened (leavers node.waiting plan.away) errands k.sent (gathered_letters node tidy) z away) (ap (λ (c : CallRec). c.id) is ∙ same)
    (subst (λ (c : CallRec). IsTrue (is_some (row_names c.op))) (sym gone.1.3) at.3)
    (λ i to. goes_below config w n h there other s gone.0 z.to i (leaves_now config w n h there other s gone.0 at z.to gone.1.4) to) newest in
    found_follows config w came came n k other fit f
    (λ id now under newest.
    under_node posts more came came (marks_in w) w.nodes w.coord n k.node id (IsFoundAfter w came n k id) (marks_at w n other) (here id newest) (λ i y there ne fresh. fresh)
    (λ i p call there fresh same newer suited.
    here id newest (asked_now posts more came (marks_in w) (put w.nodes n k.node) w.coord n i p k.node.waiting.last id call there fresh same (subst (λ ms. is_newer (mark_of id) (last_mark ms id.client) ≡ true) (sym marks_same) newer) suited))
    (λ y there same.
    ⊎_elim
    (λ z. here id newest (waiting_now (posts ++ more) came taken w.nodes w.coord n k.node id z.0 (subst (λ (g : WaitList). IsIn z.0 g.calls) (sym waiting) z.1.0) (ap (λ (c : CallRec). c.id) z.1.1 ∙ same)))
    (λ z. ⊎_elim
    (λ x. here id newest (planned_now (posts ++ more) came taken w.nodes w.coord n k.node id x.0 (batched_calls inner calls plan.keys x.0 (inr x.1.0)) (ap (λ (c : CallRec). c.id) x.1.1 ∙ same)))
    (λ x. leaves id newest y same x.0 x.1.0 x.1.1)
    z)
    (found_after node y tidy there))
    (λ y there same. here id newest (planned_now (posts ++ more) came taken w.nodes w.coord n k.node id y (batched_calls inner calls plan.keys y (inl there)) same))
    under)
    (λ l mark is. f.marks n l mark (subst (λ ms. last_mark ms l ≡ Some mark) last is))
    (batched_numbered inner calls plan.keys (record { apart = (f.batches n).apart; below = (f.batches n).below }))
