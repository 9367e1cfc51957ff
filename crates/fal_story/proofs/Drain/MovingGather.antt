-- A cluster goes on when a node gathers: with each fetch that it opens a question goes out.
use Rattle.std.proofs.Common.{◌≡◌, ⊎_elim, ℕ, ◌<◌, Bool, false, List, [], ◌∷◌, ◌++◌, length, refl, sym, ap, subst, ◌∙◌, Option, Some, None, IsTrue, ◌≢◌}
use Rattle.std.specs.List.{All}
use Rattle.std.proofs.lemmas.Option.{same_Some}
use Rattle.fal_base.specs.declared.call.Config.{Config}
use Rattle.fal_base.specs.declared.key.Key.{Key}
use Rattle.fal_locks.specs.declared.holder.Holder.{Holder}
use Rattle.fal_node.specs.declared.batch.Batch.{Batch}
use Rattle.fal_run.specs.declared.call.BatchCall.{BatchCall}
use Rattle.fal_wire.specs.declared.letter.Letter.{Letter}
use Rattle.fal_node.specs.Deliver.{without_calls}
use Rattle.fal_node.specs.Gather.{setting_at, plan_at, ask_letter, with_fetches, leaving, batch_calls, with_waiting, batched, with_batch, gathered, away_letter}
use Rattle.fal_node.specs.Letters.{Work}
use Rattle.fal_node.specs.State.{NodeState}
use Rattle.fal_place.specs.Placement.{owner}
use Rattle.fal_wait.specs.declared.pending_fetch.PendingFetch.{PendingFetch}
use Rattle.fal_wait.specs.declared.waiting_call.WaitingCall.{WaitingCall}
use Rattle.fal_wait.specs.Waiting.{WaitList}
use Rattle.fal_wire.specs.Messages.{Fits}
use Rattle.fal_story.proofs.Drain.Actors.{IsActor, lane_there}
use Rattle.fal_story.proofs.Drain.Moving.{IsMoving, AreServable, AreOfBatches, items_in, posts_after, items_after, node_moves}
use Rattle.fal_story.proofs.Drain.Hearing.{After, still_hearing}
use Rattle.fal_story.proofs.Drain.MovingDeliver.{no_seat}
use Rattle.fal_story.proofs.Drain.OnWay.{IsOnWay, Asks as AsksOnWay, AreOnWay, items_stay, way_more}
use Rattle.fal_story.proofs.Drain.Sent.{letter_fresh}
use Rattle.fal_story.proofs.Gathers.Going.{waits_busy}
use Rattle.fal_story.proofs.Events.InStep.{letter_posts}
use Rattle.fal_story.proofs.Events.Shows.{Ghost, Shows, posts_of, lane_of, view_of}
use Rattle.fal_story.proofs.Lists.Each.{Each, each_weaker, each_join}
use Rattle.fal_story.proofs.Lists.GatherLetters.{AreLetters, Asks, Parts, Errand, letter_of, each_errand, asks_in, errands_of, gathered_letters}
use Rattle.fal_story.proofs.Lists.GatherLists.{IsKept, gathered_node, IsGathered, IsLeft, Leaver, leavers}
use Rattle.fal_story.proofs.Lists.Joined.{in_last}
use Rattle.fal_story.proofs.Lists.Members.{IsIn, each_map, each_all, each_in, in_front, in_map}
use Rattle.fal_story.proofs.Lists.OpenedFetches.{pending_of}
use Rattle.fal_story.specs.Clusters.{IsCluster, is_lane}
use Rattle.fal_story.specs.World.{World}
use Rattle.fal_base.specs.declared.call.CallRec.{CallRec}
use Rattle.fal_story.proofs.Gathers.Leaving.{MayLeave, leaves_now}
use Rattle.fal_story.proofs.Gathers.GatherPhases.{waits_at}
use Rattle.fal_story.proofs.Events.Rules.{own_lives}
use Rattle.fal_story.proofs.View.{Asking}

pub batch_waiting : (node : NodeState) (calls : List BatchCall) (keys : List Key) → (with_batch node calls keys).waiting ≡ node.waiting
unfolding batched
batch_waiting node [] keys = refl
batch_waiting node (call ∷ calls) keys = refl

pub batch_items : (node : NodeState) (calls : List BatchCall) (keys : List Key) → (with_batch node calls keys).items ≡ node.items
unfolding batched
batch_items node [] keys = refl
batch_items node (call ∷ calls) keys = refl

-- the new batch holds its keys
batch_holders : (node : NodeState) (calls : List BatchCall) (keys : List Key) → AreOfBatches node → AreOfBatches (with_batch node calls keys)
unfolding batched
batch_holders node [] keys h = h
batch_holders node (call ∷ calls) keys h =
    let new : Batch = record { number = node.batches_numbered; calls = call ∷ calls; executed = false } in
    each_join (λ (h : Holder). (b : Batch) × (IsIn b (node.batches ++ new ∷ []) × (b.number ≡ h.number))) node.locks.holders _
    (each_weaker _ _ node.locks.holders (λ x b. (b.0, (in_front node.batches (new ∷ []) b.0 b.1.0, b.1.1))) h)
    ((new, (in_last node.batches new, refl)), tt)

batch_shut : (node : NodeState) (calls : List BatchCall) (keys : List Key) → (with_batch node calls keys).locks.shut ≡ node.locks.shut
unfolding batched
batch_shut node [] keys = refl
batch_shut node (call ∷ calls) keys = refl

batch_last : (node : NodeState) (calls : List BatchCall) (keys : List Key) → (with_batch node calls keys).last_operation ≡ node.last_operation
unfolding batched
batch_last node [] keys = refl
batch_last node (call ∷ calls) keys = refl

batch_blocked : (node : NodeState) (calls : List BatchCall) (keys : List Key) → (with_batch node calls keys).blocked ≡ node.blocked
unfolding batched
batch_blocked node [] keys = refl
batch_blocked node (call ∷ calls) keys = refl

-- ---- the records

-- a call that leaves goes to a node that is there, or its client is told
away_goes : (config : Config) (x : NodeState) (call : CallRec) (to : Option ℕ) → IsTrue (is_lane config call.id.client) → ((m : ℕ) → to ≡ Some m → m < config.nodes) → IsActor config (away_letter x call to).to
away_goes config x call None lane there = lane
away_goes config x call (Some m) lane there = there m refl

module _ (config : Config) (w : World) (n : ℕ) (h : Ghost) (there : n < config.nodes) (other : n ≢ 255) (s : Shows config w h) where
  pub goes_below : (c : WaitingCall) (to : Option ℕ) (m : ℕ) → MayLeave config w n h there other s c.call to → to ≡ Some m → m < config.nodes
  goes_below c None m may is = absurd (cc)
  goes_below c (Some k) m may is = subst (λ j. j < config.nodes) (same_Some k m is) may.below

  -- each goes to an actor that is there
  gathered_go : (opened : List PendingFetch) (after : WaitList) (batch : List BatchCall) (left : List Leaver) (errands : List Errand) (sent : List Letter) → IsGathered (setting_at (w.nodes n)) (w.nodes n).waiting after opened batch left
      → AreLetters (w.nodes n) opened left errands sent → Each (λ (l : Letter). IsActor config l.to) sent
  gathered_go opened after batch left errands sent g l =
      let node = w.nodes n in
      let goes = λ (e : Errand). IsActor config (letter_of node e).to in
      let list = node.waiting in
      let asks = each_map (λ f. goes (Asks f)) (λ (f : PendingFetch). record { number = f.number; key = f.key }) opened (each_all _ opened (λ f. own_lives config w h s n there f.key)) in
      let parts = each_weaker (IsLeft (setting_at node) list) (λ y. goes (Parts y)) left (λ y is.
      let at = waits_at config w n h there other s is.0 is.1.0 in
      let lane : IsTrue (is_lane config y.call.id.client) = subst (λ (c : CallRec). IsTrue (is_lane config c.id.client)) (sym is.1.3) (lane_there config (view_of config w h) (lane_of is.0) s.good (waits_busy config w n h other s is.0 at)) in
      away_goes config node y.call y.to lane (λ m to. goes_below is.0 y.to m (leaves_now config w n h there other s is.0 at y.to is.1.4) to)) g.gone in
      subst (Each (λ (l : Letter). IsActor config l.to)) (sym l.letters_are)
      (each_map (λ (l : Letter). IsActor config l.to) (λ e. letter_of node e) errands
      (each_errand goes errands (subst (Each (λ f. goes (Asks f))) (sym l.asked) asks) (subst (Each (λ y. goes (Parts y))) (sym l.parted) parts)))

-- the question for each new fetch is among the records
asked_sent : (node : NodeState) (opened : List PendingFetch) (left : List Leaver) (errands : List Errand) (sent : List Letter) → AreLetters node opened left errands sent → (f : PendingFetch) → IsIn f opened → IsIn (ask_letter node f.number f.key) sent
asked_sent node opened left errands sent l f at =
    let asking : Asking = record { number = f.number; key = f.key } in
    subst (IsIn (ask_letter node f.number f.key)) (sym l.letters_are)
    (in_map (λ e. letter_of node e) errands (Asks asking) (asks_in errands asking (subst (IsIn asking) (sym l.asked) (in_map (λ (x : PendingFetch). record { number = x.number; key = x.key }) opened f at))))

-- ---- the step

gathered_moves : (config : Config) (w : World) (came : ℕ → Bool) (n : ℕ) (k : Work) (after : List WaitingCall) (opened : List PendingFetch) → n < config.nodes
    → (w.nodes n).number ≡ n → IsMoving config w came → All (λ (l : Letter). Fits l.message) k.sent → Each (λ (l : Letter). IsActor config l.to) k.sent → ((f : PendingFetch) → IsIn f opened → IsIn (ask_letter (w.nodes n) f.number f.key) k.sent)
    → k.node.items ≡ (w.nodes n).items → k.node.waiting.calls ≡ after → Each (IsKept (setting_at (w.nodes n)) (w.nodes n).waiting opened) after → AreOfBatches k.node
    → k.node.locks.shut ≡ (w.nodes n).locks.shut → k.node.last_operation ≡ (w.nodes n).last_operation → k.node.blocked ≡ (w.nodes n).blocked → IsMoving config (After config w n k) came
gathered_moves config w came n k after opened there number m fit go sent items calls kept holders shut last blocked =
    let node = w.nodes n in
    let ways = λ (i f : ℕ) (o : IsOnWay (posts_of w.envelopes) came (items_in w) i f).
    way_more (posts_of w.envelopes) (letter_posts (length w.commits) k.sent) came (items_in w) (items_after w n k) i f (items_stay w.nodes n k.node (λ item at. subst (IsIn item) (sym items) at)) o in
    let asked = λ (f : PendingFetch) (at : IsIn f opened).
    let p = letter_fresh w.envelopes came (length w.commits) k.sent (ask_letter node f.number f.key) m.past (sent f at) in
    let way : IsOnWay (posts_after w k) came (items_after w n k) node.number f.number = AsksOnWay p.0 p.1.0 (owner node.table f.key) f.key p.1.1.0 p.1.1.1 in
    subst (λ i. IsOnWay (posts_after w k) came (items_after w n k) i f.number) number way in
    node_moves config w came came n k there fit m m.past go
    (subst (AreOnWay (posts_after w k) came (items_after w n k) n) (sym calls)
    (each_weaker (IsKept (setting_at node) node.waiting opened) _ after (λ y was f is.
    ⊎_elim
    (λ same. ways n f (each_in _ node.waiting.calls was.0 (m.waits n) was.1.0 f (ap (λ (z : WaitingCall). z.fetch) (sym same) ∙ is)))
    (λ new.
    let fetch : new.1.0.number ≡ f = same_Some new.1.0.number f (ap (λ (z : WaitingCall). z.fetch) (sym new.1.1.2) ∙ is) in
    subst (λ j. IsOnWay (posts_after w k) came (items_after w n k) n j) fetch (asked new.1.0 new.1.1.0))
    was.1.1)
    kept))
    (λ i f _ o. ways i f o) (subst AreServable (sym items) (m.servable n)) holders (still_hearing w came n k shut last blocked)

pub gather_moves : (config : Config) (w : World) (came : ℕ → Bool) (n : ℕ) (h : Ghost) → IsCluster config → n < config.nodes → Shows config w h → IsMoving config w came
    → All (λ (l : Letter). Fits l.message) (gathered (w.nodes n) (plan_at (w.nodes n))).sent → IsMoving config (After config w n (gathered (w.nodes n) (plan_at (w.nodes n)))) came
unfolding gathered with_waiting
gather_moves config w came n h cluster there s m fit =
    let node = w.nodes n in
    let plan = plan_at node in
    let tidy = (s.placed n).tidy in
    let opened = pending_of node.waiting.opened plan.fetches in
    let after = without_calls (with_fetches node.waiting plan.fetches) (leaving plan) in
    let batch = batch_calls node.waiting plan.calls in
    let left = leavers node.waiting plan.away in
    let errands = errands_of node.waiting node.waiting.opened plan.sends in
    let list = gathered_node node tidy in
    let letters = gathered_letters node tidy in
    let inner = with_waiting node plan.fetches (leaving plan) in
    gathered_moves config w came n (gathered node plan) after.calls opened there (s.placed n).number m fit
    (gathered_go config w n h there (no_seat config w came n there m) s opened after batch left errands (gathered node plan).sent list letters)
    (asked_sent node opened left errands (gathered node plan).sent letters)
    (batch_items inner batch plan.keys)
    (ap (λ (l : WaitList). l.calls) (batch_waiting inner batch plan.keys))
    list.kept
    (batch_holders inner batch plan.keys (m.holders n))
    (batch_shut inner batch plan.keys)
    (batch_last inner batch plan.keys)
    (batch_blocked inner batch plan.keys)
