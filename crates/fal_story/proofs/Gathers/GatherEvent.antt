-- A node goes through its free waiting calls: what holds is kept.
use Rattle.std.proofs.Common.{◌≡◌, ◌≢◌, inl, inr, ℕ, ◌<◌, ◌≤◌, true, false, cond, List, [], ◌∷◌, ◌++◌, length, map, Some, None, refl, sym, ap, subst, ◌∙◌, append-nil, append_assoc, arith, Option}
use Rattle.std.specs.Prelude.{slice_get}
use Rattle.std.specs.List.{All}
use Rattle.std.proofs.lemmas.List.{map-append}
use Rattle.std.proofs.lemmas.Option.{same_Some}
use Rattle.fal_base.specs.declared.call.Config.{Config}
use Rattle.fal_base.specs.declared.event.Actor.TheVariants.{Node}
use Rattle.fal_base.specs.declared.key.Key.{Key}
use Rattle.fal_batch.specs.declared.parts.Wanted.{Wanted}
use Rattle.fal_batch.specs.Plan.{is_idle}
use Rattle.fal_node.specs.declared.batch.Batch.{Batch}
use Rattle.fal_run.specs.declared.call.BatchCall.{BatchCall}
use Rattle.fal_node.specs.declared.event.NodeEvent.TheVariants.{Gather}
use Rattle.fal_wire.specs.declared.letter.Letter.{Letter}
use Rattle.fal_node.specs.Deliver.{without_calls}
use Rattle.fal_node.specs.Gather.{plan_at, setting_at, gather_letters, with_fetches, leaving, batch_calls, with_waiting, batched, with_batch, gathered}
use Rattle.fal_node.specs.Letters.{Work}
use Rattle.fal_node.specs.State.{NodeState}
use Rattle.fal_node.specs.Step.{node_step}
use Rattle.fal_place.specs.Placement.{owner}
use Rattle.fal_wait.specs.declared.pending_fetch.PendingFetch.{PendingFetch}
use Rattle.fal_wait.specs.Waiting.{WaitList}
use Rattle.fal_wire.specs.Messages.{Fits}
use Rattle.fal_story.proofs.Events.Besides.{beside_stepped}
use Rattle.fal_story.proofs.Events.Doing.{awaited}
use Rattle.fal_story.proofs.Gathers.GatherHolds.{IsGrown}
use Rattle.fal_story.proofs.Gathers.GatherPhases.{crossed, phase, may_move, new_off, reach_new, left_waits, waits_at}
use Rattle.fal_story.proofs.Gathers.Going.{waits_busy}
use Rattle.fal_story.proofs.Events.InStep.{at_seat, view_begun, InStep, Ends, ends, view_in, letter_posts, sent_more}
use Rattle.fal_story.proofs.Events.Shows.{Ghost, Shows, Held, AreSent, IsPlaced, IsTidy, view_of, posts_of, askings_of, pending_calls, calls_in, operating, shut_of, last_of, locks_in, Beside, mapped, tables_of, barred_in, barred_of, HasOneName, WaitsAt, lane_of}
use Rattle.fal_story.proofs.Families.Asking.{IsForKey, GoesTo}
use Rattle.fal_story.proofs.Good.{Good}
use Rattle.fal_story.proofs.Lists.Each.{Each, Apart}
use Rattle.fal_story.proofs.Lists.GatherKeys.{HasKeys, node_keys}
use Rattle.fal_story.proofs.Lists.GatherLetters.{AreLetters, Asks, Errand, Parts, each_errand, errands_of, gathered_letters, letter_of}
use Rattle.fal_story.proofs.Lists.GatherLists.{IsGathered, Leaver, leavers, gathered_node, IsLeft, left_lane}
use Rattle.fal_story.proofs.Lists.Grown.{put_same, put_back}
use Rattle.fal_story.proofs.Lists.Members.{IsIn, in_at, in_map, in_back, each_in, each_by, each_map, apart_map, apart_same}
use Rattle.fal_story.proofs.Lists.OpenedFetches.{pending_of}
use Rattle.fal_story.proofs.Phase.{Phase, Waits}
use Rattle.fal_story.proofs.Steps.Fetching.{raised_good}
use Rattle.fal_story.proofs.Steps.Moved.{moved_good}
use Rattle.fal_story.proofs.Trees.Standing.{tree_now}
use Rattle.fal_story.proofs.View.{View, Asking}
use Rattle.fal_story.specs.Clusters.{IsCluster}
use Rattle.fal_story.specs.World.{World, put}
use Rattle.fal_story.proofs.Gathers.GatherSends.{IsPendable, all_pended, IsParting, MayPart, IsSendable, posts_by, all_sent}
use Rattle.fal_wait.specs.declared.waiting_call.WaitingCall.{WaitingCall}
use Rattle.fal_base.specs.declared.call.CallRec.{CallRec}
use Rattle.fal_story.proofs.Gathers.GatherLeft.{calls, gone, left_same, gone_held, gone_others, gone_heard, gone_stays, gone_planned, gone_holds}
use Rattle.fal_story.proofs.Gathers.Leaving.{MayLeave, leaves_now}
use Rattle.fal_story.proofs.Events.Rules.{own_first, own_lives}
use Rattle.fal_story.proofs.Events.Tables.{own_table, own_version}
use Rattle.fal_story.proofs.Families.Lanes.{OwnsLast, positive}

-- ---- the node when it has gathered

record IsAfter (x y : NodeState) (after : WaitList) (batch : List BatchCall) : Type 0 where
  number : y.number ≡ x.number
  limit : y.limit ≡ x.limit
  table : y.table ≡ x.table
  rows : y.rows ≡ x.rows
  replica : y.replica ≡ x.replica
  blocked : y.blocked ≡ x.blocked
  shut : y.locks.shut ≡ x.locks.shut
  waiting : y.waiting ≡ after
  items : y.items ≡ x.items
  last_operation : y.last_operation ≡ x.last_operation
  drawn : y.drawn ≡ x.drawn
  batches : calls_in y.batches ≡ calls_in x.batches ++ batch

calls_push : (bs : List Batch) (b : Batch) → b.executed ≡ false → calls_in (bs ++ b ∷ []) ≡ calls_in bs ++ b.calls
calls_push [] b is = ap (λ e. cond e [] b.calls ++ []) is ∙ append-nil b.calls
calls_push (c ∷ bs) b is = ap (λ xs. pending_calls c ++ xs) (calls_push bs b is) ∙ sym (append_assoc (pending_calls c) (calls_in bs) b.calls)

-- no batch is new where no call joins
grown_gather : (x : NodeState) (fetches : List Wanted) (tickets : List ℕ) (batch : List BatchCall) (keys : List Key) → IsGrown x (with_batch (with_waiting x fetches tickets) batch keys) batch keys
unfolding with_waiting batched
grown_gather x fetches tickets [] keys = inl (record { none = refl; batches = refl; holders = refl; numbered = refl })
grown_gather x fetches tickets (call ∷ calls) keys = inr (record { batches = refl; holders = refl; numbered = refl })

after_gather : (x : NodeState) (fetches : List Wanted) (tickets : List ℕ) (batch : List BatchCall) (keys : List Key)
    → IsAfter x (with_batch (with_waiting x fetches tickets) batch keys) (without_calls (with_fetches x.waiting fetches) tickets) batch
unfolding with_waiting batched
after_gather x fetches tickets [] keys = record {
  number = refl;
  limit = refl;
  table = refl;
  rows = refl;
  replica = refl;
  blocked = refl;
  shut = refl;
  waiting = refl;
  items = refl;
  last_operation = refl;
  drawn = refl;
  batches = sym (append-nil (calls_in x.batches));
}
after_gather x fetches tickets (call ∷ calls) keys = record {
  number = refl;
  limit = refl;
  table = refl;
  rows = refl;
  replica = refl;
  blocked = refl;
  shut = refl;
  waiting = refl;
  items = refl;
  last_operation = refl;
  drawn = refl;
  batches = calls_push x.batches (record { number = x.batches_numbered; calls = call ∷ calls; executed = false }) refl;
}

-- ---- what is shown then

kept_at : {A : Type 0} (f : ℕ → A) (n : ℕ) (x : A) → x ≡ f n → ◌≡◌ {A = ℕ → A} f (put f n x)
kept_at f n x is = sym (ap (put f n) is ∙ put_back f n)

module _ (config : Config) (w : World) (n : ℕ) (h : Ghost) (there : n < config.nodes) (other : n ≢ 255) (s : Shows config w h) (y : NodeState) (after : WaitList) (opened : List PendingFetch) (batch : List BatchCall)
    (left : List Leaver) (g : IsGathered (setting_at (w.nodes n)) (w.nodes n).waiting after opened batch left) (a : IsAfter (w.nodes n) y after batch)
    (errands : List Errand) (sent : List Letter) (l : AreLetters (w.nodes n) opened left errands sent) (keys : List Key) (grown : IsGrown (w.nodes n) y batch keys) (covered : Each (HasKeys (setting_at (w.nodes n)) keys) batch) where
  abbrev later : ℕ → Phase
  later = phase config w n h there other s after opened batch left g

  abbrev rests : ℕ → List Key
  rests = crossed config w n h there other s

  abbrev v : View
  v = view_of config w h

  abbrev moved : View
  moved = record v { opened = put v.opened n after.opened; phase = later; op = record v.op { crossed = rests } }

  opened_at : v.opened n ≡ (w.nodes n).waiting.opened
  opened_at = at_seat (λ m. (w.nodes m).waiting.opened) w.coord.asked n other

  fetches_at : v.fetches n ≡ askings_of (w.nodes n).waiting.fetches
  fetches_at = at_seat (λ m. askings_of (w.nodes m).waiting.fetches) (awaited w.coord.stage) n other

  moved_is : Good config moved
  moved_is = moved_good config (record v { opened = put v.opened n after.opened }) later rests (may_move config w n h there other s after opened batch left g) (raised_good config v n after.opened (subst (λ count. count ≤ after.opened) (sym opened_at) g.below) s.good)

  new_at : (f : PendingFetch) → IsIn f opened → ((w.nodes n).waiting.opened ≤ f.number) × (f.number < after.opened)
  new_at f m = each_in (λ (z : PendingFetch). ((w.nodes n).waiting.opened ≤ z.number) × (z.number < after.opened)) opened f g.new m

  below_count : (f : PendingFetch) → IsIn f opened → f.number < put v.opened n after.opened n
  below_count f m = subst (λ count. f.number < count) (sym (put_same v.opened n after.opened)) (new_at f m).1

  pendable : Each (IsPendable moved n) (askings_of opened)
  pendable =
      each_map (IsPendable moved n) (λ (f : PendingFetch). record { number = f.number; key = f.key }) opened
      (each_by _ opened (λ f m. (
        below_count f m,
        λ e p key what sent. let below = subst (λ count. f.number < count) opened_at (s.good.asking.numbers.got e n p f.number key what sent) in let new = (new_at f m).0 in absurd (omega arith),
        λ e p to key sent. let below = subst (λ count. f.number < count) opened_at (s.good.asking.numbers.ask e p to n f.number key sent).1 in let new = (new_at f m).0 in absurd (omega arith),
        λ l waits. reach_new config w n h there other s after opened batch left g l f m waits,
        new_off config w n h there other s after opened batch left g f m,
      )))

  abbrev pended : View
  pended = record moved { fetches = put v.fetches n (v.fetches n ++ askings_of opened) }

  pended_is : Good config pended
  pended_is = all_pended config moved n (askings_of opened) there other pendable moved_is

  fetches_are : v.fetches n ++ askings_of opened ≡ askings_of after.fetches
  fetches_are = ap (λ fs. fs ++ askings_of opened) fetches_at ∙ sym (ap askings_of g.fetches ∙ map-append (λ (f : PendingFetch). record { number = f.number; key = f.key }) (w.nodes n).waiting.fetches opened)

  for_key : (f : PendingFetch) → IsIn f opened → IsForKey pended.fetches n f.number f.key
  for_key f m j b at same =
      let found : slice_get (askings_of after.fetches) j ≡ Some b = ap (λ fs. slice_get fs j) (sym (put_same v.fetches n (v.fetches n ++ askings_of opened) ∙ fetches_are)) ∙ at in
      let here : IsIn f after.fetches = subst (IsIn f) (sym g.fetches) (in_back (w.nodes n).waiting.fetches opened f m) in
      let one : record { number = f.number; key = f.key } ≡ b =
      apart_same (λ (z : Asking). z.number) (askings_of after.fetches) (record { number = f.number; key = f.key }) b
      (apart_map (λ (z : Asking). z.number) (λ (z : PendingFetch). record { number = z.number; key = z.key }) after.fetches g.tidy.apart)
      (in_map (λ (z : PendingFetch). record { number = z.number; key = z.key }) after.fetches f here) (in_at (askings_of after.fetches) j b found) (sym same) in
      ap (λ (z : Asking). z.key) one

  -- the question goes to a node that is there
  goes_there : (f : PendingFetch) → GoesTo config.nodes w.coord.table (Node (owner (w.nodes n).table f.key)) f.key
  goes_there f = (owner (w.nodes n).table f.key, refl, own_lives config w h s n there f.key, λ none. ap (λ t. owner t f.key) (own_first config w h s none n there))

  number : n ≡ (w.nodes n).number
  number = sym (s.placed n).number

  may_part : (c : WaitingCall) → WaitsAt h.call h.phase n c → (to : Option ℕ) → MayLeave config w n h there other s c.call to → MayPart config pended (w.nodes n) c.call to
  may_part c at None older =
      let l = lane_of c in
      let busy = waits_busy config w n h other s c at in (
        ap (λ (k : CallRec). k.version) at.1 ∙ s.good.knowing.version l busy,
        older,
        own_version config w h s n there,
        own_table config w h s n there,
        ap (λ (k : CallRec). k.id.seq) at.1 ∙ s.good.script.calls.number l (positive s.good.lanes l busy),
      )
  may_part c at (Some m) is = (is.below, λ owns. is.not_here (subst (λ k. OwnsLast w.coord.table (tree_now w.commits) k c.call) (sym number) owns), is.owns, is.later)

  -- a call that leaves may do so
  parting : (y : Leaver) → IsIn y left → IsParting config pended (w.nodes n) y.call y.to
  parting y m =
      let is = each_in (IsLeft (setting_at (w.nodes n)) (w.nodes n).waiting) left y g.gone m in
      let at = waits_at config w n h there other s is.0 is.1.0 in (
        left_waits config w n h there other s after opened batch left g y m ∙ ap (λ k. Waits k None) number,
        left_same config w n h there other s after opened batch left g errands l.parted y m,
        subst (λ c. MayPart config pended (w.nodes n) c y.to) (sym is.1.3) (may_part is.0 at y.to (leaves_now config w n h there other s is.0 at y.to is.1.4)),
      )

  sendable : Each (IsSendable config pended (w.nodes n)) errands
  sendable =
      let sends = IsSendable config pended (w.nodes n) in
      let asks = each_by (λ (f : PendingFetch). sends (Asks (record { number = f.number; key = f.key }))) opened
      (λ f m. subst (λ i. (f.number < pended.opened i) × IsForKey pended.fetches i f.number f.key × GoesTo config.nodes w.coord.table (Node (owner (w.nodes n).table f.key)) f.key) number (below_count f m, for_key f m, goes_there f)) in
      each_errand sends errands
      (subst (Each (λ f. sends (Asks f))) (sym l.asked) (each_map (λ f. sends (Asks f)) (λ (f : PendingFetch). record { number = f.number; key = f.key }) opened asks))
      (subst (Each (λ y. sends (Parts y))) (sym l.parted) (each_by (λ y. sends (Parts y)) left parting))

  abbrev called : ℕ → CallRec
  called = calls config w n h there other s after opened batch left g errands l.parted

  abbrev placed : ℕ → Phase
  placed = gone config w n h there other s after opened batch left g errands l.parted

  sent_is : Good config (record pended { call = called; phase = placed; posts = v.posts ++ posts_by (length w.commits) (w.nodes n) errands })
  sent_is =
      all_sent config pended (w.nodes n) (length w.commits) errands (subst (λ i. i < config.nodes) number there) (λ own. other (number ∙ own))
      (subst (Apart left_lane) (sym l.parted) (g.gone_apart (s.held n).waiters_apart)) sendable pended_is

  abbrev letters : List Letter
  letters = map (letter_of (w.nodes n)) errands

  abbrev work : Work
  work = record { node = y; sent = letters; notes = [] }

  abbrev then : Ghost
  then = record h { call = called; phase = placed; crossed = rests }

  good_is : Good config (view_in config w n work then)
  good_is = subst (Good config) same sent_is
    where
      same : record pended { call = called; phase = placed; posts = v.posts ++ posts_by (length w.commits) (w.nodes n) errands } ≡ view_in config w n work then
      same = λ i. record (view_begun config w n h other i) {
        rows = kept_at v.rows n y.rows a.rows i;
        replica = kept_at v.replica n y.replica (a.replica ∙ sym (at_seat (λ m. (w.nodes m).replica) w.coord.replica n other)) i;
        fetches = put v.fetches n ((fetches_are ∙ ap (λ (l : WaitList). askings_of l.fetches) (sym a.waiting)) i);
        opened = put v.opened n (sym a.waiting i).opened;
        taken = kept_at v.taken n y.waiting.last (ap (λ (l : WaitList). l.last) a.waiting ∙ g.last ∙ sym (at_seat (λ m. (w.nodes m).waiting.last) w.coord.last n other)) i;
        drawn = kept_at v.drawn n y.drawn a.drawn i;
        posts = v.posts ++ posts_by (length w.commits) (w.nodes n) errands;
        call = called;
        phase = placed;
        op = operating config (kept_at (shut_of w.nodes) n y.locks.shut a.shut i) (kept_at (last_of w.nodes) n y.last_operation a.last_operation i) w.coord then;
        map = mapped (kept_at (tables_of w.nodes) n y.table a.table i) (kept_at (barred_in w.nodes) n (barred_of y.blocked) (ap barred_of a.blocked) i) w.clients w.coord then;
      }

  placed_is : IsPlaced config n y
  placed_is = record {
    number = a.number ∙ (s.placed n).number;
    limit = a.limit ∙ (s.placed n).limit;
    blocked = subst HasOneName (sym a.blocked) (s.placed n).blocked;
    tidy = subst IsTidy (sym a.waiting) g.tidy;
  }

  in_step : InStep config w n work then y.waiting.calls (calls_in y.batches)
  in_step = record {
    good = good_is;
    here = subst (Held called placed n y.waiting.calls) (sym a.batches)
        (subst (λ (l : WaitList). Held called placed n l.calls (calls_in (w.nodes n).batches ++ batch)) (sym a.waiting) (gone_held config w n h there other s after opened batch left g errands l.parted));
    others = gone_others config w n h there other s after opened batch left g errands l.parted;
    items = subst (AreSent (posts_of w.envelopes ++ letter_posts (length w.commits) letters) n) (sym a.items) (sent_more (posts_of w.envelopes) (letter_posts (length w.commits) letters) n (w.nodes n).items (s.items n));
    others_items = λ m _. s.items m;
    heard = gone_heard config w n h there other s after opened batch left g errands l.parted;
    kept = s.kept;
    placed = placed_is;
    others_placed = λ m _. s.placed m;
  }

  -- what is known beside: no record that was kept is gone, and the coordinator's calls stay
  beside_is : Beside config (put w.nodes n y) w.coord then
  beside_is =
      beside_stepped config w.nodes w.coord h then n y s.good.operation.running (gone_stays config w n h there other s after opened batch left g errands l.parted)
      (gone_planned config w n h there other s after opened batch left g errands l.parted) (λ m _. refl) (ap locks_in a.items ∙ s.beside.queues n)
      (gone_holds config w n h there other s after opened batch left g errands l.parted y keys grown covered) s.beside

  gather_ends : All (λ letter. Fits letter.message) sent → Ends config w n (record { node = y; sent = sent; notes = [] })
  gather_ends =
      subst (λ (ls : List Letter). All (λ letter. Fits letter.message) ls → Ends config w n (record { node = y; sent = ls; notes = [] })) (sym l.letters_are)
      (λ fit. (then, ends config w n work then other fit beside_is in_step))

-- ---- the event

step_gathered : (x : NodeState) (k : Work) → node_step x Gather ≡ Some k → gathered x (plan_at x) ≡ k
unfolding node_step
step_gathered x k =
    elim (is_idle (plan_at x)) as (λ b. cond b None (Some (gathered x (plan_at x))) ≡ Some k → gathered x (plan_at x) ≡ k) [
      | true ↦ λ e. absurd (cc)
      | false ↦ λ e. same_Some (gathered x (plan_at x)) k e
    ]

gathered_ends : (config : Config) (w : World) (n : ℕ) (h : Ghost) → n < config.nodes → n ≢ 255 → Shows config w h → All (λ letter. Fits letter.message) (gathered (w.nodes n) (plan_at (w.nodes n))).sent
    → Ends config w n (gathered (w.nodes n) (plan_at (w.nodes n)))
unfolding gathered
gathered_ends config w n h there other s fit =
    let x = w.nodes n in
    let plan = plan_at x in
    let tidy = (s.placed n).tidy in
    gather_ends config w n h there other s (with_batch (with_waiting x plan.fetches (leaving plan)) (batch_calls x.waiting plan.calls) plan.keys)
    (without_calls (with_fetches x.waiting plan.fetches) (leaving plan)) (pending_of x.waiting.opened plan.fetches) (batch_calls x.waiting plan.calls) (leavers x.waiting plan.away)
    (gathered_node x tidy) (after_gather x plan.fetches (leaving plan) (batch_calls x.waiting plan.calls) plan.keys)
    (errands_of x.waiting x.waiting.opened plan.sends) (gather_letters x x.waiting.opened plan.sends) (gathered_letters x tidy)
    plan.keys (grown_gather x plan.fetches (leaving plan) (batch_calls x.waiting plan.calls) plan.keys) (node_keys x tidy) fit

pub gather_event : (config : Config) (w : World) (n : ℕ) (h : Ghost) (k : Work) → IsCluster config → n < config.nodes → Shows config w h → node_step (w.nodes n) Gather ≡ Some k
    → All (λ letter. Fits letter.message) k.sent → Ends config w n k
gather_event config w n h k cluster there s is =
    let few = cluster.few_nodes in
    let other : n ≢ 255 = λ own. absurd (omega arith) in
    subst (λ (j : Work). All (λ letter. Fits letter.message) j.sent → Ends config w n j) (step_gathered (w.nodes n) k is) (gathered_ends config w n h there other s)
