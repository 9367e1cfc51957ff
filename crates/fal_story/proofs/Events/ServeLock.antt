-- A node serves its Lock: its waiting calls are free, and it has the keys shut.
use Rattle.std.proofs.Common.{◌≡◌, ◌≢◌, ◌⊎◌, inl, inr, ⊎_elim, ℕ, ◌+◌, ◌<◌, ◌==◌, Bool, true, false, not, ◌&&◌, ◌||◌, cond, List, [], ◌∷◌, ◌++◌, length, map, Option, Some, None, is_some, IsSome, refl, sym, ap, subst, ◌∙◌, eq-eqb}
use Rattle.std.specs.Prelude.{if◌then◌else◌}
use Rattle.std.specs.List.{list_any}
use Rattle.fal_base.specs.declared.call.CallRec.{CallRec}
use Rattle.fal_base.specs.declared.call.Config.{Config}
use Rattle.fal_base.specs.declared.event.Actor.TheVariants.{Node}
use Rattle.fal_base.specs.declared.key.Key.{Key}
use Rattle.fal_base.specs.declared.row.Update.{Update}
use Rattle.fal_base.specs.Tree.{same_key}
use Rattle.fal_base.proofs.Maps.{same_key_is}
use Rattle.fal_batch.proofs.Truth.{both_second}
use Rattle.fal_dentry.specs.Walk.{is_among, without_keys}
use Rattle.fal_duty.specs.Duties.{locked_of, rows_of}
use Rattle.fal_locks.specs.declared.holder.Holder.{Holder}
use Rattle.fal_locks.specs.declared.holder.Shut.{Shut}
use Rattle.fal_locks.specs.Keys.{has_key}
use Rattle.fal_locks.specs.Locks.{is_held}
use Rattle.fal_node.specs.declared.item.Item.{Item}
use Rattle.fal_node.specs.Letters.{Work}
use Rattle.fal_node.specs.Serve.{can_shut, lock_service, served_as, shutting}
use Rattle.fal_node.specs.State.{item_of, without_item}
use Rattle.fal_place.specs.Placement.{Placement}
use Rattle.fal_run.specs.declared.call.BatchCall.{BatchCall}
use Rattle.fal_wait.specs.declared.waiting_call.WaitingCall.{WaitingCall}
use Rattle.fal_wait.specs.Waiting.{WaitList, after_cancel, unbound, fetch_of}
use Rattle.fal_wire.specs.declared.message.Message.{Message}
use Rattle.fal_wire.specs.declared.message.Message.TheVariants as message
use Rattle.fal_story.proofs.Events.Freed.{IsFreed, freed_moves, beside_freed, lock_listed, locks_gone}
use Rattle.fal_story.proofs.Events.GotEvent.{AllFit}
use Rattle.fal_story.proofs.Events.HeldCalls.{AsksNone, heard_moves, others_held}
use Rattle.fal_story.proofs.Events.InStep.{at_seat, view_begun, view_in, letter_posts, sent_more, Ends, ends}
use Rattle.fal_story.proofs.Events.Shows.{Ghost, Shows, Held, IsTidy, WaitsAt, PlannedAt, lane_of, operating, shut_of, last_of, listed_of, is_lock, view_of, posts_of, calls_in}
use Rattle.fal_story.proofs.Families.Bars.{Bar}
use Rattle.fal_story.proofs.Families.Operation.{Stands, shut_by}
use Rattle.fal_story.proofs.Good.{Good}
use Rattle.fal_story.proofs.Lists.Each.{each_weaker}
use Rattle.fal_story.proofs.Lists.Grown.{tells, put_back, put_other, put_same}
use Rattle.fal_story.proofs.Lists.Members.{IsIn, each_all, each_map, apart_map, each_without_first}
use Rattle.fal_story.proofs.Lists.WaitLists.{rising_map}
use Rattle.fal_story.proofs.Phase.{Phase, Idle, Asked, Waits, Plans, Runs, Tells, IsHeld, IsCrossing, Told}
use Rattle.fal_story.proofs.Steps.Arrives.{served_lock_good}
use Rattle.fal_story.proofs.Steps.Comes.{settled_table}
use Rattle.fal_story.proofs.Steps.Fetching.{closed_good}
use Rattle.fal_story.proofs.Steps.Moved.{MayMove, held_for, moved_good}
use Rattle.fal_story.proofs.View.{View, Kept, Work as Doing, Rests, Walks, Locks, Counts, Ends as EndsAt, post, Blocks, Lands}
use Rattle.fal_story.specs.World.{World, put}

-- ---- every call that waits at the node is free

abbrev pub freed_at : ℕ → Phase → Phase
freed_at n Idle = Idle
freed_at n (Asked m) = Asked m
freed_at n (Waits m fetch) = if m == n then Waits n None else Waits m fetch
freed_at n (Plans m x) = Plans m x
freed_at n Runs = Runs
freed_at n (Told old new) = Told old new
freed_at n (Tells answer) = Tells answer

abbrev pub free_all : ℕ → (ℕ → Phase) → ℕ → Phase
free_all n phase l = freed_at n (phase l)

freed_cases : (n : ℕ) (p : Phase) → (freed_at n p ≡ p) ⊎ (IsHeld n p × (freed_at n p ≡ Waits n None))
freed_cases n Idle = inl refl
freed_cases n (Asked m) = inl refl
freed_cases n (Waits m fetch) = ⊎_elim {C = (freed_at n (Waits m fetch) ≡ Waits m fetch) ⊎ ((m ≡ n) × (freed_at n (Waits m fetch) ≡ Waits n None))}
    (λ x. inr (x.1, ap (λ b. cond b (Waits n None) (Waits m fetch)) x.0))
    (λ x. inl (ap (λ b. cond b (Waits n None) (Waits m fetch)) x.0))
    (tells m n)
freed_cases n (Plans m x) = inl refl
freed_cases n Runs = inl refl
freed_cases n (Told old new) = inl refl
freed_cases n (Tells answer) = inl refl

pub freed_is : (n : ℕ) (p : Phase) → IsFreed n p (freed_at n p)
freed_is n p = ⊎_elim
    (λ same. inl same)
    (λ y. inr (held_for n p y.0, (λ idle. let no : Waits n None ≡ Idle = sym y.1 ∙ idle in cc), (λ m x is. let no : Waits n None ≡ Plans m x = sym y.1 ∙ is in cc), subst AsksNone (sym y.1) tt))
    (freed_cases n p)

freed_may : (config : Config) (v : View) (n : ℕ) (l : ℕ) → ((free_all n v.phase l ≡ v.phase l) × (v.op.crossed l ≡ v.op.crossed l)) ⊎ MayMove config v l (v.phase l) (free_all n v.phase l) (v.op.crossed l)
freed_may config v n l = ⊎_elim
    (λ same. inl (same, refl))
    (λ y. inr (subst (λ q. MayMove config v l (v.phase l) q (v.op.crossed l)) (sym y.1) y.0))
    (freed_cases n (v.phase l))

-- a call there that still rests on keys is planned
still_planned : (n : ℕ) (p : Phase) → IsCrossing n (freed_at n p) → (x : BatchCall) × (p ≡ Plans n x)
still_planned n Idle at = absurd at
still_planned n (Asked m) at = absurd at
still_planned n (Waits m None) at = absurd (⊎_elim
    (λ x. subst (λ b. IsCrossing n (cond b (Waits n None) (Waits m None))) x.0 at)
    (λ x. subst (λ b. IsCrossing n (cond b (Waits n None) (Waits m None))) x.0 at)
    (tells m n))
still_planned n (Waits m (Some fetch)) at = absurd (⊎_elim
    (λ x. subst (λ b. IsCrossing n (cond b (Waits n None) (Waits m (Some fetch)))) x.0 at)
    (λ x. x.1 (subst (λ b. IsCrossing n (cond b (Waits n None) (Waits m (Some fetch)))) x.0 at))
    (tells m n))
still_planned n (Plans m x) at = (x, λ i. Plans (at i) x)
still_planned n Runs at = absurd at
still_planned n (Told old new) at = absurd at
still_planned n (Tells answer) at = absurd at

held_cancelled : (call : ℕ → CallRec) (phase : ℕ → Phase) (n : ℕ) (ws : List WaitingCall) (ps : List BatchCall) → Held call phase n ws ps → Held call (free_all n phase) n (map unbound ws) ps
held_cancelled call phase n ws ps h = record {
  waiters = each_map (WaitsAt call (free_all n phase) n) unbound ws
      (each_weaker (WaitsAt call phase n) _ ws (λ w a. (ap (freed_at n) a.0 ∙ ap (λ b. cond b (Waits n None) (Waits n w.fetch)) (eq-eqb n n refl), a.1, a.2, a.3)) h.waiters);
  planned = each_weaker (PlannedAt call phase n) (PlannedAt call (free_all n phase) n) ps (λ x a. (ap (freed_at n) a.0, a.1, a.2)) h.planned;
  waiters_apart = apart_map lane_of unbound ws h.waiters_apart;
  planned_apart = h.planned_apart;
}

tidy_cancel : (list : WaitList) → IsTidy list → IsTidy (after_cancel list)
tidy_cancel list t = record {
  tickets = rising_map unbound (λ w. refl) list.calls list.tickets ∙ t.tickets;
  apart = tt;
  below = tt;
  pending = each_map (λ (w : WaitingCall). (number : ℕ) → w.fetch ≡ Some number → IsSome (fetch_of (after_cancel list) number)) unbound list.calls (each_all _ list.calls (λ w number e. absurd (cc)));
  tied = tt;
}

-- ---- no call at the node rests on the keys

some_among : (test : Key → Bool) (keys : List Key) (key : Key) → is_among key keys ≡ true → test key ≡ true → list_any test keys ≡ true
some_among test [] key among is = absurd (cc)
some_among test (k ∷ keys) key among is =
    elim (same_key k key) as (λ b. same_key k key ≡ b → (b || is_among key keys) ≡ true → (test k || list_any test keys) ≡ true) [
      | true ↦ λ same _. ap (λ b. b || list_any test keys) (ap test ((same_key_is k key).0 same) ∙ is)
      | false ↦ λ _ rest. ap (λ b. test k || b) (some_among test keys key rest is) ∙ or_true (test k)
    ] refl among
  where
    or_true : (b : Bool) → (b || true) ≡ true
    or_true true = refl
    or_true false = refl

-- a key that a batch holds is held
holding_held : (holders : List Holder) (number : ℕ) (key : Key) → list_any (λ (h : Holder). (h.number == number) && has_key h.keys key) holders ≡ true → list_any (λ (h : Holder). has_key h.keys key) holders ≡ true
holding_held [] number key is = is
holding_held (h ∷ holders) number key is = by (h.number == number) (has_key h.keys key) (λ e. holding_held holders number key e) is
  where
    by : (a b : Bool) → (list_any (λ (h : Holder). (h.number == number) && has_key h.keys key) holders ≡ true → list_any (λ (h : Holder). has_key h.keys key) holders ≡ true)
        → ((a && b) || list_any (λ (h : Holder). (h.number == number) && has_key h.keys key) holders) ≡ true → (b || list_any (λ (h : Holder). has_key h.keys key) holders) ≡ true
    by a true rest e = refl
    by true false rest e = rest e
    by false false rest e = rest e

not_both : (b : Bool) → b ≡ true → not b ≡ true → ⊥
not_both true is off = cc
not_both false is off = cc

off_keys : (config : Config) (w : World) (n : ℕ) (h : Ghost) (keys : List Key) → Shows config w h → can_shut (w.nodes n).locks keys ≡ true
    → (l : ℕ) (key : Key) → IsCrossing n (free_all n h.phase l) → is_among key (h.crossed l) ≡ true → is_among key keys ≡ true → ⊥
off_keys config w n h keys s can l key at rests among =
    let node = w.nodes n in
    let x = still_planned n (h.phase l) at in
    let held = (s.beside.holding n).planned l x.0 x.1 in
    let is = holding_held node.locks.holders held.batch.number key (held.keys_held key rests) in
    not_both (list_any (λ k. is_held node.locks k) keys) (some_among (λ k. is_held node.locks k) keys key among is) (both_second (not (is_some node.locks.shut)) (not (list_any (λ k. is_held node.locks k) keys)) can)

-- ---- the Lock is that of the operation

record IsLocking (operation o : ℕ) (keys : List Key) (work : Doing) : Type 0 where
  lane : ℕ
  walks : List Kept
  missing : List ℕ
  rows : List Update
  is : work ≡ Locks lane keys walks missing rows
  number : o ≡ operation

same_lock : (o p : ℕ) (keys locked : List Key) → ◌≡◌ {A = Option Message} (Some (message.Lock o keys)) (Some (message.Lock p locked)) → (o ≡ p) × (keys ≡ locked)
same_lock o p keys locked e = (cc, cc)

no_block : (o p : ℕ) (keys : List Key) (name : List ℕ) → ◌≡◌ {A = Option Message} (Some (message.Lock o keys)) (Some (message.Block p name)) → ⊥
no_block o p keys name e = cc

locking_at : (table own : Placement) (operation n o : ℕ) (keys : List Key) (work : Doing) (shut : Option Shut) (barred : Option (ℕ × List ℕ)) (queued : Option Message) (last : ℕ) (due : List Update) → queued ≡ Some (message.Lock o keys)
    → Stands table operation work n shut queued last due → Bar table operation work n own barred queued last due → IsLocking operation o keys work
locking_at table own operation n o keys Rests shut barred queued last due is stands bar = let none = stands.2 in absurd (cc)
locking_at table own operation n o keys (Walks lane) shut barred queued last due is stands bar = let none = stands.2 in absurd (cc)
locking_at table own operation n o keys (Locks lane locked walks missing rows) shut barred queued last due is stands bar = ⊎_elim
    (λ x. ⊎_elim
    (λ away. let none = away.1 in absurd (cc))
    (λ here.
    let same = same_lock operation o locked keys (sym here.1 ∙ is) in
    record { lane = lane; walks = walks; missing = missing; rows = rows; is = ap (λ ks. Locks lane ks walks missing rows) same.1; number = sym same.0 })
    x.1)
    (λ has. let none = has.1 in absurd (cc))
    stands.1
locking_at table own operation n o keys (Counts lane locked walks missing rows dir updates sum) shut barred queued last due is stands bar = let none = stands.1.1 in absurd (cc)
locking_at table own operation n o keys (Blocks lane name rule missing came) shut barred queued last due is stands bar = ⊎_elim
    (λ x. ⊎_elim (λ away. let none = away.0 in absurd (cc)) (λ here. absurd (no_block o operation keys name (sym is ∙ here.0))) x.3)
    (λ x. let none = x.1.0 in absurd (cc))
    bar.1
locking_at table own operation n o keys (Lands name rule old missing) shut barred queued last due is stands bar = ⊎_elim (λ x. let none = x.3.0 in absurd (cc)) (λ x. let none = x.3.0 in absurd (cc)) bar
locking_at table own operation n o keys (EndsAt locked updates missing) shut barred queued last due is stands bar = ⊎_elim
    (λ x. let none = x.2.1 in absurd (cc))
    (λ x. let none = x.2 in absurd (cc))
    stands

pub listed_is : (o : Option Message) (m : Message) → IsIn m (listed_of o) → o ≡ Some m
listed_is None m among = absurd among
listed_is (Some x) m among = ⊎_elim (λ same. ap Some same) (λ none. absurd none) among

-- ---- the service

abbrev pub locked_work : World → ℕ → ℕ → ℕ → List Key → Work
locked_work w n number operation keys = served_as (lock_service (w.nodes n) operation keys) number

pub lock_served : (config : Config) (w : World) (n : ℕ) (h : Ghost) (item : Item) (operation : ℕ) (keys : List Key) → n < config.nodes → n ≢ 255 → Shows config w h → item_of (w.nodes n) item.number ≡ Some item
    → item.message ≡ message.Lock operation keys → can_shut (w.nodes n).locks keys ≡ true → AllFit (locked_work w n item.number operation keys).sent → Ends config w n (locked_work w n item.number operation keys)
unfolding shutting without_item
lock_served config w n h item operation keys there other s found is can fit =
    let node = w.nodes n in
    let placed = s.placed n in
    let test = λ (i : Item). i.number == item.number in
    let v = view_of config w h in
    let lock = ap is_lock is in
    let listed = subst (IsIn item.message) (s.beside.queues n) (lock_listed test node.items item found lock) in
    let queued = listed_is (h.queued n) item.message listed in
    let queued_lock : h.queued n ≡ Some (message.Lock operation keys) = queued ∙ ap Some is in
    let locking = locking_at v.map.table (v.map.tables n) w.coord.operation n operation keys v.op.work (v.op.shut n) (v.map.barred n) (h.queued n) (v.op.last n) (h.due n) queued_lock (s.good.operation.stands n there) (s.good.bars.stands n there) in
    let table_is = settled_table config v n locking.is tt there s.good in
    let phase = free_all n h.phase in
    let later : Ghost = record h { phase = free_all n h.phase; queued = put h.queued n None } in
    let k = locked_work w n item.number operation keys in
    let first = moved_good config v phase h.crossed (freed_may config v n) s.good in
    let v1 : View = record v { phase = phase } in
    let second = closed_good config v1 n [] (inr there) (λ j f z. absurd (cc)) (λ own. absurd (other own)) first in
    let v2 : View = record v1 { fetches = put v1.fetches n [] } in
    let third = served_lock_good config v2 n locking.lane keys locking.walks locking.missing locking.rows (length w.commits + 0) locking.is there
    (queued_lock ∙ ap (λ o. Some (message.Lock o keys)) locking.number) (put_same v1.fetches n []) (off_keys config w n h keys s can) second in
    let v3 : View = record v2 {
      replica = put v.replica n (without_keys (v.replica n) keys);
      op = record v.op { shut = put v.op.shut n (shut_by w.coord.operation keys); queued = put v.op.queued n None };
      posts = v.posts ++ post (Node 255) (length w.commits + 0) (message.Locked w.coord.operation n (rows_of v.map.table (v.rows n) n keys)) ∷ [];
    } in
    let same : v3 ≡ view_in config w n k later = λ i. record (view_begun config w n h other i) {
      replica = put v.replica n (without_keys (at_seat (λ m. (w.nodes m).replica) w.coord.replica n other i) keys);
      fetches = v2.fetches;
      posts = posts_of w.envelopes ++ post (Node 255) (length w.commits + 0) (locked_of (sym table_is i) node.rows (sym placed.number i) (sym locking.number i) keys) ∷ [];
      phase = phase;
      op = operating config (put (shut_of w.nodes) n (shut_by (sym locking.number i) keys)) (sym (put_back (last_of w.nodes) n) i) w.coord later;
    } in
    let freed = λ (l : ℕ). freed_is n (h.phase l) in
    let moves = freed_moves n h.phase later.phase freed in
    let gone = locks_gone test node.items item item.message found lock (s.beside.queues n ∙ ap listed_of queued) ∙ sym (ap listed_of (put_same h.queued n None)) in (
      later,
      ends config w n k later other fit
          (beside_freed config w.nodes w.coord h later n k.node other s.good.operation.running freed (λ l. refl) (λ l. refl) (λ m apart. put_other h.queued n None m apart) gone refl refl refl s.beside)
          (record {
            good = subst (Good config) same third;
            here = held_cancelled h.call h.phase n node.waiting.calls (calls_in node.batches) (s.held n);
            others = others_held w n h.call h.phase later.phase moves (λ m _. s.held m);
            items = each_without_first _ test node.items (sent_more (posts_of w.envelopes) (letter_posts (length w.commits) k.sent) n node.items (s.items n));
            others_items = λ m _. s.items m;
            heard = heard_moves config w n h.call h.phase later.phase moves s.heard;
            kept = s.kept;
            placed = record { number = placed.number; limit = placed.limit; blocked = placed.blocked; tidy = tidy_cancel node.waiting placed.tidy };
            others_placed = λ m _. s.placed m;
          }),
    )
