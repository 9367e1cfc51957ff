-- Where nothing but Send is fresh the cluster is quiet.
use Rattle.std.proofs.Common.{◌≡◌, ◌≢◌, ⊎_elim, eq-eqb, is_some, ℕ, zero, suc, ◌<◌, ◌≤◌, nat_lt, Bool, true, false, not, ◌&&◌, ◌||◌, cond, List, [], ◌∷◌, length, Option, Some, None, is_none, refl, sym, ap, subst, ◌∙◌, arith}
use Rattle.std.specs.Prelude.{slice_get, ◌==◌, IsSome}
use Rattle.std.specs.List.{list_all, list_any}
use Rattle.std.proofs.lemmas.Bool.Decides.{nat_tests}
use Rattle.fal_base.specs.declared.call.CallRec.{CallRec}
use Rattle.fal_base.specs.declared.call.Config.{Config}
use Rattle.fal_base.specs.declared.event.Envelope.{Envelope}
use Rattle.fal_base.specs.declared.event.Actor.{Actor}
use Rattle.fal_base.specs.declared.event.Actor.TheVariants.{Node}
use Rattle.fal_base.specs.declared.event.Event.{Event}
use Rattle.fal_base.specs.declared.event.Event.TheVariants as event
use Rattle.fal_base.specs.declared.key.Key.{Key}
use Rattle.fal_batch.specs.Fate.{Setting, Fate, Skips, Leaves, Waits, Joins, fate, bars}
use Rattle.fal_batch.specs.Plan.{no_plan, free_calls, is_idle, is_skipped, is_skipped_by}
use Rattle.fal_batch.proofs.Empty.{idle_calls}
use Rattle.fal_batch.proofs.FreeCalls.{free_of, free_calls_are}
use Rattle.fal_coord.specs.declared.stage.Stage.{Stage}
use Rattle.fal_coord.specs.declared.stage.Stage.TheVariants as stage
use Rattle.fal_coord.specs.Begin.{begin, start_first}
use Rattle.fal_coord.specs.Nodes.{is_missing}
use Rattle.fal_coord.specs.State.{is_idle as is_idle_stage, is_quiet as is_coord_quiet}
use Rattle.fal_coord.specs.Step.{coord_step}
use Rattle.fal_locks.specs.Keys.{has_key, has_name}
use Rattle.fal_locks.specs.declared.holder.Holder.{Holder}
use Rattle.fal_locks.specs.Locks.{LockTable, is_shut, is_held, is_name_held, shut_keys_of}
use Rattle.fal_node.specs.declared.batch.Batch.{Batch}
use Rattle.fal_node.specs.declared.item.Item.{Item}
use Rattle.fal_node.specs.Due.{is_quiet}
use Rattle.fal_node.specs.Gather.{setting_at, plan_at}
use Rattle.fal_node.specs.Serve.{can_serve, is_behind, owns}
use Rattle.fal_node.specs.State.{blocked_names, NodeState}
use Rattle.fal_place.specs.Placement.{Placement}
use Rattle.fal_wait.specs.declared.waiting_call.WaitingCall.{WaitingCall}
use Rattle.fal_wire.specs.declared.message.Message.{Message}
use Rattle.fal_wire.specs.declared.message.Message.TheVariants as message
use Rattle.fal_story.proofs.Drain.Actors.{IsActor}
use Rattle.fal_story.proofs.Drain.Blocked.{bar_at, recorded_at, none_blocked, none_of, some_of}
use Rattle.fal_story.proofs.Drain.Moving.{IsMoving, IsServable, items_in}
use Rattle.fal_story.proofs.Drain.Fresh.{IsFresh}
use Rattle.fal_story.proofs.Drain.MovingDeliver.{no_seat}
use Rattle.fal_story.proofs.Drain.MovingStart.{stands_at, idle_open, walk_open}
use Rattle.fal_story.proofs.Drain.MovingRuns.{legal_moves}
use Rattle.fal_story.proofs.Drain.Staged.{IsWalking, IsHearing, missing_of}
use Rattle.fal_story.proofs.Drain.NoneDue.{NoneFresh, none_fresh, none_due}
use Rattle.fal_story.proofs.Drain.OnWay.{IsOnWay, Asks, Keeps, Gets}
use Rattle.fal_story.proofs.Events.Doing.{name_in}
use Rattle.fal_story.proofs.Gathers.Going.{GoesOn, fates_go}
use Rattle.fal_story.proofs.Events.Shows.{Ghost, Shows, IsCurrent, IsTidy, posts_of, locks_in, listed_of}
use Rattle.fal_story.proofs.Events.Tables.{coord_version}
use Rattle.fal_story.proofs.Families.Operation.{shut_by}
use Rattle.fal_story.proofs.Lists.Each.{Each, each_weaker, each_both}
use Rattle.fal_story.proofs.Lists.Grown.{tells}
use Rattle.fal_story.proofs.Lists.GatherLists.{tickets_apart}
use Rattle.fal_story.proofs.Lists.Members.{IsIn, each_in, in_at}
use Rattle.fal_story.proofs.Lists.WaitLists.{rising_apart}
use Rattle.fal_story.proofs.View.{Post, IsPosted, post}
use Rattle.fal_story.specs.Clusters.{IsCluster}
use Rattle.fal_story.specs.Fresh.{IsQuiet, IsQuietAt, came, first_reply, fresh_replies_at}
use Rattle.fal_story.specs.Run.{IsLegal, run}
use Rattle.fal_story.specs.World.{World}

-- ---- items

none_shut : (locks : LockTable) (key : Key) → locks.shut ≡ None → is_shut locks key ≡ false
none_shut locks key none = ap (λ o. has_key (shut_keys_of o) key) none

-- nothing at the node holds an item back
pub record HoldsNothing (node : NodeState) : Type 0 where
  pub batches : node.batches ≡ []
  pub shut : node.locks.shut ≡ None
  pub blocked : node.blocked ≡ None
  pub holders : node.locks.holders ≡ []

no_holders : (hs : List Holder) → Each (λ (h : Holder). (b : Batch) × (IsIn b [] × (b.number ≡ h.number))) hs → hs ≡ []
no_holders [] all = refl
no_holders (h ∷ hs) all = absurd all.0.1.0

-- what asks for a part knows no later table
abbrev IsTimely : NodeState → Message → Type 0
IsTimely node (message.ListAsk id version dir) = version ≤ node.table.version
IsTimely node other = Unit {0}

timely_listed : (version table : ℕ) → version ≤ table → (nat_lt version table || ((version == table) && true)) ≡ true
timely_listed version table within =
    ⊎_elim
    (λ same. ap (λ b. nat_lt version table || (b && true)) same.0 ∙ or_true (nat_lt version table))
    (λ apart. let ne = apart.1 in let later : nat_lt version table ≡ true = earlier version table within ne in ap (λ b. b || ((version == table) && true)) later)
    (tells version table)
  where
    or_true : (b : Bool) → (b || true) ≡ true
    or_true true = refl
    or_true false = refl

    earlier : (a b : ℕ) → a ≤ b → a ≢ b → nat_lt a b ≡ true
    earlier a b le ne = let lt : a < b = less a b le ne in grind (arith, nat_tests)
      where
        less : (a b : ℕ) → a ≤ b → a ≢ b → a < b
        less a b le ne = grind arith

-- so each item can be served, of whichever kind
item_served : (node : NodeState) (kind : Message) → HoldsNothing node → IsServable kind → IsTimely node kind → can_serve node kind ≡ true
item_served node (message.ListAsk id version dir) free can timely =
    ap (λ o. is_behind node version || ((version == node.table.version) && (not (is_some o) && not (is_some node.blocked)))) free.shut
    ∙ ap (λ o. is_behind node version || ((version == node.table.version) && (not (is_some o)))) free.blocked
    ∙ timely_listed version node.table.version timely
item_served node (message.FetchAsk asker number key) free can timely =
    ap (λ b. not (bars (blocked_names b) key.name) && (not (owns node key) || not (is_shut node.locks key))) free.blocked
    ∙ ap (λ b. not (owns node key) || not b) (none_shut node.locks key free.shut)
    ∙ or_true (not (owns node key))
  where
    or_true : (b : Bool) → (b || true) ≡ true
    or_true true = refl
    or_true false = refl
item_served node (message.Lock operation keys) free can timely =
    ap (λ b. not b && not (list_any (λ key. is_held node.locks key) keys)) (ap (λ o. is_some o) free.shut) ∙ ap not (none_any keys)
  where
    none_any : (keys : List Key) → list_any (λ key. is_held node.locks key) keys ≡ false
    none_any [] = refl
    none_any (key ∷ keys) = ap (λ hs. list_any (λ (x : Holder). has_key x.keys key) hs || list_any (λ key. is_held node.locks key) keys) free.holders ∙ none_any keys
item_served node (message.Block operation name) free can timely =
    ap (λ o. not (is_some o) && not (is_name_held node.locks name)) free.blocked ∙ ap (λ hs. not (list_any (λ (x : Holder). has_name x.keys name) hs)) free.holders
item_served node other free can timely = absurd can

no_items : (items : List Item) → Each (λ (i : Item). ⊥) items → items ≡ []
no_items [] h = refl
no_items (x ∷ xs) h = absurd h.0

-- ---- calls

-- a call that goes on or leaves is not skipped where a batch takes one call
not_skipped : (limit : ℕ) (f : Fate) → 1 ≤ limit → GoesOn f → is_skipped_by limit f ≡ true → ⊥
not_skipped limit Skips some going is = absurd going
not_skipped limit (Leaves to) some going is = absurd (cc)
not_skipped limit (Waits key) some going is = absurd (cc)
not_skipped limit (Joins denied parent last keys) some going is = let wrong : (limit == 0) ≡ false = grind (arith, nat_tests) in absurd (cc)

no_calls_left : (calls : List WaitingCall) → Each (λ (x : WaitingCall). (f : ℕ) → x.fetch ≡ Some f → ⊥) calls → Each (λ (x : WaitingCall). x.fetch ≡ None → ⊥) calls → calls ≡ []
no_calls_left [] h k = refl
no_calls_left (x ∷ xs) h k = elim x.fetch as (λ o. x.fetch ≡ o → x ∷ xs ≡ []) [ None ↦ λ e. absurd (k.0 e) | Some f ↦ λ e. absurd (h.0 f e) ] refl

free_skipped : (s : Setting) (calls : List WaitingCall) → list_all (λ w. is_skipped s w.call) (free_of calls) ≡ true → Each (λ (x : WaitingCall). x.fetch ≡ None → is_skipped s x.call ≡ true) calls
free_skipped s [] h = tt
free_skipped s (x ∷ xs) h =
    elim x.fetch as (λ o. x.fetch ≡ o → list_all (λ w. is_skipped s w.call) (cond (is_none o) (x ∷ free_of xs) (free_of xs)) ≡ true → Each (λ (y : WaitingCall). y.fetch ≡ None → is_skipped s y.call ≡ true) (x ∷ xs)) [
      | None ↦ λ e z. ((λ _. first (is_skipped s x.call) _ z), free_skipped s xs (second (is_skipped s x.call) _ z))
      | Some f ↦ λ e z. ((λ none. let wrong : Some f ≡ None = sym e ∙ none in absurd (cc)), free_skipped s xs z)
    ] refl h
  where
    first : (a b : Bool) → (a && b) ≡ true → a ≡ true
    first true b e = refl
    first false b e = absurd (cc)

    second : (a b : Bool) → (a && b) ≡ true → b ≡ true
    second true b e = e
    second false b e = absurd (cc)

-- an idle plan skips each free call
idle_skips : (node : NodeState) → IsTidy node.waiting → is_idle (plan_at node) ≡ true → Each (λ (x : WaitingCall). x.fetch ≡ None → is_skipped (setting_at node) x.call ≡ true) node.waiting.calls
unfolding plan_at
idle_skips node tidy idle =
    let s = setting_at node in
    let free : free_calls node.waiting ≡ free_of node.waiting.calls = free_calls_are node.waiting (tickets_apart node.waiting.calls (rising_apart node.waiting.calls node.waiting.tickets tidy.tickets)) in
    free_skipped s node.waiting.calls (ap (list_all (λ w. is_skipped s w.call)) (sym free) ∙ sym (idle_calls s no_plan (free_calls node.waiting)) ∙ idle)

-- ---- a cluster

quiet_of : (node : NodeState) → node.batches ≡ [] → node.waiting.calls ≡ [] → node.items ≡ [] → is_quiet node ≡ true
quiet_of node b c i =
    ap (λ xs. (length xs == 0) && (length node.waiting.calls == 0) && (length node.items == 0)) b ∙ ap (λ xs. (length xs == 0) && (length node.items == 0)) c ∙ ap (λ (xs : List Item). length xs == 0) i

pub quiet_items : (node : NodeState) → is_quiet node ≡ true → node.items ≡ []
quiet_items node quiet = empty node.items (second ((length node.batches == 0) && (length node.waiting.calls == 0)) (length node.items == 0) quiet)
  where
    second : (a b : Bool) → (a && b) ≡ true → b ≡ true
    second true b e = e
    second false b e = absurd (cc)

    empty : (xs : List Item) → (length xs == 0) ≡ true → xs ≡ []
    empty [] e = refl
    empty (x ∷ xs) e = let wrong : (suc (length xs) == 0) ≡ false = grind (arith, nat_tests) in absurd (cc)

-- a record that is posted was sent in an envelope
pub envelope_at : (xs : List Envelope) (k : ℕ) (y : Post) → slice_get (posts_of xs) k ≡ Some y → (x : Envelope) × (slice_get xs k ≡ Some x)
envelope_at [] k y at = absurd (cc)
envelope_at (x ∷ xs) zero y at = (x, refl)
envelope_at (x ∷ xs) (suc k) y at = envelope_at xs k y at

module _ (config : Config) (w : World) (c : ℕ → Bool) (cluster : IsCluster config) (h : Ghost) (s : Shows config w h) (m : IsMoving config w c) (none : NoneFresh config w c) where
  pub every_came : (k : ℕ) (x : Envelope) → slice_get w.envelopes k ≡ Some x → c k ≡ true
  every_came k x at = none.all_came k x at (each_in (λ (e : Envelope). IsActor config e.to) w.envelopes x m.within (in_at w.envelopes k x at))

  posted_came : (k : ℕ) (y : Post) → slice_get (posts_of w.envelopes) k ≡ Some y → c k ≡ false → ⊥
  posted_came k y at fresh = let x = envelope_at w.envelopes k y at in let came = every_came k x.0 x.1 in absurd (cc)

  -- nothing is shut at the node, and nothing is blocked
  abbrev IsFree : ℕ → Type 0
  IsFree n = ((w.nodes n).locks.shut ≡ None) × ((w.nodes n).blocked ≡ None)

  -- then nothing holds an item back
  holds_nothing : (n : ℕ) → n < config.nodes → IsFree n → HoldsNothing (w.nodes n)
  holds_nothing n there open_now =
      let due = none_due (w.nodes n) (none.no_dues n there) in
      record {
        batches = due.batches;
        shut = open_now.0;
        blocked = open_now.1;
        holders = no_holders (w.nodes n).locks.holders (subst (λ bs. Each (λ (h : Holder). (b : Batch) × (IsIn b bs × (b.number ≡ h.number))) (w.nodes n).locks.holders) due.batches (m.holders n));
      }

  -- each item that asks for a part was sent by a table that is recorded
  items_timely : (n : ℕ) → n < config.nodes → IsFree n → Each (λ (i : Item). IsTimely (w.nodes n) i.message) (w.nodes n).items
  items_timely n there open_now = each_weaker _ _ (w.nodes n).items (λ i sent. timely i.message sent.0 sent.1.0 sent.1.1) (s.items n)
    where
      timely : (kind : Message) (e p : ℕ) → IsPosted (posts_of w.envelopes) e (Node n) p kind → IsTimely (w.nodes n) kind
      timely (message.ListAsk id version dir) e p sent =
          let below = (s.good.knowing.asks e p n id version dir sent).0 in
          let last : (w.nodes n).table.version ≡ length h.placings = ap (λ (t : Placement). t.version) (recorded_at config w h s n there open_now.1) ∙ coord_version config w h s in
          omega arith
      timely other e p sent = tt

  items_none : (n : ℕ) → n < config.nodes → IsFree n → (w.nodes n).items ≡ []
  items_none n there open_now =
      let due = none_due (w.nodes n) (none.no_dues n there) in
      let free = holds_nothing n there open_now in
      no_items (w.nodes n).items
      (each_both (λ (i : Item). IsServable i.message × IsTimely (w.nodes n) i.message) (λ (i : Item). can_serve (w.nodes n) i.message ≡ false) (λ i. ⊥) (w.nodes n).items (λ i is held. let can = item_served (w.nodes n) i.message free is.0 is.1 in absurd (cc))
      (each_both (λ (i : Item). IsServable i.message) (λ (i : Item). IsTimely (w.nodes n) i.message) (λ (i : Item). IsServable i.message × IsTimely (w.nodes n) i.message) (w.nodes n).items (λ i a b. (a, b)) (m.servable n) (items_timely n there open_now)) due.items)

  -- nor does a node that is not there
  no_item : ((n : ℕ) → n < config.nodes → IsFree n) → (n : ℕ) → (w.nodes n).items ≡ []
  no_item open_all n =
      elim (nat_lt n config.nodes) as (λ b. nat_lt n config.nodes ≡ b → (w.nodes n).items ≡ []) [
        | true ↦ λ is. let there : n < config.nodes = grind (arith, nat_tests) in items_none n there (open_all n there)
        | false ↦ λ is. let beyond : config.nodes ≤ n = grind (arith, nat_tests) in quiet_items (w.nodes n) (m.beyond n beyond)
      ] refl

  on_way_none : ((n : ℕ) → n < config.nodes → IsFree n) → (n f : ℕ) → IsOnWay (posts_of w.envelopes) c (items_in w) n f → ⊥
  on_way_none open_all n f (Asks k p to key at fresh) = posted_came k _ at fresh
  on_way_none open_all n f (Keeps i item key at is) = let none_there : IsIn item [] = subst (IsIn item) (no_item open_all i) at in absurd none_there
  on_way_none open_all n f (Gets k p key what at fresh) = posted_came k _ at fresh

  calls_none : ((n : ℕ) → n < config.nodes → IsFree n) → (n : ℕ) → n < config.nodes → (w.nodes n).waiting.calls ≡ []
  calls_none open_all n there =
      let node = w.nodes n in
      let due = none_due node (none.no_dues n there) in
      let p = s.placed n in
      let some : 1 ≤ node.limit = subst (λ i. 1 ≤ i) (sym p.limit) cluster.some_batch in
      no_calls_left node.waiting.calls (each_weaker _ _ node.waiting.calls (λ x way f is. on_way_none open_all n f (way f is)) (m.waits n))
      (each_both _ (λ (x : WaitingCall). x.fetch ≡ None → is_skipped (setting_at node) x.call ≡ true) _ node.waiting.calls
      (λ x going skipped free. not_skipped node.limit (fate (setting_at node) x.call) some going (skipped free)) (fates_go config w n h (no_seat config w c n there m) s (open_all n there).1 (open_all n there).0) (idle_skips node p.tidy due.idle))

  -- ---- the coordinator

  fresh_none : (to : Actor) (y : Message) → IsFresh (posts_of w.envelopes) c to y → ⊥
  fresh_none to y f = posted_came f.0 (post to f.1.0 y) f.1.1.0 f.1.1.1

  -- a walk's question would be served
  walk_none : (call : CallRec) (number : ℕ) (key : Key) → w.coord.stage ≡ stage.Walk call number key → ⊥
  walk_none call number key at =
      on_way_none (λ n there. (walk_open config w h s call number key n at there, none_blocked config w h s (stage.Walk call number key) n at tt there)) 255 number (subst (IsWalking (posts_of w.envelopes) c (items_in w)) at m.staged.walking)

  -- so would a Lock or a Block that is queued
  queued_none : (order : Message) (n : ℕ) → n < config.nodes → IsFree n → h.queued n ≡ Some order → ⊥
  queued_none order n there open_now queued =
      let nothing : locks_in (w.nodes n).items ≡ [] = ap (λ items. locks_in items) (items_none n there open_now) in
      let some : locks_in (w.nodes n).items ≡ order ∷ [] = s.beside.queues n ∙ ap listed_of queued in
      let wrong : [] ≡ order ∷ [] = sym nothing ∙ some in
      cc

  -- no node is still to be heard
  hearing_none : (t : Stage) (n : ℕ) → w.coord.stage ≡ t → n < config.nodes → is_missing n (missing_of t) ≡ true → IsHearing (posts_of w.envelopes) c w.coord.operation t n (w.nodes n) → ⊥
  hearing_none stage.Idle n at there waits hearing = absurd (cc)
  hearing_none (stage.Walk call number key) n at there waits hearing = absurd (cc)
  hearing_none (stage.Lock operation missing rows) n at there waits hearing =
      let x = stands_at config w h s (stage.Lock operation missing rows) n at there in
      ⊎_elim
      (λ still.
      ⊎_elim
      (λ away. fresh_none (Node n) (message.Lock w.coord.operation operation.keys) (hearing.away away.2))
      (λ queued. queued_none (message.Lock w.coord.operation operation.keys) n there (queued.0, none_blocked config w h s (stage.Lock operation missing rows) n at tt there) queued.1)
      still.1)
      (λ shut. let told = hearing.shut (λ open_now. let wrong : None ≡ shut_by w.coord.operation operation.keys = sym open_now ∙ shut.0 in cc) in fresh_none (Node 255) (message.Locked w.coord.operation n told.0) told.1)
      x.1
  hearing_none (stage.Count operation rows dir updates missing counts) n at there waits hearing =
      ⊎_elim (λ asked. fresh_none (Node n) (message.Count w.coord.operation dir) asked) (λ told. fresh_none (Node 255) (message.Counted w.coord.operation n told.0) told.1) hearing
  hearing_none (stage.Finish keys updates missing) n at there waits hearing =
      fresh_none (Node n) (message.Commit w.coord.operation updates) (hearing.shut (λ open_now. fresh_none (Node 255) (message.Done w.coord.operation n) (hearing.freed open_now)))
  hearing_none (stage.Block call missing rows) n at there waits hearing =
      let x = bar_at config w h s (stage.Block call missing rows) n at there in
      let y = stands_at config w h s (stage.Block call missing rows) n at there in
      ⊎_elim
      (λ still.
      ⊎_elim
      (λ away. fresh_none (Node n) (message.Block w.coord.operation (name_in call.op)) (hearing.away away.1))
      (λ queued. queued_none (message.Block w.coord.operation (name_in call.op)) n there (y.0, none_of (w.nodes n).blocked (s.placed n).blocked still.1) queued.0)
      still.3)
      (λ barred. let told = hearing.blocked (some_of (w.nodes n).blocked w.coord.operation (name_in call.op) barred.0) in fresh_none (Node 255) (message.Blocked w.coord.operation n told.0) told.1)
      x.1
  hearing_none (stage.Install call missing) n at there waits hearing =
      let order = hearing.blocked (λ free. fresh_none (Node 255) (message.Installed w.coord.operation n) (hearing.freed free)) in
      fresh_none (Node n) order.0 order.1.1

  nobody_missing : (ns : List ℕ) → missing_of w.coord.stage ≡ ns → ns ≡ []
  nobody_missing [] is = refl
  nobody_missing (n ∷ ns) is =
      let first : is_missing n (n ∷ ns) ≡ true = ap (λ b. b || is_missing n ns) (eq-eqb n n refl) in
      let waits : is_missing n (missing_of w.coord.stage) ≡ true = subst (λ ms. is_missing n ms ≡ true) (sym is) first in
      absurd (hearing_none w.coord.stage n refl (m.staged.named n waits) waits (m.staged.hearing n waits))

  -- no operation is under way
  stage_idle : (t : Stage) → w.coord.stage ≡ t → IsCurrent config.nodes w.coord.table h.call h.phase t → t ≡ stage.Idle
  stage_idle stage.Idle at current = refl
  stage_idle (stage.Walk call number key) at current = absurd (walk_none call number key at)
  stage_idle (stage.Lock operation missing rows) at current = absurd (current.2 (nobody_missing missing (ap missing_of at)))
  stage_idle (stage.Count operation rows dir updates missing counts) at current = absurd (current.2 (nobody_missing missing (ap missing_of at)))
  stage_idle (stage.Finish keys updates missing) at current = absurd (current (nobody_missing missing (ap missing_of at)))
  stage_idle (stage.Block call missing rows) at current = absurd (current.2 (nobody_missing missing (ap missing_of at)))
  stage_idle (stage.Install call missing) at current = absurd (current (nobody_missing missing (ap missing_of at)))

  idle_now : w.coord.stage ≡ stage.Idle
  idle_now = stage_idle w.coord.stage refl s.beside.hosts.current

  -- and no call waits for one, since it would start
  starts_not : is_some (begin w.coord w.coord.stage) ≡ false
  unfolding coord_step
  starts_not = elim (is_some (begin w.coord w.coord.stage)) as (λ b. cond b (event.Start ∷ []) [] ≡ [] → b ≡ false) [ true ↦ λ z. absurd (cc) | false ↦ λ z. refl ] none.no_start

  none_waiting : w.coord.waiting ≡ []
  none_waiting = by_calls w.coord.waiting refl
    where
      by_calls : (calls : List CallRec) → w.coord.waiting ≡ calls → calls ≡ []
      by_calls [] is = refl
      by_calls (call ∷ calls) is =
          let some : is_some (begin w.coord w.coord.stage) ≡ true = ap (λ t. is_some (begin w.coord t)) idle_now ∙ ap (λ cs. is_some (start_first w.coord cs)) is in
          let wrong : true ≡ false = sym some ∙ starts_not in
          absurd (cc)

  coord_quiet : is_coord_quiet w.coord ≡ true
  coord_quiet = ap (λ (cs : List CallRec). (length cs == 0) && is_idle_stage w.coord.stage) none_waiting ∙ ap (λ t. is_idle_stage t) idle_now

  all_open : (n : ℕ) → n < config.nodes → IsFree n
  all_open n there = (idle_open config w h s n idle_now there, none_blocked config w h s stage.Idle n idle_now tt there)

  pub all_quiet : IsQuiet config w c
  all_quiet = record {
    all_came = every_came;
    nodes = λ n.
        elim (nat_lt n config.nodes) as (λ b. nat_lt n config.nodes ≡ b → is_quiet (w.nodes n) ≡ true) [
          | true ↦ λ is. let there : n < config.nodes = grind (arith, nat_tests) in quiet_of (w.nodes n) (none_due (w.nodes n) (none.no_dues n there)).batches (calls_none all_open n there) (items_none n there (all_open n there))
          | false ↦ λ is. let beyond : config.nodes ≤ n = grind (arith, nat_tests) in m.beyond n beyond
        ] refl;
    coord = coord_quiet;
  }

-- where nothing is fresh after a legal run but Sends, the cluster is quiet
pub none_is_quiet : (config : Config) (events : List Event) → IsLegal config events → first_reply config events ≡ None → IsQuietAt config (run config events) (came events)
none_is_quiet config events legal none =
    elim (run config events) as (λ o. run config events ≡ o → slice_get (fresh_replies_at config o (came events)) 0 ≡ None → IsQuietAt config o (came events)) [
      | None ↦ λ at e. let wrong : IsSome {T = World} None = subst (λ (o : Option World). IsSome o) at legal.enabled in absurd (cc)
      | Some w ↦ λ at e.
          let k = legal_moves config events w legal at in
          all_quiet config w (came events) legal.cluster k.0.ghost k.0.shows k.1 (none_fresh config w (came events) e)
    ] refl none
