-- Where the calls of a node are when it has gathered.
use Rattle.std.proofs.Common.{◌≡◌, ◌≢◌, ◌⊎◌, inl, inr, ⊎_elim, ℕ, ◌<◌, ◌≤◌, false, true, List, ◌++◌, Option, Some, None, is_some, IsTrue, refl, sym, ap, subst, ◌∙◌, arith}
use Rattle.std.proofs.lemmas.Option.{same_Some}
use Rattle.fal_base.specs.declared.call.CallRec.{CallRec}
use Rattle.fal_base.specs.declared.call.Config.{Config}
use Rattle.fal_base.specs.Tree.{Tree}
use Rattle.fal_batch.specs.Fate.{Setting, Joins, fate, Waits as WaitsFor}
use Rattle.fal_run.specs.declared.call.BatchCall.{BatchCall}
use Rattle.fal_node.specs.Gather.{setting_at}
use Rattle.fal_wait.specs.declared.pending_fetch.PendingFetch.{PendingFetch}
use Rattle.fal_wait.specs.declared.waiting_call.WaitingCall.{WaitingCall}
use Rattle.fal_wait.specs.Waiting.{WaitList}
use Rattle.fal_story.proofs.Gathers.Fates.{IsFate, IsUnblocked, rests_by, rests_open}
use Rattle.fal_story.proofs.Gathers.Going.{fate_now}
use Rattle.fal_story.proofs.Events.HeldCalls.{AsksNone, MovesAt}
use Rattle.fal_story.proofs.Events.InStep.{at_seat}
use Rattle.fal_story.proofs.Gathers.Leaving.{owner_is, unbarred}
use Rattle.fal_story.proofs.Events.Shows.{Ghost, Shows, Held, WaitsAt, PlannedAt, view_of, lane_of, planned_lane, calls_in}
use Rattle.fal_story.proofs.Families.Plans.{IsPlanned, retabled}
use Rattle.fal_story.proofs.Lists.Each.{Each, Apart, each_weaker, each_join}
use Rattle.fal_story.proofs.Lists.GatherKeys.{HasKeys}
use Rattle.fal_story.proofs.Lists.GatherLists.{IsKept, IsJoined, IsGathered, IsLeft, Leaver, left_lane}
use Rattle.fal_story.proofs.Lists.Grown.{put_same}
use Rattle.fal_story.proofs.Lists.Members.{IsIn, each_in, each_by, apart_join, apart_same, apart_back}
use Rattle.fal_story.proofs.Phase.{Phase, Idle, Asked, Waits, Plans, Runs, Tells, IsHeld, Told}
use Rattle.fal_base.specs.declared.key.Key.{Key}
use Rattle.fal_story.proofs.Families.Asking.{Crosses, weaker}
use Rattle.fal_story.proofs.Families.Clear.{IsShut}
use Rattle.fal_story.proofs.Lists.OpenedFetches.{IsAsked, bound_call}
use Rattle.fal_story.proofs.Trees.Met.{AreOpen, IsOpen}
use Rattle.fal_story.proofs.Trees.Among.{all_among}
use Rattle.fal_dentry.specs.Walk.{is_among}
use Rattle.fal_exec.specs.RowCall.{row_names}
use Rattle.fal_locks.specs.declared.holder.Shut.{Shut}
use Rattle.fal_locks.specs.Locks.{shut_keys_of}
use Rattle.fal_story.proofs.Steps.Moved.{IsClear, MayMove, held_for}
use Rattle.fal_story.proofs.Trees.PathWalks.{crosses_by, reaches_by}
use Rattle.fal_story.proofs.Trees.Standing.{Reaches, tree_now}
use Rattle.fal_story.proofs.View.{View}
use Rattle.fal_story.specs.World.{World, put}
use Rattle.fal_story.proofs.Gathers.ListedPhases.{listed, WaitsIn, PlansIn, listed_cases, listed_waits, listed_plans, waits_same}

-- ---- the keys on which calls rest

-- those of the walk, for a call that was free; those that there were, for each other
abbrev pub crossed_from : List Key → List Key → Phase → List Key
crossed_from walked kept (Waits m None) = walked
crossed_from walked kept other = kept

-- a call that stays where it is keeps its keys, or needs none
still_moves : (config : Config) (v : View) (l : ℕ) (walked kept : List Key) (p q : Phase) → q ≡ p → ((q ≡ p) × (kept ≡ crossed_from walked kept p)) ⊎ MayMove config v l p q (crossed_from walked kept p)
still_moves config v l walked kept Idle q same = inl (same, refl)
still_moves config v l walked kept (Asked m) q same = inl (same, refl)
still_moves config v l walked kept (Waits m None) q same = inr (subst (λ z. MayMove config v l (Waits m None) z walked) (sym same) refl)
still_moves config v l walked kept (Waits m (Some number)) q same = inl (same, refl)
still_moves config v l walked kept (Plans m x) q same = inl (same, refl)
still_moves config v l walked kept Runs q same = inl (same, refl)
still_moves config v l walked kept (Told old new) q same = inl (same, refl)
still_moves config v l walked kept (Tells answer) q same = inl (same, refl)

-- ---- the fates of free calls

-- a key that is not shut keeps nothing off
off_key : (shut : Option Shut) (key : Key) → IsOpen (shut_keys_of shut) key → IsShut shut key → ⊥
off_key None key off is = is
off_key (Some s) key off is = let wrong : false ≡ true = sym off ∙ is in absurd (cc)

module _ (config : Config) (w : World) (n : ℕ) (h : Ghost) (there : n < config.nodes) (other : n ≢ 255) (s : Shows config w h) where
  abbrev list : WaitList
  list = (w.nodes n).waiting

  abbrev tree : Tree
  tree = tree_now w.commits

  abbrev setting : Setting
  setting = setting_at (w.nodes n)

  opened_at : (view_of config w h).opened n ≡ list.opened
  opened_at = at_seat (λ m. (w.nodes m).waiting.opened) w.coord.asked n other

  pub waits_at : (c : WaitingCall) → IsIn c list.calls → WaitsAt h.call h.phase n c
  waits_at c m = each_in (WaitsAt h.call h.phase n) list.calls c (s.held n).waiters m

  fate_at : (c : WaitingCall) → IsIn c list.calls → IsFate setting tree c.call (fate setting c.call)
  fate_at c m = fate_now config w n h other s c (waits_at c m)

  -- the keys on which a call rests by its fate
  abbrev rests : CallRec → List Key
  rests call = rests_by tree call (fate setting call)

  -- a call that waited for nothing may rest on other keys
  abbrev pub crossed : ℕ → List Key
  crossed l = crossed_from (rests (h.call l)) (h.crossed l) (h.phase l)

  free_crossed : (l m : ℕ) → h.phase l ≡ Waits m None → rests (h.call l) ≡ crossed l
  free_crossed l m e = ap (crossed_from (rests (h.call l)) (h.crossed l)) (sym e)

  -- a call that was planned rests on the keys on which it did
  pub planned_crossed : (l m : ℕ) (x : BatchCall) → h.phase l ≡ Plans m x → h.crossed l ≡ crossed l
  planned_crossed l m x e = ap (crossed_from (rests (h.call l)) (h.crossed l)) (sym e)

  -- what holds of a free call and of the keys on which it rests holds of the lane's
  by_lane : (P : CallRec → List Key → Type 0) (c : WaitingCall) (l : ℕ) → IsIn c list.calls → c.fetch ≡ None → lane_of c ≡ l → P c.call (rests c.call) → P (h.call l) (crossed l)
  by_lane P c l m free lane is =
      let at = waits_at c m in
      let here : h.phase l ≡ Waits n None = ap h.phase (sym lane) ∙ at.0 ∙ ap (Waits n) free in
      subst (P (h.call l)) (free_crossed l n here) (subst (λ (z : CallRec). P z (rests z)) (at.1 ∙ ap h.call lane) is)

  module _ (after : WaitList) (opened : List PendingFetch) (batch : List BatchCall) (left : List Leaver) (g : IsGathered setting list after opened batch left) where
    abbrev pub phase : ℕ → Phase
    phase = listed n after.calls batch h.phase

    lanes : Apart lane_of list.calls
    lanes = (s.held n).waiters_apart

    -- a call that waits still waited before
    kept_was : (c : WaitingCall) → IsIn c after.calls → (was : WaitingCall) × (IsIn was list.calls × (c.call ≡ was.call))
    kept_was c m =
        let k = each_in (IsKept setting list opened) after.calls c g.kept m in
        (k.0, (k.1.0, bound_call setting opened k.0 c k.1.1))

    -- and waits as the lists say
    kept_held : (l : ℕ) → WaitsIn n after.calls l (phase l) → IsHeld n (h.phase l)
    kept_held l y =
        let was = kept_was y.0 y.1.0 in
        let lane : lane_of was.0 ≡ l = ap (λ (c : CallRec). c.id.client) (sym was.1.1) ∙ y.1.1 in
        subst (λ i. IsHeld n (h.phase i)) lane (subst (IsHeld n) (sym (waits_at was.0 was.1.0).0) refl)

    joined_held : (l : ℕ) → PlansIn n batch l (phase l) → IsHeld n (h.phase l)
    joined_held l y =
        let j = each_in (IsJoined setting list) batch y.0 g.joined y.1.0 in
        let lane : lane_of j.0 ≡ l = ap (λ (c : CallRec). c.id.client) (sym j.1.2) ∙ y.1.1 in
        subst (λ i. IsHeld n (h.phase i)) lane (subst (IsHeld n) (sym (waits_at j.0 j.1.0).0) refl)

    pub moves_at : MovesAt n h.phase phase
    moves_at l =
        ⊎_elim
        (λ same. inl same)
        (λ y. ⊎_elim
        (λ z. inr (held_for n (h.phase l) (kept_held l z), λ e. let wrong : Idle ≡ Waits n z.0.fetch = sym e ∙ z.1.2 in absurd (cc), subst AsksNone (sym z.1.2) tt))
        (λ z. inr (held_for n (h.phase l) (joined_held l z), λ e. let wrong : Idle ≡ Plans n z.0 = sym e ∙ z.1.2 in absurd (cc), subst AsksNone (sym z.1.2) tt))
        y)
        (listed_cases n after.calls batch h.phase l)

    -- ---- the new fetches

    old_below : (l number : ℕ) → h.phase l ≡ Waits n (Some number) → number < list.opened
    old_below l number e = subst (λ count. number < count) opened_at (s.good.asking.waits_drawn l n number e)

    numbers_apart : Apart (λ f. f.number) opened
    numbers_apart = apart_back (λ (f : PendingFetch). f.number) list.fetches opened (subst (Apart (λ (f : PendingFetch). f.number)) g.fetches g.tidy.apart)

    -- the walk of a call comes to a key, by keys on which the call rests
    abbrev pub ComesTo : CallRec → List Key → Key → Type 0
    ComesTo call keys key = Reaches tree call key × Crosses tree call key keys

    -- the key of a new fetch is not shut
    pub new_off : (f : PendingFetch) → IsIn f opened → IsShut (w.nodes n).locks.shut f.key → ⊥
    new_off f m =
        let a = each_in (IsAsked setting list.calls) opened f g.asked m in
        off_key (w.nodes n).locks.shut f.key (subst (IsFate setting tree a.0.call) a.1.2 (fate_at a.0 a.1.0)).3

    -- a free call that waits for a key comes to it
    waits_for_key : (c : WaitingCall) (key : Key) → IsIn c list.calls → fate setting c.call ≡ WaitsFor key → ComesTo c.call (rests c.call) key
    waits_for_key c key m is =
        let z = subst (IsFate setting tree c.call) is (fate_at c m) in
        subst (λ f. ComesTo c.call (rests_by tree c.call f) key) (sym is) (reaches_by tree c.call key z.0, crosses_by tree c.call key (rests_by tree c.call (WaitsFor key)) z.0 z.1)

    -- a call that waits on a new fetch was free, and its walk comes to the key
    kept_reach : (l : ℕ) (f : PendingFetch) → IsIn f opened → WaitsIn n after.calls l (Waits n (Some f.number)) → ComesTo (h.call l) (crossed l) f.key
    kept_reach l f m y =
        let c = y.0 in
        let k = each_in (IsKept setting list opened) after.calls c g.kept y.1.0 in
        let was = k.0 in
        let at = waits_at was k.1.0 in
        let fetch : Some f.number ≡ c.fetch = waits_same n n (Some f.number) c.fetch y.1.2 in
        ⊎_elim
        (λ e.
        let before : h.phase (lane_of was) ≡ Waits n (Some f.number) = at.0 ∙ ap (Waits n) (ap (λ (z : WaitingCall). z.fetch) (sym e) ∙ sym fetch) in
        let below = old_below (lane_of was) f.number before in
        let new = (each_in (λ (z : PendingFetch). (list.opened ≤ z.number) × (z.number < after.opened)) opened f g.new m).0 in
        absurd (omega arith))
        (λ e.
        let other = e.1.0 in
        let number : f.number ≡ other.number = same_Some f.number other.number (fetch ∙ ap (λ (z : WaitingCall). z.fetch) e.1.1.2) in
        let same : other ≡ f = apart_same (λ (z : PendingFetch). z.number) opened other f numbers_apart e.1.1.0 m (sym number) in
        let lane : lane_of was ≡ l = ap lane_of (sym e.1.1.2) ∙ y.1.1 in
        let reach : ComesTo was.call (rests was.call) f.key = waits_for_key was f.key k.1.0 (e.1.1.1 ∙ ap (λ (z : PendingFetch). WaitsFor z.key) same) in
        by_lane (λ call keys. ComesTo call keys f.key) was l k.1.0 e.0 lane reach)
        k.1.1

    -- who waits on a new fetch has come to its key
    pub reach_new : (l : ℕ) (f : PendingFetch) → IsIn f opened → phase l ≡ Waits n (Some f.number) → ComesTo (h.call l) (crossed l) f.key
    reach_new l f m e =
        let new = (each_in (λ (z : PendingFetch). (list.opened ≤ z.number) × (z.number < after.opened)) opened f g.new m).0 in
        ⊎_elim
        (λ same. let below = old_below l f.number (sym same ∙ e) in absurd (omega arith))
        (λ y. ⊎_elim
        (λ z. kept_reach l f m (z.0, (z.1.0, z.1.1, sym e ∙ z.1.2)))
        (λ z. let wrong : Waits n (Some f.number) ≡ Plans n z.0 = sym e ∙ z.1.2 in absurd (cc))
        y)
        (listed_cases n after.calls batch h.phase l)

    -- ---- each move is allowed

    abbrev risen : View
    risen = record (view_of config w h) { opened = put (view_of config w h).opened n after.opened }

    -- a free call rests on no shut key
    free_off : (c : WaitingCall) (l : ℕ) → IsIn c list.calls → c.fetch ≡ None → lane_of c ≡ l → IsClear risen n (crossed l)
    free_off c l m free lane =
        let off : AreOpen setting.shut (crossed l) = by_lane (λ call keys. AreOpen setting.shut keys) c l m free lane (rests_open setting tree c.call (fate setting c.call) (fate_at c m)) in
        λ key among. off_key (w.nodes n).locks.shut key (all_among (IsOpen setting.shut) (crossed l) key off among)

    waits_move : (l : ℕ) (q : Phase) → WaitsIn n after.calls l q → (q ≡ h.phase l) ⊎ MayMove config risen l (h.phase l) q (crossed l)
    waits_move l q y =
        let c = y.0 in
        let k = each_in (IsKept setting list opened) after.calls c g.kept y.1.0 in
        let was = k.0 in
        let at = waits_at was k.1.0 in
        ⊎_elim
        (λ e.
        let lane : lane_of was ≡ l = ap lane_of (sym e) ∙ y.1.1 in
        inl (y.1.2 ∙ ap (λ (z : WaitingCall). Waits n z.fetch) e ∙ sym at.0 ∙ ap h.phase lane))
        (λ e.
        let f = e.1.0 in
        let lane : lane_of was ≡ l = ap lane_of (sym e.1.1.2) ∙ y.1.1 in
        let is : q ≡ Waits n (Some f.number) = y.1.2 ∙ ap (λ (z : WaitingCall). Waits n z.fetch) e.1.1.2 in
        let held : IsHeld n (h.phase l) = subst (λ i. IsHeld n (h.phase i)) lane (subst (IsHeld n) (sym at.0) refl) in
        let new = each_in (λ (z : PendingFetch). (list.opened ≤ z.number) × (z.number < after.opened)) opened f g.new e.1.1.0 in
        inr (subst (λ p. MayMove config risen l (h.phase l) p (crossed l)) (sym is) (
          held,
          subst (λ m. f.number < m) (sym (put_same (view_of config w h).opened n after.opened)) new.1,
          λ j a at_place same. let below = subst (λ count. a.number < count) opened_at (s.good.asking.fetches n j a at_place).0 in let low = new.0 in absurd (omega arith),
          free_off was l k.1.0 e.0 lane,
        )))
        k.1.1

    -- the call is planned as that of a batch says, by the node's own table
    abbrev PlannedBy : CallRec → BatchCall → Type 0
    PlannedBy c x = IsPlanned setting.table tree setting.me c (rests c) (record { call = c; denied = x.denied; parent = x.parent; last = x.last })

    -- a free call that joins is planned as the tree says
    joins_as : (c : WaitingCall) (x : BatchCall) → IsIn c list.calls → (keys : List Key) → fate setting c.call ≡ Joins x.denied x.parent x.last keys → PlannedBy c.call x
    joins_as c x m keys is =
        let z = subst (IsFate setting tree c.call) is (fate_at c m) in
        subst (λ f. IsPlanned setting.table tree setting.me c.call (rests_by tree c.call f) (record { call = c.call; denied = x.denied; parent = x.parent; last = x.last })) (sym is) z.0

    -- and where it is not denied its last name is not blocked
    joins_free : (c : WaitingCall) (x : BatchCall) → IsIn c list.calls → (keys : List Key) → fate setting c.call ≡ Joins x.denied x.parent x.last keys → x.denied ≡ false → IsUnblocked setting x.last
    joins_free c x m keys is = (subst (IsFate setting tree c.call) is (fate_at c m)).3

    plans_move : (l : ℕ) (q : Phase) → PlansIn n batch l q → MayMove config risen l (h.phase l) q (crossed l)
    plans_move l q y =
        let x = y.0 in
        let j = each_in (IsJoined setting list) batch x g.joined y.1.0 in
        let at = waits_at j.0 j.1.0 in
        let lane : lane_of j.0 ≡ l = ap (λ (c : CallRec). c.id.client) (sym j.1.2) ∙ y.1.1 in
        let held : IsHeld n (h.phase l) = subst (λ i. IsHeld n (h.phase i)) lane (subst (IsHeld n) (sym at.0) refl) in
        let own : IsPlanned setting.table tree setting.me x.call (rests x.call) x = subst (λ (c : CallRec). PlannedBy c x) (sym j.1.2) (joins_as j.0 x j.1.0 j.1.3.0 j.1.3.1) in
        let free = joins_free j.0 x j.1.0 j.1.3.0 j.1.3.1 in
        let here : IsPlanned w.coord.table tree setting.me x.call (rests x.call) x =
        weaker (row_names x.call.op) _ _ (retabled setting.table w.coord.table tree setting.me x.call (rests x.call) x x.denied (λ ready. sym (owner_is config w n h there other s x.last (free ready)))) own in
        let planned : IsPlanned w.coord.table tree n j.0.call (rests j.0.call) x
        = subst (λ (c : CallRec). IsPlanned w.coord.table tree n c (rests c) x) j.1.2 (subst (λ m. IsPlanned w.coord.table tree m x.call (rests x.call) x) (s.placed n).number here) in
        subst (λ p. MayMove config risen l (h.phase l) p (crossed l)) (sym y.1.2)
        (held, there, by_lane (λ call keys. IsPlanned w.coord.table tree n call keys x) j.0 l j.1.0 j.1.1 lane planned, free_off j.0 l j.1.0 j.1.1 lane, λ ready. unbarred config w n h there other s x.last (free ready))

    -- the batch holds the keys on which a call that joins rests
    pub joined_keys : (keys : List Key) → Each (HasKeys setting keys) batch → (l : ℕ) (x : BatchCall) → IsIn x batch → planned_lane x ≡ l → (key : Key) → is_among key (crossed l) ≡ true → is_among key keys ≡ true
    joined_keys keys covered l x m lane =
        let j = each_in (IsJoined setting list) batch x g.joined m in
        let of : lane_of j.0 ≡ l = ap (λ (c : CallRec). c.id.client) (sym j.1.2) ∙ lane in
        let fate_is = j.1.3.1 in
        let own = (subst (IsFate setting tree j.0.call) fate_is (fate_at j.0 j.1.0)).2 in
        let all = each_in (HasKeys setting keys) batch x covered m j.1.3.0 (ap (λ (c : CallRec). fate setting c) j.1.2 ∙ fate_is) in
        by_lane (λ call ks. (key : Key) → is_among key ks ≡ true → is_among key keys ≡ true) j.0 l j.1.0 j.1.1 of
        (λ key among. all key (ap (is_among key) own ∙ ap (λ f. is_among key (rests_by tree j.0.call f)) (sym fate_is) ∙ among))

    still : (l : ℕ) → phase l ≡ h.phase l → ((phase l ≡ h.phase l) × (h.crossed l ≡ crossed l)) ⊎ MayMove config risen l (h.phase l) (phase l) (crossed l)
    still l same = still_moves config risen l (rests (h.call l)) (h.crossed l) (h.phase l) (phase l) same

    pub may_move : (l : ℕ) → ((phase l ≡ h.phase l) × (h.crossed l ≡ crossed l)) ⊎ MayMove config risen l (h.phase l) (phase l) (crossed l)
    may_move l =
        ⊎_elim
        (λ same. still l same)
        (λ y. ⊎_elim (λ z. ⊎_elim (λ same. still l same) (λ moves. inr moves) (waits_move l (phase l) z)) (λ z. inr (plans_move l (phase l) z)) y)
        (listed_cases n after.calls batch h.phase l)

    -- ---- the calls that leave

    -- each was free
    pub left_was : (y : Leaver) → IsIn y left → (was : WaitingCall) × (IsIn was list.calls × (was.fetch ≡ None) × (y.call ≡ was.call))
    left_was y m = let l = each_in (IsLeft setting list) left y g.gone m in (l.0, (l.1.0, l.1.1, l.1.3))

    pub left_free : (y : Leaver) → IsIn y left → h.phase (left_lane y) ≡ Waits n None
    left_free y m =
        let was = left_was y m in
        ap (λ (c : CallRec). h.phase c.id.client) was.1.2 ∙ (waits_at was.0 was.1.0).0 ∙ ap (Waits n) was.1.1

    -- and is so still
    pub left_waits : (y : Leaver) → IsIn y left → phase (left_lane y) ≡ Waits n None
    left_waits y m =
        ⊎_elim
        (λ same. same ∙ left_free y m)
        (λ z. ⊎_elim
        (λ c. absurd (each_in (λ v. left_lane v ≢ lane_of c.0) left y (each_in _ after.calls c.0 (g.left_apart lanes) c.1.0) m (sym c.1.1)))
        (λ x. absurd (each_in (λ v. left_lane v ≢ planned_lane x.0) left y (each_in _ batch x.0 (g.parted lanes) x.1.0) m (sym x.1.1)))
        z)
        (listed_cases n after.calls batch h.phase (left_lane y))

    -- ---- the calls that are kept

    row_call : (call : CallRec) (c : WaitingCall) → call ≡ c.call → IsTrue (is_some (row_names c.call.op)) → IsTrue (is_some (row_names call.op))
    row_call call c same is = subst (λ (k : CallRec). IsTrue (is_some (row_names k.op))) (sym same) is

    waiters : Each (WaitsAt h.call phase n) after.calls
    waiters =
        each_by _ after.calls (λ c m.
        let was = kept_was c m in
        (listed_waits n after.calls batch h.phase c (g.kept_apart lanes) m, was.1.1 ∙ (waits_at was.0 was.1.0).1 ∙ ap (λ (k : CallRec). h.call k.id.client) (sym was.1.1), (waits_at was.0 was.1.0).2, row_call c.call was.0 was.1.1 (waits_at was.0 was.1.0).3))

    new_planned : Each (PlannedAt h.call phase n) batch
    new_planned =
        each_by _ batch (λ x m.
        let j = each_in (IsJoined setting list) batch x g.joined m in
        let others = each_by (λ c. lane_of c ≢ planned_lane x) after.calls (λ c cm e. each_in (λ z. planned_lane z ≢ lane_of c) batch x (each_in _ after.calls c (g.both_apart lanes) cm) m (sym e)) in
        (listed_plans n after.calls batch h.phase x others (g.joined_apart lanes) m, j.1.2 ∙ (waits_at j.0 j.1.0).1 ∙ ap (λ (k : CallRec). h.call k.id.client) (sym j.1.2), row_call x.call j.0 j.1.2 (waits_at j.0 j.1.0).3))

    -- a planned call is none of those that waited
    not_waiting : (x : BatchCall) (c : WaitingCall) → PlannedAt h.call h.phase n x → IsIn c list.calls → lane_of c ≡ planned_lane x → ⊥
    not_waiting x c at m e = let wrong : Plans n x ≡ Waits n c.fetch = sym at.0 ∙ ap h.phase (sym e) ∙ (waits_at c m).0 in absurd (cc)

    old_planned : (xs : List BatchCall) → Each (PlannedAt h.call h.phase n) xs → Each (PlannedAt h.call phase n) xs
    old_planned xs at =
        each_weaker _ _ xs (λ x a. (
          ⊎_elim
              (λ same. same ∙ a.0)
              (λ y. ⊎_elim
              (λ z. let was = kept_was z.0 z.1.0 in absurd (not_waiting x was.0 a was.1.0 (ap (λ (k : CallRec). k.id.client) (sym was.1.1) ∙ z.1.1)))
              (λ z. let j = each_in (IsJoined setting list) batch z.0 g.joined z.1.0 in absurd (not_waiting x j.0 a j.1.0 (ap (λ (k : CallRec). k.id.client) (sym j.1.2) ∙ z.1.1)))
              y)
              (listed_cases n after.calls batch h.phase (planned_lane x)),
          a.1,
          a.2,
        )) at

    pub held_after : Held h.call phase n after.calls (calls_in (w.nodes n).batches ++ batch)
    held_after = record {
      waiters = waiters;
      planned = each_join (PlannedAt h.call phase n) (calls_in (w.nodes n).batches) batch (old_planned (calls_in (w.nodes n).batches) (s.held n).planned) new_planned;
      waiters_apart = g.kept_apart lanes;
      planned_apart = apart_join planned_lane (calls_in (w.nodes n).batches) batch
          (each_weaker _ _ (calls_in (w.nodes n).batches) (λ x a. each_by (λ y. planned_lane y ≢ planned_lane x) batch (λ y m e.
          let j = each_in (IsJoined setting list) batch y g.joined m in
          not_waiting x j.0 a j.1.0 (ap (λ (k : CallRec). k.id.client) (sym j.1.2) ∙ e)))
          (s.held n).planned)
          (s.held n).planned_apart (g.joined_apart lanes);
    }
