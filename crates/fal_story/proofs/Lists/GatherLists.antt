-- A node goes through its free waiting calls: what its list and its fetches are after that, what the new batch is, and which calls leave.
use Rattle.std.proofs.Common.{◌≡◌, ◌≢◌, ◌⊎◌, inl, inr, ⊎_elim, ℕ, ◌+◌, ◌<◌, ◌≤◌, ◌==◌, Bool, true, false, not, ◌||◌, cond, List, [], ◌∷◌, ◌++◌, length, map, filter, filter_map, Option, Some, None, is_none, refl, sym, ap, subst, ◌∙◌, eq-eqb, arith}
use Rattle.std.specs.List.{list_any}
use Rattle.fal_base.specs.declared.call.CallRec.{CallRec}
use Rattle.fal_base.specs.declared.key.Key.{Key}
use Rattle.fal_base.specs.Tree.{same_key}
use Rattle.fal_base.proofs.Maps.{same_key_is}
use Rattle.fal_batch.specs.declared.parts.Away.{Away}
use Rattle.fal_batch.specs.declared.parts.Planned.{Planned}
use Rattle.fal_batch.specs.declared.parts.Wanted.{Wanted}
use Rattle.fal_batch.specs.Fate.{Setting, Leaves, Waits, Joins, fate}
use Rattle.fal_batch.specs.Keys.{are_distinct}
use Rattle.fal_batch.specs.Plan.{Planning, no_plan, plan_of, free_calls, waits_for, waiters_of, tickets_differ}
use Rattle.fal_batch.proofs.FreeCalls.{free_of, free_calls_are}
use Rattle.fal_batch.proofs.KeyLists.{same_turned}
use Rattle.fal_batch.proofs.Shared.{shared_of}
use Rattle.fal_batch.proofs.Truth.{both, both_first, both_second, neither_first, neither_second, not_true}
use Rattle.fal_dentry.specs.Walk.{is_among}
use Rattle.fal_run.specs.declared.call.BatchCall.{BatchCall}
use Rattle.fal_node.specs.Deliver.{without_calls}
use Rattle.fal_node.specs.Gather.{setting_at, plan_at, with_fetches, leaving, batch_call, batch_calls}
use Rattle.fal_node.specs.State.{NodeState}
use Rattle.fal_wait.specs.declared.pending_fetch.PendingFetch.{PendingFetch}
use Rattle.fal_wait.specs.declared.waiting_call.WaitingCall.{WaitingCall}
use Rattle.fal_wait.specs.Lists.{has_number}
use Rattle.fal_wait.specs.Waiting.{WaitList, call_with_ticket}
use Rattle.fal_story.proofs.Events.Shows.{IsTidy, lane_of, planned_lane}
use Rattle.fal_story.proofs.Lists.Each.{Each, Apart, each_weaker, each_both}
use Rattle.fal_story.proofs.Lists.GatherPlan.{asked_of, away_of, IsGoing, going_calls, IsJoining, Joining, joining_calls, apart_calls, IsLeaving, Leaving, leaving_calls, apart_away}
use Rattle.fal_story.proofs.Lists.Grown.{or_second, tells, unequal}
use Rattle.fal_story.proofs.Lists.MadeLists.{made_of, made, each_made, apart_made, in_made}
use Rattle.fal_story.proofs.Lists.Members.{IsIn, in_back, in_front, in_join, in_map, map_in, in_filter, each_in, each_by, each_all, each_map, each_filter, apart_map, apart_as, apart_filter, apart_same, filter_filter}
use Rattle.fal_story.proofs.Lists.OpenedFetches.{IsAsked, each_asked, is_waiting, bound_all, pending_of, ticket_bound_all, call_bound_all, none_free, IsBound, bound_cases, IsWanting, keys_of, with_fetches_is, tidy_opens}
use Rattle.fal_story.proofs.Lists.WaitLists.{tickets_of, rising_apart, withouts_are, tidy_withouts}

-- ---- the plan of a tidy list

no_other : (w : WaitingCall) (ws : List WaitingCall) → Each (λ v. v.ticket ≢ w.ticket) ws → list_any (λ v. v.ticket == w.ticket) ws ≡ false
no_other w [] h = refl
no_other w (v ∷ ws) h = ap (λ b. b || list_any (λ x. x.ticket == w.ticket) ws) (unequal v.ticket w.ticket h.0) ∙ no_other w ws h.1

-- no two calls of a list have one ticket
pub tickets_apart : (ws : List WaitingCall) → Apart (λ w. w.ticket) ws → tickets_differ ws ≡ true
tickets_apart [] h = refl
tickets_apart (w ∷ ws) h = both (not (list_any (λ v. v.ticket == w.ticket) ws)) (tickets_differ ws) (ap not (no_other w ws h.0)) (tickets_apart ws h.1)

others_differ : (key : Key) (ws : List Wanted) → is_among key (keys_of ws) ≡ false → Each (λ v. same_key key v.key ≡ false) ws
others_differ key [] h = tt
others_differ key (w ∷ ws) h = (same_turned key w.key ∙ neither_first (same_key w.key key) (is_among key (keys_of ws)) h, others_differ key ws (neither_second (same_key w.key key) (is_among key (keys_of ws)) h))

own_waiters : (fetches : List Wanted) → are_distinct (keys_of fetches) ≡ true → Each (λ wanted. waiters_of fetches wanted.key ≡ wanted.waiters) fetches
own_waiters [] h = tt
own_waiters (w ∷ ws) h =
    let alone = not_true (is_among w.key (keys_of ws)) (both_first (not (is_among w.key (keys_of ws))) (are_distinct (keys_of ws)) h) in
    let rest = own_waiters ws (both_second (not (is_among w.key (keys_of ws))) (are_distinct (keys_of ws)) h) in (
      ap (λ b. cond b w.waiters (waiters_of ws w.key)) ((same_key_is w.key w.key).1 refl),
      each_both _ _ _ ws (λ v is apart. ap (λ b. cond b w.waiters (waiters_of ws v.key)) apart ∙ is) rest (others_differ w.key ws alone),
    )

-- ---- tickets

has_in : (ts : List ℕ) (t : ℕ) → has_number ts t ≡ true → IsIn t ts
has_in [] t h = absurd (cc)
has_in (u ∷ us) t h =
    ⊎_elim
    (λ e. inl e.1)
    (λ e. inr (has_in us t (sym (ap (λ b. b || has_number us t) e.0) ∙ h)))
    (tells u t)

in_has : (ts : List ℕ) (t : ℕ) → IsIn t ts → has_number ts t ≡ true
in_has [] t m = absurd m
in_has (u ∷ us) t m =
    ⊎_elim
    (λ e. ap (λ b. b || has_number us t) (eq-eqb u t e))
    (λ r. or_second (u == t) (has_number us t) (in_has us t r))
    m

-- ---- the batch, and the calls that leave

abbrev pub call_with : CallRec → Planned → BatchCall
call_with call x = record { call = call; denied = x.denied; parent = x.parent; last = x.last }

-- a call that leaves, to a node or to its client
pub record Leaver : Type 0 where
  pub ticket : ℕ
  pub call : CallRec
  pub to : Option ℕ

abbrev pub left_lane : Leaver → ℕ
left_lane y = y.call.id.client

abbrev pub leaver_with : CallRec → Away → Leaver
leaver_with call a = record { ticket = a.ticket; call = call; to = a.to }

-- the calls that leave with their records
abbrev pub leavers : WaitList → List Away → List Leaver
leavers list aways = made leaver_with (λ a. a.ticket) list aways

pub batch_is : (list : WaitList) (xs : List Planned) → batch_calls list xs ≡ made call_with (λ x. x.ticket) list xs
batch_is list [] = refl
batch_is list (x ∷ xs) =
    elim (call_with_ticket list x.ticket) as (λ o. batch_call o x ++ batch_calls list xs ≡ made_of call_with o x ++ made call_with (λ y. y.ticket) list xs) [
      | None ↦ batch_is list xs
      | Some call ↦ ap (λ ys. call_with call x ∷ ys) (batch_is list xs)
    ]

-- ---- what comes of it

-- the call waits as it did, or was free and waits on one of the new fetches
abbrev pub IsKept : Setting → WaitList → List PendingFetch → WaitingCall → Type 0
IsKept s list fetches w = (was : WaitingCall) × (IsIn was list.calls × IsBound s fetches was w)

-- the call was free, and joins the batch
abbrev pub IsJoined : Setting → WaitList → BatchCall → Type 0
IsJoined s list x = (w : WaitingCall) × (IsIn w list.calls × (w.fetch ≡ None) × (x.call ≡ w.call) × ((keys : List Key) × (fate s w.call ≡ Joins x.denied x.parent x.last keys)))

-- the call was free, and leaves
abbrev pub IsLeft : Setting → WaitList → Leaver → Type 0
IsLeft s list y = (w : WaitingCall) × (IsIn w list.calls × (w.fetch ≡ None) × (y.ticket ≡ w.ticket) × (y.call ≡ w.call) × (fate s w.call ≡ Leaves y.to))

-- a call of the list waits still, or joins the batch, or leaves
abbrev pub IsMet : Setting → List PendingFetch → List WaitingCall → List BatchCall → List Leaver → WaitingCall → Type 0
IsMet s opened after batch left w =
    ((y : WaitingCall) × (IsIn y after × IsBound s opened w y)) ⊎ (((x : BatchCall) × (IsIn x batch × (x.call ≡ w.call))) ⊎ ((y : Leaver) × (IsIn y left × (y.ticket ≡ w.ticket) × (y.call ≡ w.call))))

-- from this list, with these fetches opened, this list is left, these calls join the batch and these leave
pub record IsGathered (s : Setting) (list after : WaitList) (opened : List PendingFetch) (batch : List BatchCall) (left : List Leaver) : Type 0 where
  pub fetches : after.fetches ≡ list.fetches ++ opened
  pub last : after.last ≡ list.last
  pub below : list.opened ≤ after.opened
  pub new : Each (λ f. (list.opened ≤ f.number) × (f.number < after.opened)) opened
  pub asked : Each (IsAsked s list.calls) opened
  pub tidy : IsTidy after
  pub kept : Each (IsKept s list opened) after.calls
  pub joined : Each (IsJoined s list) batch
  pub gone : Each (IsLeft s list) left
  -- each is in one place, by its lane
  pub all : Each (IsMet s opened after.calls batch left) list.calls
  pub kept_apart : Apart lane_of list.calls → Apart lane_of after.calls
  pub joined_apart : Apart lane_of list.calls → Apart planned_lane batch
  pub gone_apart : Apart lane_of list.calls → Apart left_lane left
  pub both_apart : Apart lane_of list.calls → Each (λ w. Each (λ x. planned_lane x ≢ lane_of w) batch) after.calls
  pub left_apart : Apart lane_of list.calls → Each (λ w. Each (λ y. left_lane y ≢ lane_of w) left) after.calls
  pub parted : Apart lane_of list.calls → Each (λ x. Each (λ y. left_lane y ≢ planned_lane x) left) batch

new_numbers : (number : ℕ) (fetches : List Wanted) → Each (λ f. (number ≤ f.number) × (f.number < number + length fetches)) (pending_of number fetches)
new_numbers number [] = tt
new_numbers number (wanted ∷ fetches) =
    ((omega arith, omega arith), each_weaker _ _ (pending_of (number + 1) fetches) (λ f is. (let low = is.0 in omega arith, let high = is.1 in omega arith)) (new_numbers (number + 1) fetches))

module _ (s : Setting) (list : WaitList) (t : IsTidy list) where
  abbrev plan : Planning
  plan = plan_of s list

  pub apart : Apart (λ w. w.ticket) list.calls
  apart = rising_apart list.calls list.tickets t.tickets

  free_are : free_calls list ≡ free_of list.calls
  free_are = free_calls_are list (tickets_apart list.calls apart)

  -- each free call is one of the list
  free_in : Each (λ w. IsIn w list.calls × (w.fetch ≡ None)) (free_calls list)
  free_in =
      subst (Each (λ w. IsIn w list.calls × (w.fetch ≡ None))) (sym free_are)
      (each_filter (λ w. IsIn w list.calls × (w.fetch ≡ None)) (λ w. is_none w.fetch) list.calls (each_by _ list.calls (λ w m is. (m, (none_free true w.fetch (both (is_none w.fetch) true is refl)).0))))

  free_apart : Apart (λ w. w.ticket) (free_calls list)
  free_apart = subst (Apart (λ w. w.ticket)) (sym free_are) (apart_filter (λ (w : WaitingCall). w.ticket) (λ w. is_none w.fetch) list.calls apart)

  going : IsGoing plan
  going = going_calls s no_plan (free_calls list) (record { asked = refl; away = refl; some = tt })

  pub joining : Each (Joining s list.calls) plan.calls
  joining = joining_calls s list.calls no_plan (free_calls list) free_in tt

  pub departing : Each (Leaving s list.calls) plan.away
  departing = leaving_calls s list.calls no_plan (free_calls list) free_in tt

  planned_apart : Apart (λ x. x.ticket) plan.calls
  planned_apart = apart_calls s no_plan (free_calls list) (each_all _ (free_calls list) (λ w. tt)) free_apart tt

  away_apart : Apart (λ a. a.ticket) plan.away
  away_apart = apart_away s no_plan (free_calls list) (each_all _ (free_calls list) (λ w. tt)) free_apart tt

  distinct : are_distinct (keys_of plan.fetches) ≡ true
  distinct = (shared_of s list).one

  wanting : Each (IsWanting s list.calls) plan.fetches
  wanting =
      each_both _ _ _ plan.fetches (λ wanted own some. (sym own ∙ waiters wanted.key, some)) (own_waiters plan.fetches distinct) going.some
    where
      waiters : (key : Key) → waiters_of plan.fetches key ≡ tickets_of (filter (λ w. is_waiting s key w) list.calls)
      waiters key =
          (shared_of s list).waiters key ∙ ap (λ ws. tickets_of (filter (λ w. waits_for s key w.call) ws)) free_are
          ∙ ap tickets_of (filter_filter (λ w. is_none w.fetch) (λ w. waits_for s key w.call) (λ w. is_waiting s key w) list.calls (each_all _ list.calls (λ w. refl)))

  all_opened : with_fetches list plan.fetches ≡ record list {
    calls = map (λ w. bound_all s list.opened plan.fetches w) list.calls;
    fetches = list.fetches ++ pending_of list.opened plan.fetches;
    opened = list.opened + length plan.fetches;
  }
  all_opened = with_fetches_is s list plan.fetches apart distinct wanting

  opened_tidy : IsTidy (with_fetches list plan.fetches)
  opened_tidy = tidy_opens s list plan.fetches t distinct wanting

  abbrev stays : WaitingCall → Bool
  stays w = not (has_number (leaving plan) w.ticket)

  abbrev after : WaitList
  after = without_calls (with_fetches list plan.fetches) (leaving plan)

  after_is : after ≡ record list {
    calls = filter (λ w. stays w) (map (λ w. bound_all s list.opened plan.fetches w) list.calls);
    fetches = list.fetches ++ pending_of list.opened plan.fetches;
    opened = list.opened + length plan.fetches;
  }
  after_is =
      withouts_are (with_fetches list plan.fetches) (leaving plan) (rising_apart (with_fetches list plan.fetches).calls (with_fetches list plan.fetches).tickets opened_tidy.tickets)
      ∙ (λ i. record (all_opened i) { calls = filter (λ w. stays w) (all_opened i).calls })

  -- a call that does not stay was free, and joins or leaves
  leaver : (w : WaitingCall) → IsIn w list.calls → has_number (leaving plan) w.ticket ≡ true
      → ((x : Planned) × (IsIn x plan.calls × (w.fetch ≡ None) × IsJoining s w x)) ⊎ ((a : Away) × (IsIn a plan.away × (w.fetch ≡ None) × IsLeaving s w a))
  leaver w m among =
      ⊎_elim
      (λ e.
      let a = map_in (λ (a : Away). a.ticket) plan.away w.ticket e in
      let j = each_in (Leaving s list.calls) plan.away a.0 departing a.1.0 in
      let same : j.0 ≡ w = apart_same (λ (v : WaitingCall). v.ticket) list.calls j.0 w apart j.1.0 m (j.1.2.0 ∙ a.1.1) in
      inr (subst (λ v. (a : Away) × (IsIn a plan.away × (v.fetch ≡ None) × IsLeaving s v a)) same (a.0, (a.1.0, j.1.1, j.1.2))))
      (λ e.
      let x = map_in (λ (x : Planned). x.ticket) plan.calls w.ticket e in
      let j = each_in (Joining s list.calls) plan.calls x.0 joining x.1.0 in
      let same : j.0 ≡ w = apart_same (λ (v : WaitingCall). v.ticket) list.calls j.0 w apart j.1.0 m (j.1.2.0 ∙ x.1.1) in
      inl (subst (λ v. (x : Planned) × (IsIn x plan.calls × (v.fetch ≡ None) × IsJoining s v x)) same (x.0, (x.1.0, j.1.1, j.1.2))))
      (in_join (map (λ (a : Away). a.ticket) plan.away) (map (λ (x : Planned). x.ticket) plan.calls) w.ticket (has_in (leaving plan) w.ticket among))

  planned_leaves : (x : Planned) → IsIn x plan.calls → has_number (leaving plan) x.ticket ≡ true
  planned_leaves x m =
      in_has (leaving plan) x.ticket (in_back (map (λ (a : Away). a.ticket) plan.away) (map (λ (y : Planned). y.ticket) plan.calls) x.ticket (in_map (λ (y : Planned). y.ticket) plan.calls x m))

  away_leaves : (a : Away) → IsIn a plan.away → has_number (leaving plan) a.ticket ≡ true
  away_leaves a m =
      in_has (leaving plan) a.ticket (in_front (map (λ (b : Away). b.ticket) plan.away) (map (λ (y : Planned). y.ticket) plan.calls) a.ticket (in_map (λ (b : Away). b.ticket) plan.away a m))

  -- and waits on no new fetch
  leaver_free : (w : WaitingCall) → IsIn w list.calls → has_number (leaving plan) w.ticket ≡ true → (w.fetch ≡ None) × ((key : Key) → fate s w.call ≡ Waits key → ⊥)
  leaver_free w m among =
      ⊎_elim {C = (w.fetch ≡ None) × ((key : Key) → fate s w.call ≡ Waits key → ⊥)}
      (λ x. (x.1.1, λ key is. let wrong : Waits key ≡ Joins x.0.denied x.0.parent x.0.last x.1.2.1.0 = sym is ∙ x.1.2.1.1 in absurd (cc)))
      (λ a. (a.1.1, λ key is. let wrong : Waits key ≡ Leaves a.0.to = sym is ∙ a.1.2.1 in absurd (cc)))
      (leaver w m among)

  tidy_after : IsTidy after
  tidy_after =
      tidy_withouts (with_fetches list plan.fetches) (leaving plan) opened_tidy
      (subst (λ (l : WaitList). Each (λ w. has_number (leaving plan) w.ticket ≡ true → w.fetch ≡ None) l.calls) (sym all_opened)
      (each_map (λ (w : WaitingCall). has_number (leaving plan) w.ticket ≡ true → w.fetch ≡ None) (λ w. bound_all s list.opened plan.fetches w) list.calls
      (each_by _ list.calls (λ w m among.
      let l = leaver_free w m (ap (has_number (leaving plan)) (sym (ticket_bound_all s list.opened plan.fetches w)) ∙ among) in
      ⊎_elim
      (λ e. ap (λ (v : WaitingCall). v.fetch) e ∙ l.0)
      (λ e. absurd (l.1 e.1.0.key e.1.1.1))
      (bound_cases s list.opened plan.fetches w)))))

  -- what holds of each call that stays, as it waits then
  each_after : (Q : WaitingCall → Type 0) → ((w : WaitingCall) → IsIn w list.calls → has_number (leaving plan) w.ticket ≡ false → Q (bound_all s list.opened plan.fetches w)) → Each Q after.calls
  each_after Q f =
      subst (λ (l : WaitList). Each Q l.calls) (sym after_is)
      (each_filter Q (λ w. stays w) (map (λ w. bound_all s list.opened plan.fetches w) list.calls)
      (each_map (λ w. stays w ≡ true → Q w) (λ w. bound_all s list.opened plan.fetches w) list.calls
      (each_by _ list.calls (λ w m is. f w m (ap (has_number (leaving plan)) (sym (ticket_bound_all s list.opened plan.fetches w)) ∙ not_true (has_number (leaving plan) (bound_all s list.opened plan.fetches w).ticket) is)))))

  stays_in : (w : WaitingCall) → IsIn w list.calls → has_number (leaving plan) w.ticket ≡ false → IsIn (bound_all s list.opened plan.fetches w) after.calls
  stays_in w m is =
      subst (λ (l : WaitList). IsIn (bound_all s list.opened plan.fetches w) l.calls) (sym after_is)
      (in_filter (λ v. stays v) (map (λ v. bound_all s list.opened plan.fetches v) list.calls) (bound_all s list.opened plan.fetches w) (in_map (λ v. bound_all s list.opened plan.fetches v) list.calls w m)
      (ap (λ n. not (has_number (leaving plan) n)) (ticket_bound_all s list.opened plan.fetches w) ∙ ap not is))

  abbrev batch : List BatchCall
  batch = made call_with (λ x. x.ticket) list plan.calls

  abbrev left : List Leaver
  left = leavers list plan.away

  -- what holds of each planned call, and of each that leaves, with its record
  each_joined : (Q : BatchCall → Type 0) → ((w : WaitingCall) (x : Planned) → IsIn w list.calls → w.fetch ≡ None → IsJoining s w x → has_number (leaving plan) x.ticket ≡ true → Q (call_with w.call x)) → Each Q batch
  each_joined Q holds = each_made call_with (λ x. x.ticket) (IsJoining s) (λ w x is. is.0) list apart (λ x. has_number (leaving plan) x.ticket ≡ true) Q holds plan.calls joining (each_by _ plan.calls planned_leaves)

  each_left : (Q : Leaver → Type 0) → ((w : WaitingCall) (a : Away) → IsIn w list.calls → w.fetch ≡ None → IsLeaving s w a → has_number (leaving plan) a.ticket ≡ true → Q (leaver_with w.call a)) → Each Q left
  each_left Q holds = each_made leaver_with (λ a. a.ticket) (IsLeaving s) (λ w a is. is.0) list apart (λ a. has_number (leaving plan) a.ticket ≡ true) Q holds plan.away departing (each_by _ plan.away away_leaves)

  met : (w : WaitingCall) → IsIn w list.calls → IsMet s (pending_of list.opened plan.fetches) after.calls batch left w
  met w m =
      elim (has_number (leaving plan) w.ticket) as (λ b. has_number (leaving plan) w.ticket ≡ b → IsMet s (pending_of list.opened plan.fetches) after.calls batch left w) [
        | true ↦ λ is. ⊎_elim
            (λ x. inr (inl (call_with w.call x.0, (in_made call_with (λ x. x.ticket) (IsJoining s) (λ w x is. is.0) list apart plan.calls x.0 x.1.0 w m x.1.2.0, refl))))
            (λ a. inr (inr (leaver_with w.call a.0, (in_made leaver_with (λ a. a.ticket) (IsLeaving s) (λ w a is. is.0) list apart plan.away a.0 a.1.0 w m a.1.2.0, sym a.1.2.0, refl))))
            (leaver w m is)
        | false ↦ λ is. inl (bound_all s list.opened plan.fetches w, (stays_in w m is, bound_cases s list.opened plan.fetches w))
      ] refl

  -- a call whose ticket leaves is none that stays
  not_staying : (v w : WaitingCall) (ticket : ℕ) → has_number (leaving plan) ticket ≡ true → has_number (leaving plan) w.ticket ≡ false → v.ticket ≡ ticket → v ≢ w
  not_staying v w ticket among stay is same =
      let wrong : true ≡ false = sym among ∙ ap (has_number (leaving plan)) (sym is ∙ ap (λ (z : WaitingCall). z.ticket) same) ∙ stay in
      absurd (cc)

  lane_bound : (w : WaitingCall) → lane_of (bound_all s list.opened plan.fetches w) ≡ lane_of w
  lane_bound w = ap (λ (c : CallRec). c.id.client) (call_bound_all s list.opened plan.fetches w)

  gathered_made : IsGathered s list after (pending_of list.opened plan.fetches) batch left
  gathered_made = record {
    fetches = ap (λ (l : WaitList). l.fetches) after_is;
    last = ap (λ (l : WaitList). l.last) after_is;
    below = subst (λ n. list.opened ≤ n) (sym (ap (λ (l : WaitList). l.opened) after_is)) (omega arith);
    new = subst (λ n. Each (λ f. (list.opened ≤ f.number) × (f.number < n)) (pending_of list.opened plan.fetches)) (sym (ap (λ (l : WaitList). l.opened) after_is)) (new_numbers list.opened plan.fetches);
    asked = each_asked s list.calls list.opened plan.fetches wanting;
    tidy = tidy_after;
    kept = each_after (IsKept s list (pending_of list.opened plan.fetches)) (λ w m _. (w, (m, bound_cases s list.opened plan.fetches w)));
    joined = each_joined (IsJoined s list) (λ w x m free j _. (w, (m, free, refl, j.1)));
    gone = each_left (IsLeft s list) (λ w a m free l _. (w, (m, free, sym l.0, refl, l.1)));
    all = each_by _ list.calls met;
    kept_apart = λ lanes.
        subst (λ (l : WaitList). Apart lane_of l.calls) (sym after_is)
        (apart_filter lane_of (λ w. stays w) (map (λ w. bound_all s list.opened plan.fetches w) list.calls)
        (apart_map lane_of (λ w. bound_all s list.opened plan.fetches w) list.calls (apart_as lane_of (λ w. lane_of (bound_all s list.opened plan.fetches w)) list.calls (λ w. sym (lane_bound w)) lanes)));
    joined_apart = λ lanes. apart_made call_with (λ x. x.ticket) (IsJoining s) (λ w x is. is.0) list apart planned_lane (λ c x. refl) lanes plan.calls planned_apart joining;
    gone_apart = λ lanes. apart_made leaver_with (λ a. a.ticket) (IsLeaving s) (λ w a is. is.0) list apart left_lane (λ c a. refl) lanes plan.away away_apart departing;
    both_apart = λ lanes. each_after (λ w. Each (λ x. planned_lane x ≢ lane_of w) batch) (λ w m stay.
        each_joined (λ x. planned_lane x ≢ lane_of (bound_all s list.opened plan.fetches w)) (λ v x vm free j among same.
        not_staying v w x.ticket among stay j.0 (apart_same lane_of list.calls v w lanes vm m (same ∙ lane_bound w))));
    left_apart = λ lanes. each_after (λ w. Each (λ y. left_lane y ≢ lane_of w) left) (λ w m stay.
        each_left (λ y. left_lane y ≢ lane_of (bound_all s list.opened plan.fetches w)) (λ v a vm free l among same.
        not_staying v w a.ticket among stay l.0 (apart_same lane_of list.calls v w lanes vm m (same ∙ lane_bound w))));
    parted = λ lanes. each_joined (λ x. Each (λ y. left_lane y ≢ planned_lane x) left) (λ w x m free j _.
        each_left (λ y. left_lane y ≢ planned_lane (call_with w.call x)) (λ v a vm _ l _ same.
        let one : v ≡ w = apart_same lane_of list.calls v w lanes vm m same in
        let wrong : Joins x.denied x.parent x.last j.1.0 ≡ Leaves a.to = sym j.1.1 ∙ ap (λ (z : WaitingCall). fate s z.call) (sym one) ∙ l.1 in
        absurd (cc)));
  }

  pub gathered_list : IsGathered s list after (pending_of list.opened plan.fetches) (batch_calls list plan.calls) left
  gathered_list = subst (λ xs. IsGathered s list after (pending_of list.opened plan.fetches) xs left) (sym (batch_is list plan.calls)) gathered_made

  pub asked_are : filter_map asked_of plan.sends ≡ keys_of plan.fetches
  asked_are = going.asked

  pub away_are : filter_map away_of plan.sends ≡ plan.away
  away_are = going.away

-- ---- a node

-- the node's list, its fetches, the calls of its batch and those that leave when it has gathered
pub gathered_node : (node : NodeState) → IsTidy node.waiting
    → IsGathered (setting_at node) node.waiting (without_calls (with_fetches node.waiting (plan_at node).fetches) (leaving (plan_at node)))
    (pending_of node.waiting.opened (plan_at node).fetches) (batch_calls node.waiting (plan_at node).calls) (leavers node.waiting (plan_at node).away)
unfolding plan_at
gathered_node node t = gathered_list (setting_at node) node.waiting t
