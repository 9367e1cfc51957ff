-- A node that gathers its free calls keeps to the ranges.
use Rattle.std.proofs.Common.{◌≡◌, ℕ, suc, ◌+◌, ◌<◌, ◌≤◌, ◌^◌, nat_lt, true, false, cond, List, [], ◌∷◌, ◌++◌, length, filter, Option, Some, None, is_none, refl, ap, subst, ◌∙◌, arith, sym}
use Rattle.std.specs.List.{filter_map, cons_option}
use Rattle.std.specs.Option.{option_map}
use Rattle.std.proofs.lemmas.Bool.Decides.{nat_tests}
use Rattle.std.proofs.lemmas.List.{length-append, length-map}
use Rattle.std.proofs.lemmas.Option.{same_Some}
use Rattle.fal_base.specs.declared.call.CallRec.{CallRec}
use Rattle.fal_base.specs.declared.key.Key.{Key}
use Rattle.fal_base.specs.Tree.{same_key}
use Rattle.fal_batch.specs.declared.parts.Planned.{Planned}
use Rattle.fal_batch.specs.declared.parts.Sending.{Sending}
use Rattle.fal_batch.specs.declared.parts.Sending.TheVariants as sending
use Rattle.fal_batch.specs.declared.parts.Wanted.{Wanted}
use Rattle.fal_batch.specs.Fate.{Setting, Fate, Skips, Leaves, Waits, Joins, fate}
use Rattle.fal_batch.specs.Plan.{Planning, no_plan, with_wait, with_planned, with_waiter, is_wanted, after_fate, plan_one, plan_calls, plan_of, is_idle, free_call, free_calls, with_away}
use Rattle.fal_run.specs.declared.call.BatchCall.{BatchCall}
use Rattle.fal_node.specs.declared.event.NodeEvent.TheVariants.{Gather}
use Rattle.fal_wire.specs.declared.letter.Letter.{Letter}
use Rattle.fal_node.specs.Gather.{setting_at, plan_at, gather_letters, leaving, batch_call, batch_calls, with_fetches, with_waiting, batched, with_batch, gathered, away_letter, away_letters}
use Rattle.fal_node.specs.Letters.{Work}
use Rattle.fal_node.specs.State.{NodeState}
use Rattle.fal_node.specs.Step.{node_step}
use Rattle.fal_place.specs.Placement.{changes_since}
use Rattle.fal_wait.specs.declared.waiting_call.WaitingCall.{WaitingCall}
use Rattle.fal_wait.specs.Waiting.{WaitList, free_tickets, call_with_ticket}
use Rattle.fal_wire.specs.Names.{key_field}
use Rattle.fal_story.proofs.Lists.Each.{Each, each_join, each_both, each_weaker}
use Rattle.fal_story.proofs.Ranges.Bounds.{CallFits, IsNodeRanged, IsNodeCounted}
use Rattle.fal_story.proofs.Ranges.Counters.{withouts_same, opens_count}
use Rattle.fal_story.proofs.Ranges.FateRanges.{FateFits, fate_fits}
use Rattle.fal_story.proofs.Ranges.MessageRanges.{ask_fits, asker_fits, call_fits, id_of_call, passed_fits}
use Rattle.fal_story.proofs.Ranges.NodeRanges.{IsStart, KeepsRanges, LetterFits, within, counted_more, IsTableRanged}
use Rattle.fal_story.proofs.Ranges.RowCounts.{fewer_kept}
use Rattle.fal_story.proofs.Ranges.WaitRanges.{WaitersFit, fit_withouts, fit_opens, waiter_of, waiter_has}
use Rattle.fal_story.proofs.Ranges.StaleRecords.{since_fits, stale_fits}
use Rattle.fal_run.specs.Letters.{passed_on}

-- ---- the free calls

fewer_mapped : {A B : Type 0} (f : A → Option B) (xs : List A) → length (filter_map f xs) ≤ length xs
fewer_mapped {A} {B} f [] = omega arith
fewer_mapped {A} {B} f (x ∷ xs) =
    let h = fewer_mapped f xs in
    elim (f x) as (λ (o : Option B). length (cons_option o (filter_map f xs)) ≤ suc (length xs)) [ None ↦ omega arith | Some y ↦ omega arith ]

each_mapped : {A B : Type 0} (P : B → Type 0) (f : A → Option B) (xs : List A) → ((x : A) (y : B) → f x ≡ Some y → P y) → Each P (filter_map f xs)
each_mapped {A} {B} P f [] h = tt
each_mapped {A} {B} P f (x ∷ xs) h =
    let rest = each_mapped P f xs h in
    elim (f x) as (λ (o : Option B). f x ≡ o → Each P (cons_option o (filter_map f xs))) [ None ↦ λ _. rest | Some y ↦ λ is. (h x y is, rest) ] refl

few_free : (list : WaitList) → length (free_calls list) ≤ length list.calls
few_free list =
    let mapped = fewer_mapped (free_call list) (free_tickets list) in
    let free = filter (λ (w : WaitingCall). is_none w.fetch) list.calls in
    let told = length-map free (λ (w : WaitingCall). w.ticket) in
    let kept = fewer_kept (λ (w : WaitingCall). is_none w.fetch) list.calls in
    omega arith

-- what holds of each call that waits holds of the free ones, each of which is the call of its ticket
each_free : (P : CallRec → Type 0) (list : WaitList) → Each (λ (w : WaitingCall). P w.call) list.calls → Each (λ (w : WaitingCall). (call_with_ticket list w.ticket ≡ Some w.call) × P w.call) (free_calls list)
each_free P list h =
    each_mapped (λ (w : WaitingCall). (call_with_ticket list w.ticket ≡ Some w.call) × P w.call) (free_call list) (free_tickets list)
    (λ ticket w is. free_has ticket w (call_with_ticket list ticket) refl is)
  where
    free_has : (ticket : ℕ) (w : WaitingCall) (call : Option CallRec) → call_with_ticket list ticket ≡ call → option_map (λ (c : CallRec). record { ticket = ticket; call = c; fetch = None }) call ≡ Some w
        → (call_with_ticket list w.ticket ≡ Some w.call) × P w.call
    free_has ticket w None there is = absurd (cc)
    free_has ticket w (Some call) there is =
        let same = same_Some _ w is in
        let own : call_with_ticket list ticket ≡ Some w.call = there ∙ ap (λ (x : WaitingCall). Some x.call) same in
        (ap (λ (x : WaitingCall). call_with_ticket list x.ticket) (sym same) ∙ own, waiter_has P list ticket w.call own h)

-- ---- the plan

-- a call that leaves can be handed on, and where its client is told it has an older table
abbrev LeavesFit : Setting → CallRec → Option ℕ → Type 0
LeavesFit s call to = CallFits call × (call.id.hop ≤ 20000) × (to ≡ None → call.version < s.table.version)

-- the record asks for a directory by a key in the ranges, or is of such a call
abbrev SendFits : Setting → WaitList → Sending → Type 0
SendFits s list (sending.Away away) = (call : CallRec) × (call_with_ticket list away.ticket ≡ Some call) × LeavesFit s call away.to
SendFits s list (sending.Fetch key) = key_field.Fits key

-- what is known of a free call
abbrev FreeFits : Setting → WaitList → WaitingCall → Type 0
FreeFits s list w = (call_with_ticket list w.ticket ≡ Some w.call) × CallFits w.call × (w.call.id.hop ≤ 20000) × FateFits s w.call (fate s w.call)

-- the plan after so many free calls
record IsPlan (s : Setting) (list : WaitList) (p : Planning) (met : ℕ) : Type 0 where
  sends : Each (SendFits s list) p.sends
  few_sends : length p.sends ≤ met
  few_fetches : length p.fetches ≤ met
  few_calls : length p.calls ≤ s.limit

waiter_length : (fetches : List Wanted) (key : Key) (ticket : ℕ) → length (with_waiter fetches key ticket) ≤ length fetches + 1
waiter_length [] key ticket = omega arith
waiter_length (w ∷ ws) key ticket =
    let h = waiter_length ws key ticket in
    elim (same_key w.key key) as (λ b. length (cond b (record w { waiters = w.waiters ++ ticket ∷ [] } ∷ ws) (w ∷ with_waiter ws key ticket)) ≤ suc (length ws) + 1) [
      | true ↦ omega arith
      | false ↦ omega arith
    ]

push_length : {A : Type 0} (xs : List A) (x : A) → length (xs ++ x ∷ []) ≡ length xs + 1
push_length xs x = length-append xs (x ∷ [])

after_is_plan : (s : Setting) (list : WaitList) (p : Planning) (w : WaitingCall) (f : Fate) (met : ℕ) → fate s w.call ≡ f → FreeFits s list w → IsPlan s list p met → IsPlan s list (after_fate s.limit p w.ticket f) (suc met)
unfolding with_away with_wait with_planned
after_is_plan s list p w Skips met is fits h =
    let few_sends = h.few_sends in
    let few_fetches = h.few_fetches in
    record { sends = h.sends; few_sends = omega arith; few_fetches = omega arith; few_calls = h.few_calls }
after_is_plan s list p w (Leaves to) met is fits h =
    let few_sends = h.few_sends in
    let few_fetches = h.few_fetches in
    let away = sending.Away (record { ticket = w.ticket; to = to }) in
    let one = push_length p.sends away in
    record {
      sends = each_join (SendFits s list) p.sends (away ∷ []) h.sends ((w.call, fits.0, (fits.1, fits.2, subst (FateFits s w.call) is fits.3)), tt);
      few_sends = omega arith;
      few_fetches = omega arith;
      few_calls = h.few_calls;
    }
after_is_plan s list p w (Waits key) met is fits h =
    let few_sends = h.few_sends in
    let few_fetches = h.few_fetches in
    let waiter = waiter_length p.fetches key w.ticket in
    let one = push_length p.sends (sending.Fetch key) in
    let of_key : key_field.Fits key = subst (FateFits s w.call) is fits.3 in
    elim (is_wanted p.fetches key) as (λ b. IsPlan s list (record p { fetches = with_waiter p.fetches key w.ticket; sends = cond b p.sends (p.sends ++ sending.Fetch key ∷ []) }) (suc met)) [
      | true ↦ record { sends = h.sends; few_sends = omega arith; few_fetches = omega arith; few_calls = h.few_calls }
      | false ↦ record { sends = each_join (SendFits s list) p.sends (sending.Fetch key ∷ []) h.sends (of_key, tt); few_sends = omega arith; few_fetches = omega arith; few_calls = h.few_calls }
    ]
after_is_plan s list p w (Joins denied parent last keys) met is fits h =
    let few_sends = h.few_sends in
    let few_fetches = h.few_fetches in
    let x : Planned = record { ticket = w.ticket; denied = denied; parent = parent; last = last } in
    let one = push_length p.calls x in
    elim (nat_lt (length p.calls) s.limit) as (λ b. nat_lt (length p.calls) s.limit ≡ b → IsPlan s list (cond b (with_planned p x keys) p) (suc met)) [
      | true ↦ λ below. record { sends = h.sends; few_sends = omega arith; few_fetches = omega arith; few_calls = push_below (length p.calls) s.limit (length (p.calls ++ x ∷ [])) below one }
      | false ↦ λ _. record { sends = h.sends; few_sends = omega arith; few_fetches = omega arith; few_calls = h.few_calls }
    ] refl
  where
    push_below : (n limit m : ℕ) → nat_lt n limit ≡ true → m ≡ n + 1 → m ≤ limit
    push_below n limit m below is = grind (arith, nat_tests)

calls_is_plan : (s : Setting) (list : WaitList) (p : Planning) (ws : List WaitingCall) (met : ℕ) → Each (FreeFits s list) ws → IsPlan s list p met → IsPlan s list (plan_calls s p ws) (met + length ws)
unfolding plan_one
calls_is_plan s list p [] met fits h = let same : met ≡ met + 0 = omega arith in subst (IsPlan s list p) same h
calls_is_plan s list p (w ∷ ws) met fits h =
    let next : suc met + length ws ≡ met + suc (length ws) = omega arith in
    subst (IsPlan s list (plan_calls s (plan_one s p w) ws)) next (calls_is_plan s list (plan_one s p w) ws (suc met) fits.1 (after_is_plan s list p w (fate s w.call) met refl fits.0 h))

-- ---- what is sent

away_fits : (x : NodeState) (call : CallRec) (to : Option ℕ) → IsTableRanged x.table → LeavesFit (setting_at x) call to → LetterFits (away_letter x call to)
away_fits x call None table fits = stale_fits call.id call.version x.table.version (changes_since call.version x.table) (id_of_call call fits.0) (fits.2 refl) table.version (since_fits call.version x.table table.rules)
away_fits x call (Some m) table fits = call_fits (passed_on call) (passed_fits call fits.1 fits.0)

gather_fit : (x : NodeState) (number : ℕ) (sends : List Sending) → x.number < 16 → IsTableRanged x.table → number + length sends ≤ 2 ^ 64 → Each (SendFits (setting_at x) x.waiting) sends → Each LetterFits (gather_letters x number sends)
gather_fit x number [] small table below fits = tt
gather_fit x number (sending.Away away ∷ sends) small table below fits =
    let there = fits.0 in
    subst (λ o. Each LetterFits (away_letters x o away.to ++ gather_letters x number sends)) (sym there.1)
    (away_fits x there.0 away.to table there.2, gather_fit x number sends small table (omega arith) fits.1)
gather_fit x number (sending.Fetch key ∷ sends) small table below fits =
    (ask_fits x.number number key (asker_fits x.number small) (omega arith) fits.0, gather_fit x (number + 1) sends small table (omega arith) fits.1)

-- ---- the batch

batch_calls_fit : (list : WaitList) (plans : List Planned) → WaitersFit list
    → (length (batch_calls list plans) ≤ length plans) × Each (λ (p : BatchCall). CallFits p.call) (batch_calls list plans)
batch_calls_fit list [] fits = (omega arith, tt)
batch_calls_fit list (p ∷ plans) fits =
    let rest = batch_calls_fit list plans fits in
    let short = rest.0 in
    elim (call_with_ticket list p.ticket) as (λ o. call_with_ticket list p.ticket ≡ o
    → (length (batch_call o p ++ batch_calls list plans) ≤ suc (length plans)) × Each (λ (q : BatchCall). CallFits q.call) (batch_call o p ++ batch_calls list plans)) [
      | None ↦ λ _. (omega arith, rest.1)
      | Some call ↦ λ is. (omega arith, (waiter_of list p.ticket call is fits, rest.1))
    ] refl

batch_keeps : (events : ℕ) (x : NodeState) (calls : List BatchCall) (keys : List Key) (sent : List Letter) → events < 2 ^ 63 → IsNodeRanged x → IsNodeCounted events x → x.waiting.opened ≤ events + 160016
    → x.number < 16 → x.drawn ≤ 10000 → length calls ≤ 64 → Each (λ (p : BatchCall). CallFits p.call) calls → Each LetterFits sent
    → KeepsRanges events (record { node = with_batch x calls keys; sent = sent; notes = [] })
unfolding batched
batch_keeps events x [] keys sent few ranged counted opened number drawn short fit letters =
    let more = counted_more events x counted in
    record { within = within events (record { node = x; sent = sent; notes = [] }) few more letters opened number (omega arith) (omega arith); letters = letters; ranged = ranged; counted = more }
batch_keeps events x (call ∷ calls) keys sent few ranged counted opened number drawn short fit letters =
    let more = counted_more events x counted in
    let batches = counted.batches in
    let now : IsNodeCounted (events + 1) (batched x (call ∷ calls) keys) = record { tickets = more.tickets; items = more.items; batches = omega arith; fetches = more.fetches } in
    record {
      within = within events (record { node = batched x (call ∷ calls) keys; sent = sent; notes = [] }) few now letters opened number (omega arith) (omega arith);
      letters = letters;
      ranged = record {
        rows = ranged.rows;
        sorted = ranged.sorted;
        replica = ranged.replica;
        waiting = ranged.waiting;
        items = ranged.items;
        batches = each_join _ x.batches _ ranged.batches ((short, fit), tt);
      };
      counted = now;
    }

-- ---- the step

gathered_keeps : (events : ℕ) (x : NodeState) → IsStart events x → KeepsRanges events (gathered x (plan_at x))
unfolding gathered with_waiting plan_at
gathered_keeps events x start =
    let few = start.few in
    let small = start.number in
    let limit = start.limit in
    let opened = start.opened in
    let waiting_few = start.calls in
    let ranged = start.ranged in
    let s = setting_at x in
    let fits = each_both (λ (w : WaitingCall). CallFits w.call) (λ (w : WaitingCall). w.call.id.hop ≤ 20000) (λ (w : WaitingCall). CallFits w.call × (w.call.id.hop ≤ 20000) × FateFits s w.call (fate s w.call)) x.waiting.calls
    (λ w fits hops. (fits, hops, fate_fits s w.call ranged.replica fits)) ranged.waiting start.hops in
    let free = few_free x.waiting in
    let plan = plan_of s x.waiting in
    let frees = each_weaker _ (FreeFits s x.waiting) (free_calls x.waiting) (λ w is. (is.0, is.1.0, is.1.1, is.1.2)) (each_free (λ c. CallFits c × (c.id.hop ≤ 20000) × FateFits s c (fate s c)) x.waiting fits) in
    let is = calls_is_plan s x.waiting no_plan (free_calls x.waiting) 0 frees (record { sends = tt; few_sends = omega arith; few_fetches = omega arith; few_calls = omega arith }) in
    let few_sends = is.few_sends in
    let few_fetches = is.few_fetches in
    let few_planned = is.few_calls in
    let opens = opens_count x.waiting plan.fetches in
    let same = withouts_same (with_fetches x.waiting plan.fetches) (leaving plan) in
    let opens_tickets = opens.tickets in
    let opens_opened = opens.opened in
    let opens_fetches = opens.fetches in
    let same_tickets = same.0 in
    let same_opened = same.1 in
    let same_fetches = ap length same.2 in
    let counted = start.counted in
    let tickets = counted.tickets in
    let fetches = counted.fetches in
    let y : NodeState = with_waiting x plan.fetches (leaving plan) in
    let calls = batch_calls_fit x.waiting plan.calls ranged.waiting in
    let short = calls.0 in
    batch_keeps events y (batch_calls x.waiting plan.calls) plan.keys (gather_letters x x.waiting.opened plan.sends) few
    (record {
      rows = ranged.rows;
      sorted = ranged.sorted;
      replica = ranged.replica;
      waiting = fit_withouts (with_fetches x.waiting plan.fetches) (leaving plan) (fit_opens x.waiting plan.fetches ranged.waiting);
      items = ranged.items;
      batches = ranged.batches;
    })
    (record { tickets = omega arith; items = counted.items; batches = counted.batches; fetches = omega arith })
    (omega arith) small start.drawn (omega arith) calls.1
    (gather_fit x x.waiting.opened plan.sends small start.table (omega arith) is.sends)

pub gather_keeps : (events : ℕ) (x : NodeState) (work : Work) → IsStart events x → node_step x Gather ≡ Some work → KeepsRanges events work
unfolding node_step
gather_keeps events x work start is =
    elim (is_idle (plan_at x)) as (λ b. cond b None (Some (gathered x (plan_at x))) ≡ Some work → KeepsRanges events work) [
      | true ↦ λ e. absurd (cc)
      | false ↦ λ e. subst (KeepsRanges events) (same_Some (gathered x (plan_at x)) work e) (gathered_keeps events x start)
    ] is
