-- What holds of each node is kept by each change.
use Rattle.std.proofs.Common.{◌≡◌, ℕ, ◌+◌, ◌<◌, ◌≤◌, ◌^◌, length, ◌||◌, Bool, true, false, not, cond, ◌==◌, List, [], ◌∷◌, ◌++◌, map, filter, IsTrue, nat_lt, Option, Some, None, refl, sym, ap, ◌∙◌, subst, arith}
use Rattle.std.specs.List.{list_all, list_any, find}
use Rattle.std.proofs.lemmas.Bool.Decides.{nat_tests}
use Rattle.fal_base.specs.declared.call.CallRec.{CallRec}
use Rattle.fal_base.specs.declared.key.Key.{Key}
use Rattle.fal_locks.specs.Locks.{LockTable, has_holder, first_shut, with_holder, without_holder}
use Rattle.fal_locks.specs.declared.holder.Holder.{Holder}
use Rattle.fal_wait.specs.declared.waiting_call.WaitingCall.{WaitingCall}
use Rattle.fal_wait.specs.Lists.{are_ascending, without_first, has_number}
use Rattle.fal_wait.specs.Waiting.{WaitList, with_call, after_admit, is_new, without_call, after_open, on_fetch, off_fetch, waits_on, without_fetch, after_settle, settled_by, fetch_of}
use Rattle.fal_batch.specs.declared.parts.Wanted.{Wanted}
use Rattle.fal_node.specs.declared.batch.Batch.{Batch}
use Rattle.fal_run.specs.declared.call.BatchCall.{BatchCall}
use Rattle.fal_node.specs.declared.item.Item.{Item}
use Rattle.fal_node.specs.Deliver.{without_calls}
use Rattle.fal_node.specs.State.{NodeState}
use Rattle.fal_node.specs.Patch.{NodeRoom}
use Rattle.fal_node.specs.Ready.{CanHaveBatch, HasRoomForBatch}
use Rattle.fal_node.specs.Gather.{with_fetches, with_waiting}
use Rattle.fal_node.specs.Exec.{as_executed}
use Rattle.fal_node.specs.Sound.{are_row_waiters, are_row_batches, are_holders_below, AreItemsNumbered, AreBatches}
use Rattle.fal_run.specs.Calls.{is_row_op, are_row_calls}
use Rattle.fal_wait.proofs.Ascending.{both, first_of_both, second_of_both, all_push, all_map, all_without, below_more, below_next, ascending_map, ascending_without, ascending_push}

pub all_filter : {X : Type 0} (p test : X → Bool) (xs : List X) → list_all p xs ≡ true → list_all p (filter test xs) ≡ true
all_filter p test [] h = h
all_filter p test (x ∷ xs) h =
    let rest = all_filter p test xs (second_of_both (p x) (list_all p xs) h) in
    elim (test x) as (λ b. list_all p (cond b (x ∷ filter test xs) (filter test xs)) ≡ true) [
      | true ↦ both (p x) (list_all p (filter test xs)) (first_of_both (p x) (list_all p xs) h) rest
      | false ↦ rest
    ]

-- waiting calls

pub sound_admit : (list : WaitList) (call : CallRec) → are_row_waiters list.calls ≡ true → IsTrue (is_row_op call.op) → are_row_waiters (after_admit list call).calls ≡ true
unfolding with_call
sound_admit list call sound row =
    let w : WaitingCall = record { ticket = list.tickets; call = call; fetch = None } in
    elim (is_new list call) as (λ b. are_row_waiters (cond b (with_call list call) list).calls ≡ true) [
      | true ↦ all_push (λ (x : WaitingCall). is_row_op x.call.op) list.calls w sound row
      | false ↦ sound
    ]

pub sound_withouts : (list : WaitList) (tickets : List ℕ) → are_row_waiters list.calls ≡ true → are_row_waiters (without_calls list tickets).calls ≡ true
sound_withouts list [] sound = sound
sound_withouts list (t ∷ ts) sound = sound_withouts (without_call list t) ts (all_without (λ (x : WaitingCall). is_row_op x.call.op) (λ x. x.ticket == t) list.calls sound)

call-on_fetch : (number : ℕ) (waiters : List ℕ) (w : WaitingCall) → (on_fetch number waiters w).call ≡ w.call
call-on_fetch number waiters w = elim (has_number waiters w.ticket) as (λ b. (cond b (record w { fetch = Some number }) w).call ≡ w.call) [ true ↦ refl | false ↦ refl ]

call-off_fetch : (number : ℕ) (w : WaitingCall) → (off_fetch number w).call ≡ w.call
call-off_fetch number w = elim (waits_on number w.fetch) as (λ b. (cond b (record w { fetch = None }) w).call ≡ w.call) [ true ↦ refl | false ↦ refl ]

pub sound_opens : (list : WaitList) (fetches : List Wanted) → are_row_waiters list.calls ≡ true → are_row_waiters (with_fetches list fetches).calls ≡ true
unfolding after_open
sound_opens list [] sound = sound
sound_opens list (f ∷ fs) sound =
    sound_opens (after_open list f.key f.waiters) fs
    (all_map (λ (x : WaitingCall). is_row_op x.call.op) (λ w. on_fetch list.opened f.waiters w) (λ w. ap (λ (k : CallRec). is_row_op k.op) (call-on_fetch list.opened f.waiters w)) list.calls ∙ sound)

sound_free : (list : WaitList) (number : ℕ) → are_row_waiters list.calls ≡ true → are_row_waiters (without_fetch list number).calls ≡ true
unfolding without_fetch
sound_free list number sound =
    all_map (λ (x : WaitingCall). is_row_op x.call.op) (λ w. off_fetch number w) (λ w. ap (λ (k : CallRec). is_row_op k.op) (call-off_fetch number w)) list.calls ∙ sound

pub sound_settle : (list : WaitList) (number : ℕ) → are_row_waiters list.calls ≡ true → are_row_waiters (after_settle list number).calls ≡ true
sound_settle list number sound = elim (fetch_of list number) as (λ f. are_row_waiters (settled_by list number f).calls ≡ true) [ None ↦ sound | Some f ↦ sound_free list number sound ]

-- items

pub item_kept : (items : List Item) (end : ℕ) (item : Item) → AreItemsNumbered items end → item.number ≡ end → AreItemsNumbered (items ++ item ∷ []) (end + 1)
item_kept items end item items_are is = subst (λ n. AreItemsNumbered (items ++ item ∷ []) (n + 1)) is (ascending_push (λ (i : Item). i.number) items item (subst (AreItemsNumbered items) (sym is) items_are))

pub item_served : (items : List Item) (end number : ℕ) → AreItemsNumbered items end → AreItemsNumbered (without_first (λ item. item.number == number) items) end
item_served items end number items_are = ascending_without (λ (i : Item). i.number) (λ item. item.number == number) items end items_are

-- batches

calls-as_executed : (number : ℕ) (batch : Batch) → (as_executed number batch).calls ≡ batch.calls
calls-as_executed number batch = elim (batch.number == number) as (λ b. (cond b (record batch { executed = true }) batch).calls ≡ batch.calls) [ true ↦ refl | false ↦ refl ]

number-as_executed : (number : ℕ) (batch : Batch) → (as_executed number batch).number ≡ batch.number
number-as_executed number batch = elim (batch.number == number) as (λ b. (cond b (record batch { executed = true }) batch).number ≡ batch.number) [ true ↦ refl | false ↦ refl ]

pub batches_executed : (batches : List Batch) (locks : LockTable) (end number : ℕ) → AreBatches batches locks end → AreBatches (map (as_executed number) batches) locks end
batches_executed batches locks end number sound = record {
  row_calls = all_map (λ batch. are_row_calls batch.calls) (as_executed number) (λ batch. ap are_row_calls (calls-as_executed number batch)) batches ∙ sound.row_calls;
  numbers = ascending_map (λ (batch : Batch). batch.number) (as_executed number) (λ batch. number-as_executed number batch) batches end ∙ sound.numbers;
  holders = sound.holders;
}

pub batches_without : (batches : List Batch) (locks : LockTable) (end number : ℕ) → AreBatches batches locks end → AreBatches (without_first (λ batch. batch.number == number) batches) (without_holder locks number) end
batches_without batches locks end number sound = record {
  row_calls = all_without (λ batch. are_row_calls batch.calls) (λ batch. batch.number == number) batches sound.row_calls;
  numbers = ascending_without (λ (batch : Batch). batch.number) (λ batch. batch.number == number) batches end sound.numbers;
  holders = all_filter (λ holder. nat_lt holder.number end) (λ holder. not (holder.number == number)) locks.holders sound.holders;
}

not_itself : (a b : ℕ) → nat_lt a b ≡ true → (a == b) ≡ false
not_itself a b h = grind (arith, nat_tests)

none_named : (hs : List Holder) (end : ℕ) → list_all (λ holder. nat_lt holder.number end) hs ≡ true → list_any (λ holder. holder.number == end) hs ≡ false
none_named [] end h = refl
none_named (x ∷ hs) end h =
    let here = not_itself x.number end (first_of_both (nat_lt x.number end) (list_all (λ holder. nat_lt holder.number end) hs) h) in
    ap (λ b. b || list_any (λ holder. holder.number == end) hs) here ∙ none_named hs end (second_of_both (nat_lt x.number end) (list_all (λ holder. nat_lt holder.number end) hs) h)

pub new_holder : (locks : LockTable) (end : ℕ) → are_holders_below locks end ≡ true → has_holder locks end ≡ false
new_holder locks end h = none_named locks.holders end h

all_below_more : (hs : List Holder) (end : ℕ) → list_all (λ holder. nat_lt holder.number end) hs ≡ true → list_all (λ holder. nat_lt holder.number (end + 1)) hs ≡ true
all_below_more [] end h = refl
all_below_more (x ∷ hs) end h =
    both (nat_lt x.number (end + 1)) (list_all (λ holder. nat_lt holder.number (end + 1)) hs)
    (below_more x.number end (first_of_both (nat_lt x.number end) (list_all (λ holder. nat_lt holder.number end) hs) h))
    (all_below_more hs end (second_of_both (nat_lt x.number end) (list_all (λ holder. nat_lt holder.number end) hs) h))

-- one more batch, which holds its keys
pub batches_with : (batches : List Batch) (locks : LockTable) (end : ℕ) (batch : Batch) (keys : List Key) → AreBatches batches locks end → batch.number ≡ end → are_row_calls batch.calls ≡ true
    → AreBatches (batches ++ batch ∷ []) (with_holder locks end keys) (end + 1)
batches_with batches locks end batch keys sound is row =
    let holder : Holder = record { number = end; keys = keys } in
    record {
      row_calls = all_push (λ (b : Batch). are_row_calls b.calls) batches batch sound.row_calls row;
      numbers = subst (λ n. are_ascending (λ (b : Batch). b.number) (batches ++ batch ∷ []) (n + 1) ≡ true) is
          (ascending_push (λ (b : Batch). b.number) batches batch (subst (λ n. are_ascending (λ (b : Batch). b.number) batches n ≡ true) (sym is) sound.numbers));
      holders = all_push (λ (x : Holder). nat_lt x.number (end + 1)) locks.holders holder (all_below_more locks.holders end sound.holders) (below_next end);
    }

-- what a batch needs is there still after fetches were opened and calls have left
pub can_have_batch_kept : (s t : NodeState) (fetches : List Wanted) (tickets : List ℕ) → t ≡ with_waiting s fetches tickets → (calls : List BatchCall) (keys : List Key) → CanHaveBatch s calls keys → CanHaveBatch t calls keys
unfolding with_waiting
can_have_batch_kept s t fetches tickets state [] keys h = tt
can_have_batch_kept s t fetches tickets state (call ∷ calls) keys h = record {
  number = subst (λ n. n + 1 < 2 ^ 64) (sym (ap (λ (n : NodeState). n.batches_numbered) state)) h.number;
  open_keys = ap (λ (n : NodeState). first_shut n.locks keys) state ∙ h.open_keys;
  row_calls = h.row_calls;
}

-- so is the room
pub batch_room_kept : (r t : NodeRoom) → t.batches ≡ r.batches → t.locks ≡ r.locks → (calls : List BatchCall) (keys : List Key) → HasRoomForBatch r calls keys → HasRoomForBatch t calls keys
batch_room_kept r t batches locks [] keys h = tt
batch_room_kept r t batches locks (call ∷ calls) keys h = record {
  batch = subst (λ n. 1 ≤ n) (sym batches) h.batch;
  holder = subst (λ n. 1 ≤ n) (sym locks) h.holder;
  holder_keys = subst (λ n. length keys ≤ n) (sym locks) h.holder_keys;
}

row_found : (batch found : Batch) (b : Bool) (rest : Option Batch) → (b ≡ true → are_row_calls batch.calls ≡ true) → (rest ≡ Some found → are_row_calls found.calls ≡ true) → cond b (Some batch) rest ≡ Some found → are_row_calls found.calls ≡ true
row_found batch found true rest here there e = let same : batch ≡ found = cc in subst (λ (x : Batch). are_row_calls x.calls ≡ true) same (here refl)
row_found batch found false rest here there e = there e

-- one row decides each call of a batch that is found
pub found_batch : (batches : List Batch) (number : ℕ) (found : Batch) → find (λ batch. batch.number == number) batches ≡ Some found → are_row_batches batches ≡ true → are_row_calls found.calls ≡ true
found_batch [] number found e h = absurd (cc)
found_batch (x ∷ xs) number found e h =
    row_found x found (x.number == number) (find (λ batch. batch.number == number) xs)
    (λ _. first_of_both (are_row_calls x.calls) (are_row_batches xs) h)
    (λ later. found_batch xs number found later (second_of_both (are_row_calls x.calls) (are_row_batches xs) h)) e
