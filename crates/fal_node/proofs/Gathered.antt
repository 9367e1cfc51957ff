-- The records of a plan's row, one entry at a time, and the calls of its batch.
use Rattle.std.proofs.Common.{◌≡◌, ℕ, ◌+◌, ◌<◌, ◌^◌, Bool, true, false, ◌==◌, cond, List, [], ◌∷◌, ◌++◌, Option, Some, None, refl, sym, ap, ◌∙◌, subst, arith, append-nil, append_assoc}
use Rattle.std.specs.List.{All, find}
use Rattle.std.specs.Option.{option_map}
use Rattle.std.proofs.lemmas.List.Elements.{All-head, All-tail, All-cons}
use Rattle.std.proofs.lemmas.List.Folds.{list_all-append}
use Rattle.fal_base.specs.declared.call.CallRec.{CallRec}
use Rattle.fal_base.specs.declared.key.Key.{Key}
use Rattle.fal_wait.specs.declared.waiting_call.WaitingCall.{WaitingCall}
use Rattle.fal_wait.specs.Waiting.{WaitList, call_with_ticket}
use Rattle.fal_wire.specs.Messages.{Fits, FieldsFit, fetch_ask_body}
use Rattle.fal_batch.specs.Plan.{is_idle}
use Rattle.fal_batch.specs.declared.parts.Planned.{Planned}
use Rattle.fal_batch.specs.declared.parts.Sending.{Sending}
use Rattle.fal_batch.specs.declared.parts.Sending.TheVariants as sending
use Rattle.fal_run.specs.declared.call.BatchCall.{BatchCall}
use Rattle.fal_node.specs.State.{NodeState}
use Rattle.fal_node.specs.declared.event.NodeEvent.TheVariants.{Gather}
use Rattle.fal_node.specs.Gather.{plan_at, gathered, away_letter, ask_letter, gather_letters, batch_call, batch_calls}
use Rattle.fal_node.specs.Step.{node_step}
use Rattle.fal_node.specs.Sends.{sending_letters, next_number}
use Rattle.fal_node.specs.Sound.{are_row_waiters}
use Rattle.fal_run.specs.Calls.{is_row_op, are_row_calls}
use Rattle.fal_run.proofs.Within.{hop_fits}
use Rattle.fal_wait.proofs.Ascending.{both, first_of_both, second_of_both}

pub gather_letters-cons : (n : NodeState) (number : ℕ) (x : Sending) (xs : List Sending) → gather_letters n number (x ∷ xs) ≡ sending_letters n number x ++ gather_letters n (next_number number x) xs
gather_letters-cons n number (sending.Away away) xs = refl
gather_letters-cons n number (sending.Fetch key) xs = refl

pub all_front : {X : Type 0} (P : X → Type 0) (xs ys : List X) → All P (xs ++ ys) → All P xs
all_front P [] ys h = λ k d lt. absurd (omega arith)
all_front P (x ∷ xs) ys h = All-cons P x xs (All-head P x (xs ++ ys) h) (all_front P xs ys (All-tail P x (xs ++ ys) h))

pub all_back : {X : Type 0} (P : X → Type 0) (xs ys : List X) → All P (xs ++ ys) → All P ys
all_back P [] ys h = h
all_back P (x ∷ xs) ys h = all_back P xs ys (All-tail P x (xs ++ ys) h)

-- a call that goes on in its ranges had a hop below the greatest
pub away_hop : (n : NodeState) (call : CallRec) (to : ℕ) → Fits (away_letter n call (Some to)).message → call.id.hop + 1 < 2 ^ 32
away_hop n call to h = hop_fits _ h

-- a fetch in its ranges has a number of eight bytes
pub ask_number : (n : NodeState) (number : ℕ) (key : Key) → Fits (ask_letter n number key).message → number < 2 ^ 64
unfolding FieldsFit fetch_ask_body
ask_number n number key h = h.fields.1.0

pub batch_calls_push : (list : WaitList) (xs : List Planned) (x : Planned) → batch_calls list (xs ++ x ∷ []) ≡ batch_calls list xs ++ batch_call (call_with_ticket list x.ticket) x
batch_calls_push list [] x = append-nil (batch_call (call_with_ticket list x.ticket) x)
batch_calls_push list (y ∷ ys) x =
    let first : List BatchCall = batch_call (call_with_ticket list y.ticket) y in
    ap (λ zs. first ++ zs) (batch_calls_push list ys x) ∙ sym (append_assoc first (batch_calls list ys) (batch_call (call_with_ticket list x.ticket) x))

row_waiter : (w : WaitingCall) (call : CallRec) (b : Bool) (rest : Option WaitingCall) → (b ≡ true → is_row_op w.call.op ≡ true) → (option_map (λ v. v.call) rest ≡ Some call → is_row_op call.op ≡ true)
    → option_map (λ v. v.call) (cond b (Some w) rest) ≡ Some call → is_row_op call.op ≡ true
row_waiter w call true rest here there e = let same : w.call ≡ call = cc in subst (λ (k : CallRec). is_row_op k.op ≡ true) same (here refl)
row_waiter w call false rest here there e = there e

row_call : (calls : List WaitingCall) (ticket : ℕ) (call : CallRec) → are_row_waiters calls ≡ true → option_map (λ w. w.call) (find (λ w. w.ticket == ticket) calls) ≡ Some call → is_row_op call.op ≡ true
row_call [] ticket call h e = absurd (cc)
row_call (w ∷ ws) ticket call h e =
    row_waiter w call (w.ticket == ticket) (find (λ v. v.ticket == ticket) ws) (λ _. first_of_both (is_row_op w.call.op) (are_row_waiters ws) h)
    (λ later. row_call ws ticket call (second_of_both (is_row_op w.call.op) (are_row_waiters ws) h) later) e

row_planned : (o : Option CallRec) (planned : Planned) → ((call : CallRec) → o ≡ Some call → is_row_op call.op ≡ true) → are_row_calls (batch_call o planned) ≡ true
row_planned None planned h = refl
row_planned (Some call) planned h = both (is_row_op call.op) true (h call refl) refl

-- one row decides each call of a batch, since it decides each that waits
pub row_batch_calls : (list : WaitList) (calls : List Planned) → are_row_waiters list.calls ≡ true → are_row_calls (batch_calls list calls) ≡ true
row_batch_calls list [] h = refl
row_batch_calls list (planned ∷ calls) h =
    list_all-append (λ (c : BatchCall). is_row_op c.call.op) (batch_call (call_with_ticket list planned.ticket) planned) (batch_calls list calls)
    ∙ both (are_row_calls (batch_call (call_with_ticket list planned.ticket) planned)) (are_row_calls (batch_calls list calls))
    (row_planned (call_with_ticket list planned.ticket) planned (λ call is. row_call list.calls planned.ticket call h is)) (row_batch_calls list calls h)

-- Gather is enabled where the plan is not idle
pub gather_enabled : (n : NodeState) → is_idle (plan_at n) ≡ false → node_step n Gather ≡ Some (gathered n (plan_at n))
unfolding node_step
gather_enabled n busy = ap (λ b. cond b None (Some (gathered n (plan_at n)))) busy

pub gather_idle : (n : NodeState) → is_idle (plan_at n) ≡ true → node_step n Gather ≡ None
unfolding node_step
gather_idle n idle = ap (λ b. cond b None (Some (gathered n (plan_at n)))) idle
