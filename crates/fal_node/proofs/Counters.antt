-- The change of an event that stays within the ranges takes no counter past its end.
use Rattle.std.proofs.Common.{◌≡◌, ℕ, ◌+◌, ◌<◌, ◌≤◌, ◌^◌, cond, List, [], ◌∷◌, length, None, IsTrue, refl, ap, ◌∙◌, subst}
use Rattle.fal_base.specs.declared.call.CallRec.{CallRec}
use Rattle.fal_base.specs.declared.key.Key.{Key}
use Rattle.fal_locks.specs.Locks.{first_shut}
use Rattle.fal_wait.specs.Waiting.{WaitList, is_new, with_call, without_call}
use Rattle.fal_batch.specs.declared.parts.Wanted.{Wanted}
use Rattle.fal_run.specs.declared.call.BatchCall.{BatchCall}
use Rattle.fal_node.specs.declared.patch.Patch.{Patch}
use Rattle.fal_node.specs.declared.patch.Patch.TheVariants as patch
use Rattle.fal_node.specs.State.{NodeState, with_item}
use Rattle.fal_node.specs.Letters.{Work}
use Rattle.fal_node.specs.Deliver.{admitted, with_operation, without_calls}
use Rattle.fal_node.specs.Gather.{with_fetches, with_waiting, batched, with_batch}
use Rattle.fal_node.specs.Exec.{with_executed}
use Rattle.fal_node.specs.Patch.{patched, with_rows}
use Rattle.fal_run.specs.Calls.{are_row_calls}
use Rattle.fal_node.specs.Step.{IsWithin}
use Rattle.fal_node.specs.Ready.{CanHaveBatch, CanChange, CanDraft}
use Rattle.fal_node.proofs.Pushed.{opened-with_fetches}

tickets-admitted : (node : NodeState) (call : CallRec) → IsTrue (is_new node.waiting call) → (admitted node call).waiting.tickets ≡ node.waiting.tickets + 1
unfolding admitted with_call
tickets-admitted node call taken = ap (λ b. (cond b (with_call node.waiting call) node.waiting).tickets) taken

opened-without_calls : (list : WaitList) (tickets : List ℕ) → (without_calls list tickets).opened ≡ list.opened
opened-without_calls list [] = refl
opened-without_calls list (t ∷ ts) = opened-without_calls (without_call list t) ts

opened-with_batch : (node : NodeState) (calls : List BatchCall) (keys : List Key) → (with_batch node calls keys).waiting.opened ≡ node.waiting.opened
unfolding batched
opened-with_batch node [] keys = refl
opened-with_batch node (c ∷ cs) keys = refl

opened-gathered : (node : NodeState) (fetches : List Wanted) (tickets : List ℕ) (calls : List BatchCall) (keys : List Key)
    → (with_batch (with_waiting node fetches tickets) calls keys).waiting.opened ≡ node.waiting.opened + length fetches
unfolding with_waiting
opened-gathered node fetches tickets calls keys =
    opened-with_batch (with_waiting node fetches tickets) calls keys ∙ opened-without_calls (with_fetches node.waiting fetches) tickets ∙ opened-with_fetches node.waiting fetches

can_batch : (node : NodeState) (fetches : List Wanted) (tickets : List ℕ) (calls : List BatchCall) (keys : List Key)
    → (with_batch (with_waiting node fetches tickets) calls keys).batches_numbered < 2 ^ 64 → first_shut node.locks keys ≡ None → IsTrue (are_row_calls calls) → CanHaveBatch node calls keys
unfolding with_waiting batched
can_batch node fetches tickets [] keys below open_keys rows = tt
can_batch node fetches tickets (c ∷ cs) keys below open_keys rows = record { number = below; open_keys = open_keys; row_calls = rows }

pub can_change : (node : NodeState) (work : Work) (p : Patch) → work.node ≡ patched node p → IsWithin work → CanDraft node p → CanChange node p
unfolding with_item with_operation with_rows with_executed
can_change node work patch.Nothing same within can = tt
can_change node work (patch.Admit call) same within can =
    (subst (λ k. k < 2 ^ 64) (ap (λ (n : NodeState). n.waiting.tickets) same ∙ tickets-admitted node call can.0) within.tickets, can.1)
can_change node work (patch.Keep operation message) same within can = subst (λ (n : NodeState). n.items_numbered < 2 ^ 64) same within.items
can_change node work (patch.Learn fetch key dentry) same within can = tt
can_change node work (patch.Dismiss fetch tickets) same within can = tt
can_change node work (patch.Gather fetches tickets calls keys) same within can =
    let opened = ap (λ (n : NodeState). n.waiting.opened) same ∙ opened-gathered node fetches.items tickets.items calls keys.items in
    let batches = subst (λ (n : NodeState). n.batches_numbered < 2 ^ 64) same within.batches in
    (subst (λ k. k ≤ 2 ^ 64) opened within.fetches, can.0, can_batch node fetches.items tickets.items calls keys.items batches can.1 can.2)
can_change node work (patch.Execute batch changes drawn) same within can = can
can_change node work (patch.Release batch) same within can = tt
can_change node work (patch.Serve item) same within can = tt
can_change node work (patch.Shut item operation keys) same within can = can
can_change node work (patch.Reopen operation updates) same within can = tt
can_change node work (patch.Block item operation name) same within can = tt
can_change node work (patch.Install table updates) same within can = tt
