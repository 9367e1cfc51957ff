-- What holds of each node.
use Rattle.std.specs.Prelude.{ℕ, Bool, List, IsTrue, nat_lt}
use Rattle.std.specs.List.{list_all}
use Rattle.fal_locks.specs.Locks.{LockTable}
use Rattle.fal_wait.specs.declared.waiting_call.WaitingCall.{WaitingCall}
use Rattle.fal_wait.specs.Lists.{are_ascending}
use Rattle.fal_node.specs.declared.batch.Batch.{Batch}
use Rattle.fal_run.specs.Calls.{is_row_op, are_row_calls}
use Rattle.fal_node.specs.declared.item.Item.{Item}

-- whether one row decides each call that waits
abbrev pub are_row_waiters : List WaitingCall → Bool
are_row_waiters calls = list_all (λ w. is_row_op w.call.op) calls

-- whether one row decides each call of the batches
abbrev pub are_row_batches : List Batch → Bool
are_row_batches batches = list_all (λ batch. are_row_calls batch.calls) batches

-- whether each batch that holds keys has a number below this one
abbrev pub are_holders_below : LockTable → ℕ → Bool
are_holders_below locks end = list_all (λ holder. nat_lt holder.number end) locks.holders

-- the items ascend by their numbers, which are below the next one
abbrev pub AreItemsNumbered : List Item → ℕ → Type 0
AreItemsNumbered items end = IsTrue (are_ascending (λ (item : Item). item.number) items end)

-- one row decides each call of a batch, and the batches ascend by their numbers; so the next batch's number is new, and among the locks, too
pub record AreBatches (batches : List Batch) (locks : LockTable) (end : ℕ) : Type 0 where
  pub row_calls : IsTrue (are_row_batches batches)
  pub numbers : IsTrue (are_ascending (λ (batch : Batch). batch.number) batches end)
  pub holders : IsTrue (are_holders_below locks end)

-- one row decides each call that waits, and items and batches are in the order of their numbers
pub record IsSoundNode (calls : List WaitingCall) (items : List Item) (items_numbered : ℕ) (batches : List Batch) (locks : LockTable) (batches_numbered : ℕ) : Type 0 where
  pub calls_waiting : IsTrue (are_row_waiters calls)
  pub items_kept : AreItemsNumbered items items_numbered
  pub batches_made : AreBatches batches locks batches_numbered
