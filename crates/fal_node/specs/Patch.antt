-- What a step changes in a node, which `apply` makes so.
use Rattle.std.specs.Prelude.{ℕ, ◌+◌, Bool, true, false, List, count_by, is_some}
use Rattle.fal_base.specs.declared.row.Update.{Update}
use Rattle.fal_exec.specs.declared.outcome.Change.{Change}
use Rattle.fal_exec.specs.declared.outcome.Change.TheVariants as change
use Rattle.fal_node.specs.declared.patch.Patch.{Patch}
use Rattle.fal_node.specs.declared.patch.Patch.TheVariants as patch
use Rattle.fal_run.specs.declared.change.RowChange.{RowChange}
use Rattle.fal_node.specs.State.{NodeState, without_item, released}
use Rattle.fal_node.specs.Deliver.{admitted, learned, dismissed, with_operation, reopened, installed}
use Rattle.fal_node.specs.Gather.{with_waiting, with_batch}
use Rattle.fal_node.specs.Exec.{with_executed}
use Rattle.fal_node.specs.Serve.{shutting, blocking}
use Rattle.fal_run.specs.Rows.{rows_changed}

-- for how many more of each there is room
pub record NodeRoom : Type 0 where
  pub rows : ℕ
  pub replica : ℕ
  pub locks : ℕ
  pub waiting : ℕ
  pub items : ℕ
  pub batches : ℕ

-- what contracts see of a node
pub record SeenNode : Type 0 where
  pub state : NodeState
  pub room : NodeRoom

-- whether the change asks for room: another one leaves as many rows, or fewer
abbrev pub is_put : Change → Bool
is_put change.Keep = false
is_put (change.Put inode) = true
is_put change.Remove = false

-- for how many rows the changes ask for room
abbrev pub puts_in : List RowChange → ℕ
puts_in changes = count_by (λ c. is_put c.change) changes

-- for how many rows the updates ask for room: one that removes leaves as many rows, or fewer
abbrev pub rows_put : List Update → ℕ
rows_put updates = count_by (λ u. is_some u.row) updates

-- so many numbers more are drawn, and rows have changed
unfoldable pub with_rows : NodeState → List RowChange → ℕ → NodeState
with_rows node changes drawn = record node { rows = rows_changed node.rows changes; drawn = node.drawn + drawn }

-- the node after the change
abbrev pub patched : NodeState → Patch → NodeState
patched node patch.Nothing = node
patched node (patch.Admit call) = admitted node call
patched node (patch.Keep operation message) = with_operation node operation message
patched node (patch.Learn fetch key dentry) = learned node fetch key dentry
patched node (patch.Dismiss fetch tickets) = dismissed node fetch tickets.items
patched node (patch.Gather fetches tickets calls keys) = with_batch (with_waiting node fetches.items tickets.items) calls keys.items
patched node (patch.Execute batch changes drawn) = with_rows (with_executed node batch) changes.items drawn
patched node (patch.Release batch) = released node batch
patched node (patch.Serve item) = without_item node item
patched node (patch.Shut item operation keys) = without_item (shutting node operation keys.items) item
patched node (patch.Reopen operation updates) = reopened node operation updates.items
patched node (patch.Block item operation name) = without_item (blocking node operation name) item
patched node (patch.Install table updates) = installed node table updates.items
