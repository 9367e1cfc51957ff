-- What a node is.
use Rattle.std.specs.Prelude.{ℕ, ◌+◌, Bool, false, List, [], ◌∷◌, ◌++◌, Option, Some, None, ◌==◌, if◌then◌else◌}
use Rattle.std.specs.List.{find}
use Rattle.fal_base.specs.declared.barred.Barred.{Barred}
use Rattle.fal_base.specs.declared.barred.Barred.TheVariants.{Nothing}
use Rattle.fal_base.specs.Tree.{Tree, tree0}
use Rattle.fal_place.specs.Placement.{Placement, opening_table}
use Rattle.fal_dentry.specs.Walk.{Dentries}
use Rattle.fal_locks.specs.declared.holder.Shut.{Shut}
use Rattle.fal_locks.specs.Locks.{LockTable, no_locks, without_holder}
use Rattle.fal_wait.specs.Lists.{without_first}
use Rattle.fal_wait.specs.Waiting.{WaitList, no_calls}
use Rattle.fal_wire.specs.declared.message.Message.{Message}
use Rattle.fal_node.specs.declared.batch.Batch.{Batch}
use Rattle.fal_node.specs.declared.blocking.Blocking.{Blocking}
use Rattle.fal_node.specs.declared.item.Item.{Item}

-- its number, and how many calls a batch takes at most; its table, rows and replica; its locks, and the names that an operation has blocked
-- here; the waiting calls, the items to be served and the batches, each in the order of their numbers; the last operation that it has taken;
-- how many items and batches it has numbered, and how many inode numbers it has drawn
pub record NodeState : Type 0 where
  pub number : ℕ
  pub limit : ℕ
  pub table : Placement
  pub rows : Tree
  pub replica : Dentries
  pub locks : LockTable
  pub blocked : Option Blocking
  pub waiting : WaitList
  pub items : List Item
  pub batches : List Batch
  pub last_operation : ℕ
  pub items_numbered : ℕ
  pub batches_numbered : ℕ
  pub drawn : ℕ

-- the names that are blocked
abbrev pub blocked_names : Option Blocking → Barred
blocked_names None = Nothing
blocked_names (Some blocking) = blocking.names

-- node 0 has the root's row
abbrev pub opening_rows : ℕ → Tree
opening_rows number = if number == 0 then tree0 else []

-- a node as a cluster of so many nodes begins
unfoldable pub opening_node : ℕ → ℕ → ℕ → NodeState
opening_node number nodes limit = record {
  number = number;
  limit = limit;
  table = opening_table nodes;
  rows = opening_rows number;
  replica = [];
  locks = no_locks;
  blocked = None;
  waiting = no_calls;
  items = [];
  batches = [];
  last_operation = 0;
  items_numbered = 0;
  batches_numbered = 0;
  drawn = 0;
}

-- the batch with this number
abbrev pub batch_of : NodeState → ℕ → Option Batch
batch_of node number = find (λ batch. batch.number == number) node.batches

-- the item with this number
abbrev pub item_of : NodeState → ℕ → Option Item
item_of node number = find (λ item. item.number == number) node.items

-- whether this operation has shut the keys
abbrev pub is_of : Option Shut → ℕ → Bool
is_of None operation = false
is_of (Some shut) operation = shut.op == operation

-- one more item, with the next number
unfoldable pub with_item : NodeState → Message → NodeState
with_item node message =
    record node {
      items = node.items ++ record { number = node.items_numbered; message = message } ∷ [];
      items_numbered = node.items_numbered + 1;
    }

-- the item is served
unfoldable pub without_item : NodeState → ℕ → NodeState
without_item node number = record node { items = without_first (λ item. item.number == number) node.items }

-- the batch is gone, and its keys are released
unfoldable pub released : NodeState → ℕ → NodeState
released node number =
    record node {
      batches = without_first (λ batch. batch.number == number) node.batches;
      locks = without_holder node.locks number;
    }
