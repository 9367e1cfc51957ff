-- An item is served: a record that the node has kept until it can.
use Rattle.std.specs.Prelude.{ℕ, Bool, false, not, ◌&&◌, ◌||◌, List, [], ◌∷◌, Option, None, Some, is_some, nat_lt, ◌==◌, if◌then◌else◌}
use Rattle.std.specs.List.{list_any}
use Rattle.fal_base.specs.declared.barred.Barred.TheVariants.{One}
use Rattle.fal_base.specs.declared.call.CallId.{CallId}
use Rattle.fal_base.specs.declared.event.Actor.TheVariants.{Client, Node, Coord}
use Rattle.fal_base.specs.declared.event.Point.TheVariants.{Here}
use Rattle.fal_base.specs.declared.key.Key.{Key}
use Rattle.fal_place.specs.Placement.{owner, changes_since}
use Rattle.fal_dentry.specs.Walk.{without_keys}
use Rattle.fal_inode.specs.Named.{without_named}
use Rattle.fal_locks.specs.Locks.{LockTable, is_shut, is_held, is_name_held, with_shut}
use Rattle.fal_wait.specs.Waiting.{after_cancel}
use Rattle.fal_wire.specs.declared.message.Message.{Message}
use Rattle.fal_wire.specs.declared.message.Message.TheVariants as message
use Rattle.fal_batch.specs.Fate.{bars}
use Rattle.fal_duty.specs.Duties.{fetched_of, locked_of, blocked_of, part_of}
use Rattle.fal_node.specs.declared.item.Item.{Item}
use Rattle.fal_wire.specs.declared.letter.Letter.{Letter}
use Rattle.fal_node.specs.State.{NodeState, blocked_names, without_item}
use Rattle.fal_wire.specs.Letters.{letter}
use Rattle.fal_node.specs.Letters.{Work, begun, asker_of}

-- how a record is served: whether it can be now, and the work that this is, but that the item goes
pub record Service : Type 0 where
  pub can : Bool
  pub work : Work

-- ---- a question about a directory

-- whether the key lives at this node by its table
abbrev pub owns : NodeState → Key → Bool
owns node key = owner node.table key == node.number

-- it is served where its name is not blocked, and this node is not the owner or the key is not shut
abbrev pub can_tell : NodeState → Key → Bool
can_tell node key = not (bars (blocked_names node.blocked) key.name) && (not (owns node key) || not (is_shut node.locks key))

-- the owner tells the asker by its row; another node asks the owner
abbrev pub fetch_letter : NodeState → ℕ → ℕ → Key → Letter
fetch_letter node asker number key =
    if owns node key then letter (asker_of asker) (Here 0) (fetched_of node.rows number key)
    else letter (Node (owner node.table key)) (Here 0) (message.FetchAsk asker number key)

-- nothing else changes
abbrev pub fetch_service : NodeState → ℕ → ℕ → Key → Service
fetch_service node asker number key = record { can = can_tell node key; work = record (begun node) { sent = fetch_letter node asker number key ∷ [] } }

-- ---- a Lock

-- it is served where no batch holds one of the keys, and nothing is shut
abbrev pub can_shut : LockTable → List Key → Bool
can_shut locks keys = not (is_some locks.shut) && not (list_any (λ key. is_held locks key) keys)

-- the keys are shut by the operation; they leave the replica, and no fetch is pending any more: every waiting call is free
unfoldable pub shutting : NodeState → ℕ → List Key → NodeState
shutting node operation keys =
    record node {
      replica = without_keys node.replica keys;
      waiting = after_cancel node.waiting;
      locks = with_shut node.locks operation keys;
    }

-- the coordinator is told what stands here under the keys
abbrev pub lock_service : NodeState → ℕ → List Key → Service
lock_service node operation keys = record {
  can = can_shut node.locks keys;
  work = record { node = shutting node operation keys; sent = letter Coord (Here 0) (locked_of node.table node.rows node.number operation keys) ∷ []; notes = [] };
}

-- ---- a Block

-- it is served where no batch holds a key with the name, and nothing is blocked
abbrev pub can_block : NodeState → List ℕ → Bool
can_block node name = not (is_some node.blocked) && not (is_name_held node.locks name)

-- the rows of the name leave, and the operation has it blocked
unfoldable pub blocking : NodeState → ℕ → List ℕ → NodeState
blocking node operation name =
    record node { rows = without_named node.rows name; blocked = Some (record { operation = operation; names = One name }) }

-- the coordinator is told the rows that leave
abbrev pub block_service : NodeState → ℕ → List ℕ → Service
block_service node operation name = record {
  can = can_block node name;
  work = record { node = blocking node operation name; sent = letter Coord (Here 0) (blocked_of node.rows node.number operation name) ∷ []; notes = [] };
}

-- ---- a part of a listing

-- whether the asker's table is older than this one
abbrev pub is_behind : NodeState → ℕ → Bool
is_behind node version = nat_lt version node.table.version

-- nothing is shut and nothing is blocked, so each row of the tree that lives here is here
abbrev pub is_open : NodeState → Bool
is_open node = not (is_some node.locks.shut) && not (is_some node.blocked)

-- it is served where the asker's table is older; or it is the same, and nothing is shut or blocked
abbrev pub can_list : NodeState → ℕ → Bool
can_list node version = is_behind node version || ((version == node.table.version) && is_open node)

-- the changes since an older table; by the same table the names of the rows under the directory
abbrev pub list_message : NodeState → CallId → ℕ → ℕ → Message
list_message node id version dir =
    if is_behind node version then message.Stale id version node.table.version (changes_since version node.table)
    else part_of node.rows node.number id dir

-- the client is told
abbrev pub list_letter : NodeState → CallId → ℕ → ℕ → Letter
list_letter node id version dir = letter (Client id.client) (Here 0) (list_message node id version dir)

-- nothing else changes
abbrev pub list_service : NodeState → CallId → ℕ → ℕ → Service
list_service node id version dir = record { can = can_list node version; work = record (begun node) { sent = list_letter node id version dir ∷ [] } }

-- ---- any item

-- a record that is no item is never served
abbrev pub no_service : NodeState → Service
no_service node = record { can = false; work = begun node }

-- by the kind of the record
abbrev pub service_of : NodeState → Message → Service
service_of node (message.FetchAsk asker number key) = fetch_service node asker number key
service_of node (message.ListAsk id version dir) = list_service node id version dir
service_of node (message.Lock operation keys) = lock_service node operation keys
service_of node (message.Block operation name) = block_service node operation name
service_of node other = no_service node

-- whether the condition of the item holds
abbrev pub can_serve : NodeState → Message → Bool
can_serve node message = (service_of node message).can

-- the work of the service, and the item with this number is gone
abbrev pub served_as : Service → ℕ → Work
served_as service number = record service.work { node = without_item service.work.node number }

-- None where the service cannot be now
abbrev pub serve_as : Service → ℕ → Option Work
serve_as service number = if service.can then Some (served_as service number) else None

unfoldable pub served : NodeState → Item → Work
served node item = served_as (service_of node item.message) item.number

-- the item is there and its condition holds
abbrev pub serve : NodeState → Option Item → Option Work
serve node None = None
serve node (Some item) = if can_serve node item.message then Some (served node item) else None
