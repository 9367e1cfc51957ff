-- When a step that was prepared can be made, and which step it is.
use Rattle.std.specs.Prelude.{◌≡◌, ◌+◌, ◌<◌, ◌≤◌, ◌^◌, List, [], ◌∷◌, length, map, Option, None, Some, IsTrue}
use Rattle.fal_base.specs.declared.key.Key.{Key}
use Rattle.fal_wait.specs.Lists.{IsPartOf}
use Rattle.fal_wait.specs.Waiting.{WaitList, free_tickets, after_open, is_new}
use Rattle.fal_locks.specs.Locks.{first_shut}
use Rattle.fal_batch.specs.declared.parts.Wanted.{Wanted}
use Rattle.fal_run.specs.declared.call.BatchCall.{BatchCall}
use Rattle.fal_node.specs.declared.event.NodeEvent.{NodeEvent}
use Rattle.fal_node.specs.declared.patch.Patch.{Patch}
use Rattle.fal_node.specs.declared.patch.Patch.TheVariants as patch
use Rattle.fal_node.specs.declared.draft.Draft.{Draft}
use Rattle.fal_node.specs.declared.patch.Prepared.{Prepared}
use Rattle.fal_node.specs.State.{NodeState}
use Rattle.fal_wire.specs.Letters.{output_of}
use Rattle.fal_node.specs.Letters.{Work}
use Rattle.fal_node.specs.Step.{node_step}
use Rattle.fal_node.specs.Patch.{NodeRoom, SeenNode, patched, puts_in, rows_put}
use Rattle.fal_node.specs.Serve.{can_shut}
use Rattle.fal_run.specs.Calls.{is_row_op, are_row_calls}

-- each fetch's waiters are free when it is opened
abbrev pub CanOpen : WaitList → List Wanted → Type 0
CanOpen list [] = Unit {0}
CanOpen list (wanted ∷ fetches) = IsPartOf wanted.waiters (free_tickets list) × CanOpen (after_open list wanted.key wanted.waiters) fetches

-- there is room for a batch that holds the keys
pub record HasBatchRoom (room : NodeRoom) (keys : List Key) : Type 0 where
  pub batch : 1 ≤ room.batches
  pub holder : 1 ≤ room.locks
  pub holder_keys : length keys ≤ room.locks

-- where no call joins there is no batch
abbrev pub HasRoomForBatch : NodeRoom → List BatchCall → List Key → Type 0
HasRoomForBatch room [] keys = Unit {0}
HasRoomForBatch room (call ∷ calls) keys = HasBatchRoom room keys

-- the batch's number fits, none of its keys is shut, and one row decides each of its calls
pub record CanBatch (node : NodeState) (calls : List BatchCall) (keys : List Key) : Type 0 where
  pub number : node.batches_numbered + 1 < 2 ^ 64
  pub open_keys : first_shut node.locks keys ≡ None
  pub row_calls : IsTrue (are_row_calls calls)

abbrev pub CanHaveBatch : NodeState → List BatchCall → List Key → Type 0
CanHaveBatch node [] keys = Unit {0}
CanHaveBatch node (call ∷ calls) keys = CanBatch node (call ∷ calls) keys

-- there is room to shut the keys
pub record HasRoomToShut (room : NodeRoom) (keys : List Key) : Type 0 where
  pub operation : 1 ≤ room.locks
  pub shut_keys : length keys ≤ room.locks

-- there is room for the change
abbrev pub HasRoom : NodeRoom → Patch → Type 0
HasRoom room patch.Nothing = Unit {0}
HasRoom room (patch.Admit call) = 1 ≤ room.waiting
HasRoom room (patch.Keep operation message) = 1 ≤ room.items
HasRoom room (patch.Learn fetch key dentry) = 1 ≤ room.replica
HasRoom room (patch.Dismiss fetch tickets) = Unit {0}
HasRoom room (patch.Gather fetches tickets calls keys) = (length fetches.items ≤ room.waiting) × HasRoomForBatch room calls keys.items
HasRoom room (patch.Execute batch changes drawn) = puts_in changes.items ≤ room.rows
HasRoom room (patch.Release batch) = Unit {0}
HasRoom room (patch.Serve item) = Unit {0}
HasRoom room (patch.Shut item operation keys) = HasRoomToShut room keys.items
HasRoom room (patch.Reopen operation updates) = rows_put updates.items ≤ room.rows
HasRoom room (patch.Block item operation name) = Unit {0}
HasRoom room (patch.Install table updates) = rows_put updates.items ≤ room.rows

-- the change suits the node, and takes no counter past the end of its type
abbrev pub CanChange : NodeState → Patch → Type 0
CanChange node patch.Nothing = Unit {0}
CanChange node (patch.Admit call) = (node.waiting.tickets + 1 < 2 ^ 64) × IsTrue (is_row_op call.op)
CanChange node (patch.Keep operation message) = node.items_numbered + 1 < 2 ^ 64
CanChange node (patch.Learn fetch key dentry) = Unit {0}
CanChange node (patch.Dismiss fetch tickets) = Unit {0}
CanChange node (patch.Gather fetches tickets calls keys) =
    (node.waiting.opened + length fetches.items ≤ 2 ^ 64) × CanOpen node.waiting fetches.items × CanHaveBatch node calls keys.items
CanChange node (patch.Execute batch changes drawn) = node.drawn + drawn < 2 ^ 64
CanChange node (patch.Release batch) = Unit {0}
CanChange node (patch.Serve item) = Unit {0}
CanChange node (patch.Shut item operation keys) = IsTrue (can_shut node.locks keys.items)
CanChange node (patch.Reopen operation updates) = Unit {0}
CanChange node (patch.Block item operation name) = Unit {0}
CanChange node (patch.Install table updates) = Unit {0}

abbrev pub CanPatch : SeenNode → Patch → Type 0
CanPatch s patch = HasRoom s.room patch × CanChange s.state patch

-- the node can make the step that was prepared
abbrev pub CanApply : SeenNode → Prepared → Type 0
CanApply s prepared = CanPatch s prepared.patch

-- the node after it
abbrev pub after : SeenNode → Prepared → NodeState
after s prepared = patched s.state prepared.patch

-- what was prepared is the step that does this work, and can be made
pub record IsStep (s : SeenNode) (work : Work) (prepared : Prepared) : Type 0 where
  pub node : work.node ≡ patched s.state prepared.patch
  pub sent : prepared.outputs.sent ≡ map output_of work.sent
  pub notes : prepared.outputs.notes ≡ work.notes
  pub can_apply : CanApply s prepared

abbrev pub IsStepOf : SeenNode → Option Work → Prepared → Type 0
IsStepOf s None prepared = ⊥
IsStepOf s (Some work) prepared = IsStep s work prepared

-- what was prepared is the node's step for the event
abbrev pub IsStepFor : SeenNode → NodeEvent → Prepared → Type 0
IsStepFor s event prepared = IsStepOf s (node_step s.state event) prepared

-- the change, the messages and the notes of a draft are those of the work
pub record Does (node : NodeState) (work : Work) (draft : Draft) : Type 0 where
  pub node_after : work.node ≡ patched node draft.patch
  pub sent : draft.letters.items ≡ work.sent
  pub notes : draft.notes.items ≡ work.notes

-- a draft exactly where the event is enabled
abbrev pub DoesOf : NodeState → Option Work → Option Draft → Type 0
DoesOf node None None = Unit {0}
DoesOf node None (Some draft) = ⊥
DoesOf node (Some work) None = ⊥
DoesOf node (Some work) (Some draft) = Does node work draft

-- a change that gathers, and can be made but for room and counters
abbrev pub CanGather : NodeState → Patch → Type 0
CanGather node (patch.Gather fetches tickets calls keys) = CanOpen node.waiting fetches.items × (first_shut node.locks keys.items ≡ None) × IsTrue (are_row_calls calls)
CanGather node other = ⊥

-- a change that can be made but for room and counters. An admitted call is one that is taken
abbrev pub CanDraft : NodeState → Patch → Type 0
CanDraft node (patch.Admit call) = IsTrue (is_new node.waiting call) × IsTrue (is_row_op call.op)
CanDraft node (patch.Gather fetches tickets calls keys) = CanGather node (patch.Gather fetches tickets calls keys)
CanDraft node (patch.Execute batch changes drawn) = node.drawn + drawn < 2 ^ 64
CanDraft node (patch.Shut item operation keys) = IsTrue (can_shut node.locks keys.items)
CanDraft node other = Unit {0}
