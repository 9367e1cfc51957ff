-- The steps of a node.
use Rattle.std.specs.Prelude.{ℕ, ◌+◌, ◌*◌, ◌<◌, ◌≤◌, ◌^◌, Bool, true, false, Option, None, Some, ◌==◌, IsTrue}
use Rattle.std.specs.List.{All, list_any}
use Rattle.std.specs.Option.{ForSome}
use Rattle.fal_base.specs.declared.event.Actor.{Actor}
use Rattle.fal_base.specs.declared.event.Actor.TheVariants.{Client, Node, Coord}
use Rattle.fal_wire.specs.Messages.{Fits}
use Rattle.fal_node.specs.declared.batch.Batch.{Batch}
use Rattle.fal_node.specs.declared.event.NodeEvent.{NodeEvent}
use Rattle.fal_node.specs.declared.event.NodeEvent.TheVariants.{Deliver, Gather, Exec, Release, Serve}
use Rattle.fal_node.specs.State.{NodeState, batch_of, item_of, released}
use Rattle.fal_node.specs.Letters.{Work, begun}
use Rattle.fal_run.specs.Letters.{commits_in}
use Rattle.fal_run.specs.Work.{is_numbered}
use Rattle.fal_node.specs.Deliver.{delivered}
use Rattle.fal_node.specs.Gather.{plan_at, gather}
use Rattle.fal_node.specs.Exec.{execute}
use Rattle.fal_node.specs.Serve.{serve}

abbrev pub is_to_node : Actor → ℕ → Bool
is_to_node (Client lane) number = false
is_to_node (Node node) number = node == number
is_to_node Coord number = false

abbrev pub only_if : {A : Type 0} → Bool → A → Option A
only_if true x = Some x
only_if false x = None

-- the batch is there, and executed
abbrev pub release : NodeState → ℕ → Option Batch → Option Work
release node number None = None
release node number (Some batch) = only_if batch.executed (begun (released node number))

-- None where the event is not enabled
unfoldable pub node_step : NodeState → NodeEvent → Option Work
node_step node (Deliver envelope) = only_if (is_to_node envelope.to node.number) (delivered node envelope)
node_step node Gather = gather node (plan_at node)
node_step node (Exec number) = execute node number (batch_of node number)
node_step node (Release number) = release node number (batch_of node number)
node_step node (Serve number) = serve node (item_of node number)

-- the last inode number that a node has drawn
abbrev pub last_number : NodeState → ℕ
last_number node = 256 * node.drawn + node.number

-- each record is within the ranges of the format, and no counter or sum is past the end of its type; where inode numbers are drawn, they fit
pub record IsWithin (work : Work) : Type 0 where
  pub records : All (λ letter. Fits letter.message) work.sent
  pub tickets : work.node.waiting.tickets < 2 ^ 64
  pub fetches : work.node.waiting.opened ≤ 2 ^ 64
  pub items : work.node.items_numbered < 2 ^ 64
  pub batches : work.node.batches_numbered < 2 ^ 64
  pub numbers : IsTrue (list_any is_numbered work.notes) → last_number work.node < 2 ^ 64
  pub commits : commits_in work.notes + 1 < 2 ^ 32

-- the event, where it is enabled, stays within the ranges
abbrev pub StaysWithin : NodeState → NodeEvent → Type 0
StaysWithin node event = ForSome (node_step node event) IsWithin
