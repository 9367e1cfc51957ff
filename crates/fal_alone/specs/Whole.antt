-- A cluster in one value: its actors and queues are those of its run.
use Rattle.std.specs.Prelude.{◌≡◌, ◌+◌, ℕ, Bool, List, length, Option, Some, None, slice_get}
use Rattle.fal_base.specs.declared.call.Config.{Config}
use Rattle.fal_base.specs.declared.event.Event.{Event}
use Rattle.fal_client.specs.State.{ClientState}
use Rattle.fal_coord.specs.State.{CoordState}
use Rattle.fal_node.specs.Patch.{SeenNode}
use Rattle.fal_story.specs.Fresh.{came}
use Rattle.fal_story.specs.Run.{run}
use Rattle.fal_story.specs.World.{World}
use Rattle.fal_alone.specs.Queues.{QueueSeen, HoldDue}

-- the clients are those of the lanes, from 1, the nodes those of their numbers, from 0, the coordinator is that of the world, and the queues hold what is due
pub record IsWholeIn (lanes : ℕ) (w : World) (came : ℕ → Bool) (clients : List ClientState) (nodes : List SeenNode) (coord : CoordState) (queues : List QueueSeen) : Type 0 where
  pub clients_are : (place : ℕ) (c : ClientState) → slice_get clients place ≡ Some c → c ≡ w.clients (place + 1)
  pub nodes_are : (number : ℕ) (n : SeenNode) → slice_get nodes number ≡ Some n → n.state ≡ w.nodes number
  pub coord_is : coord ≡ w.coord
  pub queues_are : HoldDue lanes came w.envelopes queues

abbrev pub IsWholeAt : ℕ → Option World → (ℕ → Bool) → List ClientState → List SeenNode → CoordState → List QueueSeen → Type 0
IsWholeAt lanes None came clients nodes coord queues = ⊥
IsWholeAt lanes (Some w) came clients nodes coord queues = IsWholeIn lanes w came clients nodes coord queues

-- a client for each lane, all nodes, the coordinator, and a queue for each of them
pub record IsWhole (config : Config) (events : List Event) (clients : List ClientState) (nodes : List SeenNode) (coord : CoordState) (queues : List QueueSeen) : Type 0 where
  pub clients_count : length clients ≡ length config.lanes
  pub nodes_count : length nodes ≡ config.nodes
  pub queues_count : length queues ≡ length config.lanes + 1 + config.nodes
  pub at : IsWholeAt (length config.lanes) (run config events) (came events) clients nodes coord queues
