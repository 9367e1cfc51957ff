-- The actors and queues of a cluster before its first event.
use Rattle.std.specs.Prelude.{◌≡◌, ◌+◌, ℕ, List, [], Some, slice_get}
use Rattle.fal_base.specs.declared.call.Config.{Config}
use Rattle.fal_client.specs.State.{ClientState, opening_client}
use Rattle.fal_node.specs.Patch.{SeenNode}
use Rattle.fal_node.specs.State.{opening_node}
use Rattle.fal_story.specs.Clusters.{calls_of_lane}
use Rattle.fal_alone.specs.Queues.{QueueSeen}

abbrev pub AreClients : Config → List ClientState → Type 0
AreClients config clients = (place : ℕ) (c : ClientState) → slice_get clients place ≡ Some c → c ≡ opening_client (place + 1) config.nodes (calls_of_lane config (place + 1))

abbrev pub AreNodes : Config → List SeenNode → Type 0
AreNodes config nodes = (number : ℕ) (n : SeenNode) → slice_get nodes number ≡ Some n → n.state ≡ opening_node number config.nodes config.batch

abbrev pub AreEmpty : List QueueSeen → Type 0
AreEmpty queues = (place : ℕ) (queue : QueueSeen) → slice_get queues place ≡ Some queue → queue.items ≡ []
