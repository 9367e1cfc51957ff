-- The own events of clients, nodes and the coordinator.
use Rattle.std.proofs.Common.{◌≡◌, ℕ, true, false, IsTrue, refl}
use Rattle.std.specs.Prelude.{IsNone}
use Rattle.fal_base.specs.declared.event.Actor.TheVariants.{Client, Node, Coord}
use Rattle.fal_base.specs.declared.event.Event.{Event}
use Rattle.fal_client.specs.declared.event.ClientEvent.{ClientEvent}
use Rattle.fal_client.specs.State.{ClientState}
use Rattle.fal_client.specs.Step.{client_step}
use Rattle.fal_coord.specs.declared.event.CoordEvent.{CoordEvent}
use Rattle.fal_coord.specs.State.{CoordState}
use Rattle.fal_coord.specs.Step.{coord_step}
use Rattle.fal_node.specs.declared.event.NodeEvent.{NodeEvent}
use Rattle.fal_node.specs.State.{NodeState}
use Rattle.fal_node.specs.Step.{node_step}
use Rattle.fal_story.specs.Actors.{actor_of}
use Rattle.fal_story.specs.Clusters.{is_lane, is_node}
use Rattle.fal_story.specs.Machines.{ClientMachine, NodeMachine, CoordMachine, client_made, node_made, coord_made}
use Rattle.fal_story.specs.Told.{Told}
use Rattle.fal_alone.proofs.Turns.{makes_own, none_absent, made_by}
use Rattle.fal_alone.specs.Turns.{world_of, deed_after, IsOwn, ClientGets, NodeGets, CoordGets, IsEventOfClient, IsEventOfNode, IsEventOfCoord, IsClientIn, IsNodeIn, IsCoordIn}

module _ (told : Told) (e : Event) (lane : ℕ) (own : ClientEvent) (is : IsEventOfClient told e lane own) where
  -- the client of a lane that is there makes of the event what it makes of its own
  pub client_own : (c : ClientState) → IsTrue (is_lane told.config lane) → IsClientIn (world_of told) lane c → IsOwn told e (ClientMachine c) (client_made (client_step c own))
  client_own = makes_own told e (Client lane) (is_lane told.config lane) ClientMachine (λ c. client_made (client_step c own)) (ClientGets own) (λ w. w.clients lane) (λ w. refl) is

  -- no event of a lane that is not there is enabled
  pub client_absent : is_lane told.config lane ≡ false → IsNone (deed_after told e)
  client_absent = none_absent told e (Client lane) (is_lane told.config lane) ClientMachine (λ c. client_made (client_step c own)) (ClientGets own) (λ w. w.clients lane) (λ w. refl) is

  pub client_by : actor_of e ≡ Client lane
  client_by = made_by told e (Client lane) (is_lane told.config lane) ClientMachine (λ c. client_made (client_step c own)) (ClientGets own) (λ w. w.clients lane) (λ w. refl) is

module _ (told : Told) (e : Event) (number : ℕ) (own : NodeEvent) (is : IsEventOfNode told e number own) where
  -- a node that is there makes of the event what it makes of its own
  pub node_own : (n : NodeState) → IsTrue (is_node told.config number) → IsNodeIn (world_of told) number n → IsOwn told e (NodeMachine n) (node_made (node_step n own))
  node_own = makes_own told e (Node number) (is_node told.config number) NodeMachine (λ n. node_made (node_step n own)) (NodeGets own) (λ w. w.nodes number) (λ w. refl) is

  -- no event of a node that is not there is enabled
  pub node_absent : is_node told.config number ≡ false → IsNone (deed_after told e)
  node_absent = none_absent told e (Node number) (is_node told.config number) NodeMachine (λ n. node_made (node_step n own)) (NodeGets own) (λ w. w.nodes number) (λ w. refl) is

  pub node_by : actor_of e ≡ Node number
  node_by = made_by told e (Node number) (is_node told.config number) NodeMachine (λ n. node_made (node_step n own)) (NodeGets own) (λ w. w.nodes number) (λ w. refl) is

module _ (told : Told) (e : Event) (own : CoordEvent) (is : IsEventOfCoord told e own) where
  -- the coordinator makes of the event what it makes of its own
  pub coord_own : (c : CoordState) → IsCoordIn (world_of told) c → IsOwn told e (CoordMachine c) (coord_made (coord_step c own))
  coord_own c at = makes_own told e Coord true CoordMachine (λ x. coord_made (coord_step x own)) (CoordGets own) (λ w. w.coord) (λ w. refl) is c refl at

  pub coord_by : actor_of e ≡ Coord
  coord_by = made_by told e Coord true CoordMachine (λ x. coord_made (coord_step x own)) (CoordGets own) (λ w. w.coord) (λ w. refl) is
