-- One event of an actor keeps what holds of every legal run.
use Rattle.std.proofs.Common.{◌≡◌, ℕ, ◌<◌, Some}
use Rattle.std.specs.Prelude.{IsTrue}
use Rattle.std.specs.List.{All}
use Rattle.fal_base.specs.declared.call.Config.{Config}
use Rattle.fal_base.specs.Tree.{IsInOrder}
use Rattle.fal_client.specs.declared.event.ClientEvent.{ClientEvent}
use Rattle.fal_client.specs.declared.event.ClientEvent.TheVariants as client
use Rattle.fal_client.specs.State.{Work as ClientWork}
use Rattle.fal_client.specs.Step.{client_step}
use Rattle.fal_coord.specs.declared.event.CoordEvent.{CoordEvent}
use Rattle.fal_coord.specs.declared.event.CoordEvent.TheVariants as coord
use Rattle.fal_coord.specs.State.{Work as CoordWork}
use Rattle.fal_coord.specs.Step.{coord_step}
use Rattle.fal_node.specs.declared.event.NodeEvent.{NodeEvent}
use Rattle.fal_node.specs.declared.event.NodeEvent.TheVariants as node
use Rattle.fal_node.specs.Letters.{Work}
use Rattle.fal_node.specs.Step.{node_step}
use Rattle.fal_wire.specs.Messages.{Fits}
use Rattle.fal_story.proofs.Coordinator.HearEvent.{hear_event}
use Rattle.fal_story.proofs.Coordinator.StartEvent.{start_event}
use Rattle.fal_story.proofs.Events.ClientEvent.{EndsClient, send_event}
use Rattle.fal_story.proofs.Events.DeliverEvent.{deliver_event}
use Rattle.fal_story.proofs.Events.ExecEvent.{exec_event}
use Rattle.fal_story.proofs.Gathers.GatherEvent.{gather_event}
use Rattle.fal_story.proofs.Events.GetEvent.{get_event}
use Rattle.fal_story.proofs.Events.InCoord.{EndsCoord}
use Rattle.fal_story.proofs.Events.InStep.{Ends}
use Rattle.fal_story.proofs.Events.ServeEvent.{serve_event, release_event}
use Rattle.fal_story.proofs.Events.Shows.{Ghost, Shows}
use Rattle.fal_story.proofs.Ranges.Bounds.{Comes, ComesToClient, ComesToCoord}
use Rattle.fal_story.specs.Clusters.{IsCluster, is_lane}
use Rattle.fal_story.specs.World.{World}

pub node_event : (config : Config) (w : World) (n : ℕ) (h : Ghost) (e : NodeEvent) (work : Work) → IsCluster config → n < config.nodes → Shows config w h → IsInOrder (w.nodes n).rows → Comes w e
    → node_step (w.nodes n) e ≡ Some work → All (λ letter. Fits letter.message) work.sent → Ends config w n work
node_event config w n h (node.Deliver x) work cluster there shows sorted comes is fit = deliver_event config w n comes.0 x h work cluster there shows comes.1 is fit
node_event config w n h node.Gather work cluster there shows sorted comes is fit = gather_event config w n h work cluster there shows is fit
node_event config w n h (node.Exec number) work cluster there shows sorted comes is fit = exec_event config w n number h work cluster there shows is fit
node_event config w n h (node.Release number) work cluster there shows sorted comes is fit = release_event config w n number h work cluster there shows is fit
node_event config w n h (node.Serve number) work cluster there shows sorted comes is fit = serve_event config w n number h work cluster there shows sorted is fit

pub client_event : (config : Config) (w : World) (l : ℕ) (h : Ghost) (e : ClientEvent) (m : ClientWork) → IsCluster config → IsTrue (is_lane config l) → Shows config w h → ComesToClient w e
    → client_step (w.clients l) e ≡ Some m → All (λ s. Fits s.message) m.sent → EndsClient config w l m
client_event config w l h client.Send m cluster there shows comes is fit = send_event config w l h m cluster there shows is fit
client_event config w l h (client.Get x) m cluster there shows comes is fit = get_event config w l comes.0 x h m cluster shows comes.1 is fit

pub coord_event : (config : Config) (w : World) (h : Ghost) (e : CoordEvent) (k : CoordWork) → IsCluster config → Shows config w h → ComesToCoord w e → coord_step w.coord e ≡ Some k → All (λ letter. Fits letter.message) k.sent → EndsCoord config w k
coord_event config w h (coord.Hear x) k cluster shows comes is fit = hear_event config w h comes.0 x k cluster shows comes.1 is fit
coord_event config w h coord.Start k cluster shows comes is fit = start_event config w h k cluster shows is fit
