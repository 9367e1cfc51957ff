-- A record comes to the coordinator.
use Rattle.std.proofs.Common.{◌≡◌, ℕ, cond, Some, None, Result, Ok, Err, refl, sym, ap, ◌∙◌, subst}
use Rattle.std.specs.Prelude.{slice_get}
use Rattle.std.specs.Result.{result_ok}
use Rattle.std.proofs.lemmas.Option.{same_Some}
use Rattle.fal_base.specs.declared.call.Config.{Config}
use Rattle.fal_base.specs.declared.event.Actor.{Actor}
use Rattle.fal_base.specs.declared.event.Actor.TheVariants.{Client, Node, Coord}
use Rattle.fal_base.specs.declared.event.Envelope.{Envelope}
use Rattle.fal_coord.specs.declared.event.CoordEvent.TheVariants.{Hear}
use Rattle.fal_coord.specs.Hear.{heard, take_message, take_read}
use Rattle.fal_coord.specs.State.{Work}
use Rattle.fal_coord.specs.Step.{coord_step, is_to_coord}
use Rattle.fal_wire.specs.declared.fault.WireFault.{WireFault}
use Rattle.fal_wire.specs.declared.message.Message.{Message}
use Rattle.fal_wire.specs.declared.message.Message.TheVariants as message
use Rattle.fal_wire.specs.Messages.{reading}
use Rattle.fal_story.proofs.Coordinator.AtStage.{stays}
use Rattle.fal_story.proofs.Coordinator.BlockedHeard.{blocked_heard}
use Rattle.fal_story.proofs.Coordinator.CallHeard.{call_heard}
use Rattle.fal_story.proofs.Coordinator.CountedHeard.{counted_heard}
use Rattle.fal_story.proofs.Coordinator.DoneHeard.{done_heard}
use Rattle.fal_story.proofs.Coordinator.FoundHeard.{found_heard}
use Rattle.fal_story.proofs.Coordinator.InstalledHeard.{installed_heard}
use Rattle.fal_story.proofs.Coordinator.LockedHeard.{locked_heard}
use Rattle.fal_story.proofs.Events.DeliverEvent.{post_at}
use Rattle.fal_story.proofs.Events.GotEvent.{AllFit}
use Rattle.fal_story.proofs.Events.InCoord.{EndsCoord}
use Rattle.fal_story.proofs.Events.Shows.{Ghost, Shows, posts_of}
use Rattle.fal_story.proofs.View.{IsPosted, seat}
use Rattle.fal_story.specs.Clusters.{IsCluster}
use Rattle.fal_story.specs.World.{World}

-- by the kind of the record
message_heard : (config : Config) (w : World) (h : Ghost) (e p : ℕ) (m : Message) → IsCluster config → Shows config w h → IsPosted (posts_of w.envelopes) e (Node 255) p m → AllFit (take_message w.coord p m).sent → EndsCoord config w (take_message w.coord p m)
message_heard config w h e p (message.Call call) cluster shown posted fit = call_heard config w h e p call cluster shown posted fit
message_heard config w h e p (message.FetchGot number key what) cluster shown posted fit = found_heard config w h e p number key what cluster shown posted fit
message_heard config w h e p (message.Locked number node rows) cluster shown posted fit = locked_heard config w h e p number node rows cluster shown posted fit
message_heard config w h e p (message.Counted number node count) cluster shown posted fit = counted_heard config w h e p number node count cluster shown posted fit
message_heard config w h e p (message.Done number node) cluster shown posted fit = done_heard config w h e p number node shown posted
message_heard config w h e p (message.Reply id reply) cluster shown posted fit = stays config w h shown
message_heard config w h e p (message.Stale id old new changes) cluster shown posted fit = stays config w h shown
message_heard config w h e p (message.Opened id dir) cluster shown posted fit = stays config w h shown
message_heard config w h e p (message.ListAsk id version dir) cluster shown posted fit = stays config w h shown
message_heard config w h e p (message.ListPart id from names) cluster shown posted fit = stays config w h shown
message_heard config w h e p (message.FetchAsk asker number key) cluster shown posted fit = stays config w h shown
message_heard config w h e p (message.Lock number keys) cluster shown posted fit = stays config w h shown
message_heard config w h e p (message.Count number dir) cluster shown posted fit = stays config w h shown
message_heard config w h e p (message.Commit number updates) cluster shown posted fit = stays config w h shown
message_heard config w h e p (message.Block number name) cluster shown posted fit = stays config w h shown
message_heard config w h e p (message.Blocked number node rows) cluster shown posted fit = blocked_heard config w h e p number node rows cluster shown posted fit
message_heard config w h e p (message.Install number version rule rows) cluster shown posted fit = stays config w h shown
message_heard config w h e p (message.Installed number node) cluster shown posted fit = installed_heard config w h e p number node shown posted

-- by what the bytes are read as
read_heard : (config : Config) (w : World) (h : Ghost) (e p : ℕ) (r : Result Message WireFault) → IsCluster config → Shows config w h → slice_get (posts_of w.envelopes) e ≡ Some (record { to = Node 255; point = p; message = result_ok r })
    → AllFit (take_read w.coord p r).sent → EndsCoord config w (take_read w.coord p r)
read_heard config w h e p (Ok m) cluster shown posted fit = message_heard config w h e p m cluster shown posted fit
read_heard config w h e p (Err fault) cluster shown posted fit = stays config w h shown

-- an event that is enabled came to the coordinator
for_coord : (to : Actor) (k work : Work) → cond (is_to_coord to) (Some k) None ≡ Some work → (to ≡ Coord) × (k ≡ work)
for_coord (Client lane) k work is = absurd (cc)
for_coord (Node n) k work is = absurd (cc)
for_coord Coord k work is = (refl, same_Some k work is)

pub hear_event : (config : Config) (w : World) (h : Ghost) (number : ℕ) (x : Envelope) (k : Work) → IsCluster config → Shows config w h → slice_get w.envelopes number ≡ Some x → coord_step w.coord (Hear x) ≡ Some k → AllFit k.sent → EndsCoord config w k
unfolding coord_step heard
hear_event config w h number x k cluster shown at is fit =
    let to = for_coord x.to (heard w.coord x) k is in
    let post : slice_get (posts_of w.envelopes) number ≡ Some (record { to = Node 255; point = x.point; message = result_ok (reading x.bytes) }) =
    post_at w.envelopes number x at ∙ ap (λ (a : Actor). Some (record { to = seat a; point = x.point; message = result_ok (reading x.bytes) })) to.0 in
    subst (EndsCoord config w) to.1 (read_heard config w h number x.point (reading x.bytes) cluster shown post (subst (λ (k : Work). AllFit k.sent) (sym to.1) fit))
