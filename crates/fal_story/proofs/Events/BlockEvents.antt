-- A Block comes to a node, and is its next item.
use Rattle.std.proofs.Common.{◌≡◌, ◌≢◌, ⊎_elim, ℕ, ◌<◌, List, [], Option, None, refl, subst, arith}
use Rattle.fal_base.specs.declared.call.Config.{Config}
use Rattle.fal_base.specs.declared.event.Actor.TheVariants.{Node}
use Rattle.fal_base.specs.declared.row.Update.{Update}
use Rattle.fal_base.specs.declared.rule.Rule.{Rule}
use Rattle.fal_node.specs.Deliver.{take_operation}
use Rattle.fal_node.specs.Letters.{begun}
use Rattle.fal_place.specs.Placement.{Placement}
use Rattle.fal_wire.specs.declared.message.Message.{Message}
use Rattle.fal_wire.specs.declared.message.Message.TheVariants as message
use Rattle.fal_story.proofs.Events.GotEvent.{AllFit}
use Rattle.fal_story.proofs.Events.InStep.{Ends}
use Rattle.fal_story.proofs.Events.LockEvents.{operation_event, operation_queues}
use Rattle.fal_story.proofs.Events.Shows.{Ghost, Shows, view_of, posts_of}
use Rattle.fal_story.proofs.Families.Bars.{Bar}
use Rattle.fal_story.proofs.Steps.Comes.{block_comes}
use Rattle.fal_story.proofs.Steps.Placed.{block_queued_good}
use Rattle.fal_story.proofs.View.{IsPosted, Blocks}
use Rattle.fal_story.specs.World.{World}

-- a node that has not heard of the operation has no other to serve
unheard_none : (table own : Placement) (operation n lane : ℕ) (name : List ℕ) (rule : Rule) (missing : List ℕ) (came : List Update) (barred : Option (ℕ × List ℕ)) (queued : Option Message) (last : ℕ) (due : List Update) → last < operation
    → Bar table operation (Blocks lane name rule missing came) n own barred queued last due → queued ≡ None
unheard_none table own operation n lane name rule missing came barred queued last due newer bar = ⊎_elim
    (λ x. ⊎_elim (λ away. away.0) (λ here. let same = here.1 in absurd (omega arith)) x.3)
    (λ x. x.1.0)
    bar.1

pub block_event : (config : Config) (w : World) (n : ℕ) (h : Ghost) (e p operation : ℕ) (name : List ℕ) → n ≢ 255 → Shows config w h → AllFit [] → IsPosted (posts_of w.envelopes) e (Node n) p (message.Block operation name)
    → Ends config w n (begun (take_operation (w.nodes n) operation (message.Block operation name)))
block_event config w n h e p operation name other s fit at = operation_event config w n h operation (message.Block operation name) other s fit (λ newer.
    let v = view_of config w h in
    let comes = block_comes config v e p n operation name at newer s.good in
    let place = comes.2 in
    let newest : (w.nodes n).last_operation < w.coord.operation = subst (λ o. (w.nodes n).last_operation < o) comes.1 newer in
    let bar = subst (λ d. Bar v.map.table w.coord.operation d n (v.map.tables n) (v.map.barred n) (h.queued n) (w.nodes n).last_operation (h.due n)) place.is (s.good.bars.stands n comes.0) in
    let none = unheard_none v.map.table (v.map.tables n) w.coord.operation n place.lane name place.rule place.missing place.came (v.map.barred n) (h.queued n) (w.nodes n).last_operation (h.due n) newest bar in
    operation_queues config w n h e p operation (λ o. message.Block o name) other s fit at refl comes.1 none (block_queued_good config v place.lane name place.rule n place.missing place.came place.is newest s.good))
