-- Which events of a node are due, other than that an envelope comes.
use Rattle.std.specs.Prelude.{Bool, not, ◌&&◌, List, [], ◌∷◌, ◌++◌, length, map, filter, ◌==◌, if◌then◌else◌}
use Rattle.fal_batch.specs.Plan.{is_idle}
use Rattle.fal_node.specs.declared.event.NodeEvent.{NodeEvent}
use Rattle.fal_node.specs.declared.event.NodeEvent.TheVariants as node
use Rattle.fal_node.specs.declared.event.OwnEvent.{OwnEvent}
use Rattle.fal_node.specs.declared.event.OwnEvent.TheVariants.{Gather, Exec, Release, Serve}
use Rattle.fal_node.specs.State.{NodeState}
use Rattle.fal_node.specs.Gather.{plan_at}
use Rattle.fal_node.specs.Serve.{can_serve}

-- what a node does by itself, as an event of the node
abbrev pub event_of : OwnEvent → NodeEvent
event_of Gather = node.Gather
event_of (Exec batch) = node.Exec batch
event_of (Release batch) = node.Release batch
event_of (Serve item) = node.Serve item

abbrev pub due_gather : NodeState → List OwnEvent
due_gather node = if is_idle (plan_at node) then [] else Gather ∷ []

abbrev pub due_execs : NodeState → List OwnEvent
due_execs node = map (λ batch. Exec batch.number) (filter (λ batch. not batch.executed) node.batches)

abbrev pub due_releases : NodeState → List OwnEvent
due_releases node = map (λ batch. Release batch.number) (filter (λ batch. batch.executed) node.batches)

abbrev pub due_serves : NodeState → List OwnEvent
due_serves node = map (λ item. Serve item.number) (filter (λ item. can_serve node item.message) node.items)

-- the enabled events: Gather, then Execs and Releases by batch number, then Serves by item number
abbrev pub dues : NodeState → List OwnEvent
dues node = due_gather node ++ due_execs node ++ due_releases node ++ due_serves node

-- no batch, waiting call or item
abbrev pub is_quiet : NodeState → Bool
is_quiet node = (length node.batches == 0) && (length node.waiting.calls == 0) && (length node.items == 0)
