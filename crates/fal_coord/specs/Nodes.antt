-- The nodes that the coordinator speaks with.
use Rattle.std.specs.Prelude.{ℕ, zero, suc, Bool, true, false, List, [], ◌∷◌, map, ◌==◌, if◌then◌else◌}
use Rattle.std.specs.List.{list_any, range_with_len}
use Rattle.fal_base.specs.declared.event.Actor.TheVariants.{Node}
use Rattle.fal_base.specs.declared.event.Point.TheVariants.{Here}
use Rattle.fal_wire.specs.declared.letter.Letter.{Letter}
use Rattle.fal_wire.specs.declared.message.Message.{Message}
use Rattle.fal_wire.specs.declared.message.Message.TheVariants as order
use Rattle.fal_wire.specs.Letters.{letter}

-- all nodes of so many, the last first: those that are still to be heard at first
abbrev pub numbers_below : ℕ → List ℕ
numbers_below zero = []
numbers_below (suc n) = n ∷ numbers_below n

-- whether the node is still to be heard
abbrev pub is_missing : ℕ → List ℕ → Bool
is_missing node missing = list_any (λ other. other == node) missing

-- those that are still to be heard once this node was
abbrev pub without_node : ℕ → List ℕ → List ℕ
without_node node [] = []
without_node node (other ∷ missing) = if other == node then without_node node missing else other ∷ without_node node missing

-- a record to each node, in their order
abbrev pub to_nodes : ℕ → Message → List Letter
to_nodes nodes message = map (λ node. letter (Node node) (Here 0) message) (range_with_len 0 nodes)

-- whether it is one of the messages that every node is sent
abbrev pub is_order : Message → Bool
is_order (order.Lock number keys) = true
is_order (order.Count number dir) = true
is_order (order.Commit number updates) = true
is_order (order.Block number name) = true
is_order other = false
