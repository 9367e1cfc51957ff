-- A node that took few records.
use Rattle.std.specs.Prelude.{◌≡◌, ℕ, ◌≤◌, [], None}
use Rattle.fal_node.specs.declared.event.NodeEvent.{NodeEvent}
use Rattle.fal_node.specs.declared.event.NodeEvent.TheVariants.{Deliver}
use Rattle.fal_node.specs.State.{NodeState}

-- no fetch was opened, no batch made, no key shut and no name blocked, and at most so many calls and items were numbered
pub record IsYoung (n : ℕ) (node : NodeState) : Type 0 where
  pub number : node.number ≤ 15
  pub fetches : node.waiting.fetches ≡ []
  pub opened : node.waiting.opened ≡ 0
  pub batches : node.batches_numbered ≡ 0
  pub drawn : node.drawn ≡ 0
  pub shut : node.locks.shut ≡ None
  pub blocked : node.blocked ≡ None
  pub tickets : node.waiting.tickets ≤ n
  pub items : node.items_numbered ≤ n

-- an envelope comes
abbrev pub IsDelivery : NodeEvent → Type 0
IsDelivery (Deliver envelope) = Unit {0}
IsDelivery other = ⊥
