use Rattle.std.proofs.Common.{◌≡◌, ◌++◌, map, take}
use Rattle.fal_node.proofs.gather.add_leaving.Given as goal

abbrev pub invariant-loop-away : goal.invariant-loop-away
invariant-loop-away l = l.tickets.items ≡ l.initial.tickets.items ++ map (λ away. away.ticket) (take l.away-index l.calls)
