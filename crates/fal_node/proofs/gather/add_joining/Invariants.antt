use Rattle.std.proofs.Common.{◌≡◌, ◌++◌, map, take}
use Rattle.fal_node.proofs.gather.add_joining.Given as goal

abbrev pub invariant-loop-planned : goal.invariant-loop-planned
invariant-loop-planned l = l.tickets.items ≡ l.initial.tickets.items ++ map (λ planned. planned.ticket) (take l.planned-index l.calls)
