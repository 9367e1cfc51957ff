use Rattle.std.proofs.Common.{◌≡◌, ◌++◌, length}
use Rattle.fal_node.specs.Deliver.{refusals}
use Rattle.fal_node.proofs.settle.refusals.Given as goal

-- the answers so far, and those to come
abbrev pub invariant-loop-ticket : goal.invariant-loop-ticket
invariant-loop-ticket l = l.letters.items ++ refusals l.waiting.list l.errno l.point l.rest ≡ refusals l.waiting.list l.errno l.point l.tickets

abbrev pub decreases-loop-ticket : goal.decreases-loop-ticket
decreases-loop-ticket l = length l.rest
