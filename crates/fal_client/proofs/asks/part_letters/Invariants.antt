use Rattle.std.proofs.Common.{◌≡◌, map}
use Rattle.std.specs.List.{range_with_len}
use Rattle.fal_client.specs.Step.{part_letter}
use Rattle.fal_client.proofs.asks.part_letters.Given as goal

-- the nodes so far are asked
abbrev pub invariant-loop-node : goal.invariant-loop-node
invariant-loop-node l = l.letters.items ≡ map (part_letter l.id l.version l.dir) (range_with_len 0 l.node)
