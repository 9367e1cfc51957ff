use Rattle.std.proofs.Common.{◌≡◌, ◌++◌, length}
use Rattle.std.specs.List.{All}
use Rattle.fal_wait.specs.Waiting.{count_to}
use Rattle.fal_wire.specs.Messages.{Fits}
use Rattle.fal_node.specs.Gather.{gather_letters}
use Rattle.fal_node.proofs.gather.gather_letters.Given as goal

-- the records so far, and those for the rest, are all of them
abbrev pub invariant-loop-sending : goal.invariant-loop-sending
invariant-loop-sending l = record {
  whole : l.letters.items ++ gather_letters l.node.state (count_to l.last) l.rest ≡ gather_letters l.node.state l.node.state.waiting.opened l.sends;
  within : All (λ letter. Fits letter.message) (gather_letters l.node.state (count_to l.last) l.rest);
}

abbrev pub decreases-loop-sending : goal.decreases-loop-sending
decreases-loop-sending l = length l.rest
