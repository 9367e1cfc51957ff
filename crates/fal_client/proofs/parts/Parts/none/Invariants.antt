use Rattle.std.proofs.Common.{◌≡◌}
use Rattle.fal_client.specs.Parts.{no_parts}
use Rattle.fal_client.proofs.parts.Parts.none.Given as goal

-- so many places are there
abbrev pub invariant-loop-node : goal.invariant-loop-node
invariant-loop-node l = l.places.items ≡ no_parts l._node
