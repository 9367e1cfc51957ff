use Rattle.std.proofs.Common.{◌≡◌, take}
use Rattle.fal_client.specs.Parts.{greatest_point}
use Rattle.fal_client.proofs.parts.Parts.greatest_point.Given as goal

-- the greatest so far
abbrev pub invariant-loop-place : goal.invariant-loop-place
invariant-loop-place l = l.greatest ≡ greatest_point l.point (take l.place-index l.place-items)
