use Rattle.std.proofs.Common.{◌≡◌, ◌≤◌, take}
use Rattle.fal_base.specs.Paths.{path_bytes}
use Rattle.fal_story.proofs.cluster.is_short.Given as goal

abbrev pub invariant-loop-name : goal.invariant-loop-name
invariant-loop-name l = record { so_far : l.bytes ≡ path_bytes (take l.name-index l.names); short : l.bytes ≤ 4095 }
