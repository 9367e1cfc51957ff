use Rattle.std.proofs.Common.{◌≡◌, map}
use Rattle.std.specs.List.{range_with_len}
use Rattle.fal_script.specs.Configs.{lane_calls}
use Rattle.fal_script.proofs.configs.config_of.Given as goal

-- the lanes so far have their calls
abbrev pub invariant-loop-place : goal.invariant-loop-place
invariant-loop-place l = l.lanes ≡ map (λ lane. lane_calls l.script.lines lane) (range_with_len 1 l.place)
