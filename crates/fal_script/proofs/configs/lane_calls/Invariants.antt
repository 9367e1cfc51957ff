use Rattle.std.proofs.Common.{◌≡◌, take}
use Rattle.fal_script.specs.Configs.{lane_calls}
use Rattle.fal_script.proofs.configs.lane_calls.Given as goal

-- the calls of the lane in the lines so far
abbrev pub invariant-loop-line : goal.invariant-loop-line
invariant-loop-line l = l.calls ≡ lane_calls (take l.line-index l.lines) l.lane
