-- The cluster that a script asks for.
use Rattle.std.specs.Prelude.{ℕ, List, map, ◌==◌}
use Rattle.std.specs.List.{filter, range_with_len}
use Rattle.fal_base.specs.declared.call.Call.{Call}
use Rattle.fal_base.specs.declared.call.Config.{Config}
use Rattle.fal_script.specs.declared.script.Script.{Script}
use Rattle.fal_script.specs.declared.script.ScriptCall.{ScriptCall}

-- the calls of one lane, in line order
abbrev pub lane_calls : List ScriptCall → ℕ → List Call
lane_calls lines lane = map (λ line. line.call) (filter (λ line. line.lane == lane) lines)

-- the calls of each lane, from 1 on
abbrev pub lanes_of_script : List ScriptCall → ℕ → List (List Call)
lanes_of_script lines lanes = map (λ lane. lane_calls lines lane) (range_with_len 1 lanes)

-- the lanes of a script's calls, in line order
abbrev pub order_of : List ScriptCall → List ℕ
order_of lines = map (λ line. line.lane) lines

-- its nodes, batches of at most so many calls, and the calls of each lane from 1 on
abbrev pub config_of_script : Script → ℕ → Config
config_of_script script batch =
    record {
      nodes = script.nodes;
      batch = batch;
      lanes = lanes_of_script script.lines script.lanes;
    }
