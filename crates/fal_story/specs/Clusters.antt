-- Which clusters may run.
use Rattle.std.specs.Prelude.{◌≡◌, ℕ, ◌<◌, ◌≤◌, ◌^◌, Bool, true, false, List, [], length, None, IsTrue, nat_lt, nat_le, ◌&&◌, unwrap_or, sum_by}
use Rattle.std.specs.List.{All, list_all}
use Rattle.fal_base.specs.declared.call.Call.{Call}
use Rattle.fal_base.specs.declared.call.Config.{Config}
use Rattle.fal_base.specs.declared.op.Op.{Op}
use Rattle.fal_base.specs.declared.op.Op.TheVariants as op
use Rattle.fal_base.specs.declared.path.PathArg.{PathArg}
use Rattle.fal_base.specs.declared.path.PathArg.TheVariants.{Good, Bad}
use Rattle.fal_base.specs.declared.rule.Rule.{Rule}
use Rattle.fal_base.specs.declared.rule.Rule.TheVariants as rule
use Rattle.fal_base.specs.Names.{is_name}
use Rattle.fal_base.specs.Paths.{path_bytes}
use Rattle.fal_base.specs.Transcript.{numbered}
use Rattle.fal_base.specs.OpPaths.{bad_path, paths_of}
use Rattle.fal_base.specs.PathArgs.{IsRead}
use Rattle.fal_wire.specs.Numbers.{cred_field}
use Rattle.fal_wire.specs.Ops.{op_field}

-- a bad path has the fault of its bytes, and where its path is good a record can hold the call
pub record IsCall (call : Call) : Type 0 where
  pub read : All IsRead (paths_of call.op)
  pub fits : bad_path call.op ≡ None → cred_field.Fits call.cred × op_field.Fits call.op

-- a bad path has the fault of its bytes, and a good one has names that with a slash before each have at most 4,095 bytes
abbrev pub IsPathInRange : PathArg → Type 0
IsPathInRange (Good names) = IsTrue (list_all is_name names) × (path_bytes names ≤ 4095)
IsPathInRange (Bad fault raw) = IsRead (Bad fault raw)

-- the number of a node has 16 bits, whether that node is there or not
abbrev pub IsRuleInRange : Rule → Type 0
IsRuleInRange rule.Hash = Unit {0}
IsRuleInRange rule.ByParent = Unit {0}
IsRuleInRange (rule.Node node) = node < 2 ^ 16

-- the paths of the operation are such ones, and its numbers are in range
abbrev pub IsOpInRange : Op → Type 0
IsOpInRange (op.Mkdir path mode) = IsPathInRange path × (mode < 512)
IsOpInRange (op.Create path mode) = IsPathInRange path × (mode < 512)
IsOpInRange (op.Stat path) = IsPathInRange path
IsOpInRange (op.Access path want) = IsPathInRange path × (want < 8)
IsOpInRange (op.Truncate path size) = IsPathInRange path × (size < 2 ^ 63)
IsOpInRange (op.Unlink path) = IsPathInRange path
IsOpInRange (op.Chmod path mode) = IsPathInRange path × (mode < 512)
IsOpInRange (op.Chown path uid gid) = IsPathInRange path × (uid < 2 ^ 32) × (gid < 2 ^ 32)
IsOpInRange (op.Rmdir path) = IsPathInRange path
IsOpInRange (op.Rename old new) = IsPathInRange old × IsPathInRange new
IsOpInRange (op.Place name rule) = IsTrue (is_name name) × IsRuleInRange rule
IsOpInRange (op.List path) = IsPathInRange path

-- the same in numbers: the paths of the call and its numbers are in range
pub record IsCallInRange (call : Call) : Type 0 where
  pub uid : call.cred.uid < 2 ^ 32
  pub gid : call.cred.gid < 2 ^ 32
  pub op : IsOpInRange call.op

-- the calls of a lane, which are counted from 1. There are none in a lane that is not there
abbrev pub calls_of_lane : Config → ℕ → List Call
calls_of_lane config lane = unwrap_or (numbered config.lanes lane) []

abbrev pub is_lane : Config → ℕ → Bool
is_lane config lane = nat_lt 0 lane && nat_le lane (length config.lanes)

abbrev pub is_node : Config → ℕ → Bool
is_node config node = nat_lt node config.nodes

-- 1 to 16 nodes and lanes, batches of 1 to 64 calls, and at most 10,000 calls, each of which is such a one
pub record IsCluster (config : Config) : Type 0 where
  pub some_nodes : 1 ≤ config.nodes
  pub few_nodes : config.nodes ≤ 16
  pub some_lanes : 1 ≤ length config.lanes
  pub few_lanes : length config.lanes ≤ 16
  pub some_batch : 1 ≤ config.batch
  pub small_batch : config.batch ≤ 64
  pub few_calls : sum_by (λ calls. length calls) config.lanes ≤ 10000
  pub calls : All (λ calls. All IsCall calls) config.lanes
