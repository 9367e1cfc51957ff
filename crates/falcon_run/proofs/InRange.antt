-- The cluster of a script that was read may run.
use Rattle.std.proofs.Common.{◌≡◌, ℕ, zero, suc, ◌+◌, ◌≤◌, true, false, List, [], ◌∷◌, length, map, filter, cond, Some, Result, Ok, Err, refl, sym, subst, ap, arith}
use Rattle.std.specs.Prelude.{slice_get, ◌==◌}
use Rattle.std.specs.List.{All, range_with_len}
use Rattle.std.proofs.lemmas.Bool.Decides.{nat_tests}
use Rattle.std.proofs.lemmas.List.Elements.{All-nil, All-cons}
use Rattle.std.proofs.lemmas.List.FromFn.{length-map-range_with_len}
use Rattle.fal_base.specs.declared.call.Call.{Call}
use Rattle.fal_base.specs.declared.op.Op.{Op}
use Rattle.fal_base.specs.declared.op.Op.TheVariants as op
use Rattle.fal_base.specs.declared.path.PathArg.{PathArg}
use Rattle.fal_base.specs.declared.path.PathFault.{PathFault}
use Rattle.fal_base.specs.declared.rule.Rule.{Rule}
use Rattle.fal_base.specs.declared.rule.Rule.TheVariants as rule
use Rattle.fal_base.specs.PathArgs.{arg_of, err_of}
use Rattle.fal_base.specs.Paths.{path_of}
use Rattle.fal_script.specs.Configs.{lane_calls}
use Rattle.fal_script.specs.Ranges.{IsSpelledScript, IsSpelled, IsSpelledCall, IsSpelledOp, IsSpelledRule}
use Rattle.fal_script.specs.declared.script.Script.{Script}
use Rattle.fal_script.specs.declared.script.ScriptCall.{ScriptCall}
use Rattle.fal_story.specs.Clusters.{IsCall, IsCluster, IsCallInRange, IsOpInRange, IsPathInRange, IsRuleInRange}
use Rattle.falcon_run.specs.Headline.{cluster_of}
use Rattle.fal_script.proofs.GoodPaths.{good_path}
use Rattle.falcon_run.proofs.ScriptLanes.{few_calls}

-- ---- one call

read_in_range : (word : List ℕ) (r : Result (List (List ℕ)) PathFault) → path_of word ≡ r → IsPathInRange (arg_of word r)
read_in_range word (Err fault) is = ap err_of is
read_in_range word (Ok names) is = let good = good_path word names is in let short = good.0 in (good.1, grind (arith, nat_tests))

path_in_range : (path : PathArg) → IsSpelled path → IsPathInRange path
path_in_range path (word, is) = subst IsPathInRange (sym is) (read_in_range word (path_of word) refl)

rule_in_range : (rule : Rule) → IsSpelledRule rule → IsRuleInRange rule
rule_in_range rule.Hash is = tt
rule_in_range rule.ByParent is = tt
rule_in_range (rule.Node node) is = is

op_in_range : (o : Op) → IsSpelledOp o → IsOpInRange o
op_in_range (op.Mkdir path mode) is = (path_in_range path is.0, is.1)
op_in_range (op.Create path mode) is = (path_in_range path is.0, is.1)
op_in_range (op.Stat path) is = path_in_range path is
op_in_range (op.Access path want) is = (path_in_range path is.0, is.1)
op_in_range (op.Chmod path mode) is = (path_in_range path is.0, is.1)
op_in_range (op.Chown path uid gid) is = (path_in_range path is.0, is.1, is.2)
op_in_range (op.Truncate path size) is = (path_in_range path is.0, is.1)
op_in_range (op.Unlink path) is = path_in_range path is
op_in_range (op.Rmdir path) is = path_in_range path is
op_in_range (op.Rename old new) is = (path_in_range old is.0, path_in_range new is.1)
op_in_range (op.List path) is = path_in_range path is
op_in_range (op.Place name rule) is = (is.0, rule_in_range rule is.1)

call_in_range : (call : Call) → IsSpelledCall call → IsCallInRange call
call_in_range call is = record { uid = is.uid; gid = is.gid; op = op_in_range call.op is.op }

-- ---- all calls

lane_is_calls : (lines : List ScriptCall) (lane : ℕ) → ((k : ℕ) (line : ScriptCall) → slice_get lines k ≡ Some line → IsCall line.call) → All IsCall (lane_calls lines lane)
lane_is_calls [] lane each = All-nil IsCall
lane_is_calls (line ∷ lines) lane each =
    let rest = lane_is_calls lines lane (λ k l at. each (suc k) l at) in
    elim (line.lane == lane) as (λ b. All IsCall (map (λ (l : ScriptCall). l.call) (cond b (line ∷ filter (λ l. l.lane == lane) lines) (filter (λ l. l.lane == lane) lines)))) [
      | true ↦ All-cons IsCall line.call (lane_calls lines lane) (each 0 line refl) rest
      | false ↦ rest
    ]

lanes_are_calls : (lines : List ScriptCall) (from n : ℕ) → ((k : ℕ) (line : ScriptCall) → slice_get lines k ≡ Some line → IsCall line.call)
    → All (λ (calls : List Call). All IsCall calls) (map (λ lane. lane_calls lines lane) (range_with_len from n))
lanes_are_calls lines from zero each = All-nil (λ (calls : List Call). All IsCall calls)
lanes_are_calls lines from (suc n) each =
    All-cons (λ (calls : List Call). All IsCall calls) (lane_calls lines from) (map (λ lane. lane_calls lines lane) (range_with_len (from + 1) n)) (lane_is_calls lines from each) (lanes_are_calls lines (from + 1) n each)

-- the cluster of a script in range with at most 10,000 lines may run
pub script_may_run : (script : Script) → ((call : Call) → IsCallInRange call → IsCall call) → IsSpelledScript script → length script.lines ≤ 10000 → IsCluster (cluster_of script)
script_may_run script may range few =
    let count = length-map-range_with_len (λ lane. lane_calls script.lines lane) 1 script.lanes in
    let calls = few_calls script.lines 1 script.lanes in
    let some = range.some_lanes in
    let most = range.lanes in
    record {
      some_nodes = range.some_nodes;
      few_nodes = range.nodes;
      some_lanes = omega arith;
      few_lanes = omega arith;
      some_batch = omega arith;
      small_batch = omega arith;
      few_calls = omega arith;
      calls = lanes_are_calls script.lines 1 script.lanes (λ k line at. may line.call (call_in_range line.call (range.lines k line at).call));
    }
