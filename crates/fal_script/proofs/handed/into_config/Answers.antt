use Rattle.std.proofs.Common.{◌++◌, ◌∷◌, [], sym, ap, ◌∙◌, length, List, arith}
use Rattle.std.proofs.lemmas.List.FromFn.{length-map-range_with_len}
use Rattle.std.proofs.lemmas.List.{map-append}
use Rattle.fal_script.specs.declared.script.ScriptCall.{ScriptCall}
use Rattle.fal_script.specs.Configs.{lane_calls, lanes_of_script}
use Rattle.fal_script.proofs.Lanes.{all_lines, first_line, further_lines}
use Rattle.fal_script.proofs.handed.into_config.Goals as goal

pub loop-line-init : goal.loop-line-init
loop-line-init c = record {
  lists = c.in_ok-lists.ensures;
  count = ap length c.in_ok-lists.ensures ∙ length-map-range_with_len (λ lane. lane_calls [] lane) 1 c.args.script.lanes;
  order = c.in_ok-order.ensures.items;
  left = all_lines c.args.script c.into_iter-line-iterator.result.rest.items c.requires (c.into_iter-line-iterator.ensures.into_iter_gives.0 ∙ c.into_items-line-items.ensures);
}

pub put_call-requires-clause-from_one : goal.put_call-requires-clause-from_one
put_call-requires-clause-from_one c = (first_line c.args.script.lanes c.in-Some.line c.next.new.self.rest.items c.loop-line.line-iterator.rest.items c.in-Some.ensures.steps.0 c.loop-line.invariant.left).from_one

pub put_call-requires-clause-within : goal.put_call-requires-clause-within
put_call-requires-clause-within c =
    let within = (first_line c.args.script.lanes c.in-Some.line c.next.new.self.rest.items c.loop-line.line-iterator.rest.items c.in-Some.ensures.steps.0 c.loop-line.invariant.left).within in
    let count = c.loop-line.invariant.count in
    omega arith

pub loop-line-preserved : goal.loop-line-preserved
loop-line-preserved c =
    let before = c.loop-line.lists.items in
    let count = c.loop-line.invariant.count in record {
      lists = c.in_ok-put_call.ensures.put c.loop-line.yielded (c.loop-line.invariant.lists ∙ ap (lanes_of_script c.loop-line.yielded) (sym count)) ∙ ap (lanes_of_script (c.loop-line.yielded ++ c.in-Some.line ∷ [])) count;
      count = c.in_ok-put_call.ensures.length ∙ count;
      order = c.in_ok-push.ensures.items ∙ ap (λ (lanes : List _). lanes ++ c.in-Some.line.lane ∷ []) c.loop-line.invariant.order ∙ sym (map-append (λ (l : ScriptCall). l.lane) c.loop-line.yielded (c.in-Some.line ∷ []));
      left = further_lines c.args.script.lanes c.in-Some.line c.next.new.self.rest.items c.loop-line.line-iterator.rest.items c.in-Some.ensures.steps.0 c.loop-line.invariant.left;
    }
