use Rattle.std.proofs.Common.{◌≡◌, length}
use Rattle.std.specs.List.{All}
use Rattle.fal_script.specs.Configs.{lanes_of_script, order_of}
use Rattle.fal_script.specs.Ranges.{IsSpelledLine}
use Rattle.fal_script.proofs.handed.into_config.Given as goal

-- the lines so far are in their lanes, and each line that is left has a lane
abbrev pub invariant-loop-line : goal.invariant-loop-line
invariant-loop-line l = record {
  lists : l.lists.items ≡ lanes_of_script l.yielded l.lanes;
  count : length l.lists.items ≡ l.lanes;
  order : l.order.items ≡ order_of l.yielded;
  left : All (IsSpelledLine l.lanes) l.line-iterator.rest.items;
}
