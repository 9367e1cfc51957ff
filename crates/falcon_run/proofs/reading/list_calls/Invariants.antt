use Rattle.std.proofs.Common.{◌≡◌, ◌≤◌, count_by, take}
use Rattle.falcon_run.specs.Headline.{is_list_line}
use Rattle.falcon_run.proofs.reading.list_calls.Given as goal

abbrev pub invariant-loop-line : goal.invariant-loop-line
invariant-loop-line l = (l.count ≡ count_by is_list_line (take l.line-index l.lines)) × (l.count ≤ l.line-index)
