use Rattle.std.proofs.Common.{◌≡◌, ◌+◌, ◌<◌, ◌^◌, IsTrue, length}
use Rattle.fal_run.specs.Calls.{are_row_calls}
use Rattle.fal_run.specs.Letters.{commits_in}
use Rattle.fal_run.specs.Work.{begun_on, run_all, made_by}
use Rattle.fal_run.proofs.run.run_calls.Given as goal

abbrev pub invariant-loop-planned : goal.invariant-loop-planned
invariant-loop-planned l = record {
  work : run_all l.node (made_by l.rows.rows l.before l.run) l.rest ≡ run_all l.node (begun_on l.rows.rows l.before) l.calls;
  row_calls : IsTrue (are_row_calls l.rest);
  commits : l.run.commits ≡ commits_in l.run.notes.items;
  fits : l.before + l.run.drawn < 2 ^ 64;
}

abbrev pub decreases-loop-planned : goal.decreases-loop-planned
decreases-loop-planned l = length l.rest
