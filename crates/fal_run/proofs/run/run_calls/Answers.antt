use Rattle.std.proofs.Common.{sym, ap, ◌∙◌}
use Rattle.fal_run.specs.Letters.{commits_in}
use Rattle.fal_run.specs.Work.{run_all}
use Rattle.fal_run.proofs.Runs.{work_of}
use Rattle.fal_run.proofs.Within.{within_now, number_now, hop_now, few_now, run_start}
use Rattle.fal_run.proofs.run.run_calls.Goals as goal

pub loop-planned-init : goal.loop-planned-init
loop-planned-init c =
    let node = c.args.node in
    let rows = c.args.rows.now.rows in
    let before = c.args.before in
    let e = c.new_run-run.ensures in
    let start = (λ i. work_of rows before (e.changes i) (e.drawn i) (e.letters i) (e.notes i)) ∙ run_start rows before in
    record {
      work = ap (λ w. run_all node w c.args.calls.now) start;
      row_calls = c.requires.row_calls;
      commits = e.commits ∙ ap commits_in (sym e.notes);
      fits = e.fits;
    }

pub run_call-requires-clause-number : goal.run_call-requires-clause-number
run_call-requires-clause-number c =
    let node = c.args.node in
    let rows = c.args.rows.now.rows in
    let before = c.args.before in
    let r = c.loop-planned.run in
    let within = within_now node rows before r _ _ _ _ c.loop-planned.invariant.work c.in-Some.ensures.cases.0 c.requires.within in
    number_now node rows before r c.in-Some.planned.now c.in-Some.others.now within

pub run_call-requires-clause-hop : goal.run_call-requires-clause-hop
run_call-requires-clause-hop c =
    let node = c.args.node in
    let rows = c.args.rows.now.rows in
    let before = c.args.before in
    let r = c.loop-planned.run in
    let within = within_now node rows before r _ _ _ _ c.loop-planned.invariant.work c.in-Some.ensures.cases.0 c.requires.within in
    hop_now node rows before r c.in-Some.planned.now c.in-Some.others.now within

pub run_call-requires-clause-few : goal.run_call-requires-clause-few
run_call-requires-clause-few c =
    let node = c.args.node in
    let rows = c.args.rows.now.rows in
    let before = c.args.before in
    let r = c.loop-planned.run in
    let within = within_now node rows before r _ _ _ _ c.loop-planned.invariant.work c.in-Some.ensures.cases.0 c.requires.within in
    few_now node rows before r c.in-Some.planned.now c.in-Some.others.now within c.loop-planned.invariant.commits
