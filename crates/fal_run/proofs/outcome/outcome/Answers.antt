use Rattle.std.proofs.Common.{◌+◌, sym, ap, ◌∙◌}
use Rattle.std.specs.Option.{option_copied}
use Rattle.fal_base.specs.Tree.{row_at}
use Rattle.fal_exec.specs.Outcome.{outcome_of}
use Rattle.fal_run.specs.Rows.{rows_changed}
use Rattle.fal_run.proofs.Numbers.{call_alike}
use Rattle.fal_run.proofs.outcome.outcome.Goals as goal

pub returns : goal.returns
returns c =
    let p = c.args.planned.now in
    let rows = rows_changed c.args.rows.now.rows c.args.changes.now in
    let fresh = c.next_number-fresh.result in
    c.exec.ensures.outcome
    ∙ ap (λ row. outcome_of row (option_copied c.as_ref-2.result) p.call.cred p.call.op fresh) (c.as_ref.ensures.value ∙ c.row_now-row.ensures)
    ∙ ap (λ parent. outcome_of (row_at rows p.last) parent p.call.cred p.call.op fresh) c.as_ref-2.ensures.value
    ∙ sym (call_alike c.args.node rows (c.args.before + c.args.drawn) p fresh c.if-planned.false (λ draws. sym (c.next_number-fresh.ensures (c.requires.number draws))))
