use Rattle.std.proofs.Common.{◌≡◌, ◌<◌, ◌+◌, ◌++◌, ◌∷◌, [], length, take, sym, ap, ◌∙◌, arith}
use Rattle.std.proofs.lemmas.List.{take_more}
use Rattle.fal_base.specs.Tree.{row_at}
use Rattle.fal_run.specs.declared.change.RowChange.{RowChange}
use Rattle.fal_run.specs.Rows.{rows_changed, found_after}
use Rattle.fal_run.proofs.Found.{row_at-rows_after}
use Rattle.fal_run.proofs.Changes.{rows_changed-push}
use Rattle.fal_run.proofs.outcome.row_now.Goals as goal

pub loop-change-preserved : goal.loop-change-preserved
loop-change-preserved c =
    let xs = c.args.changes.now in
    let i = c.loop-change.change-index in
    let rows = c.args.rows.now.rows in
    let key = c.args.key.now in
    let item = c.change-item.result in
    let h : i < length xs = omega arith in
    let more : take (i + 1) xs ≡ take i xs ++ item ∷ [] = take_more xs i item h ∙ ap (λ (x : RowChange). take i xs ++ x ∷ []) (sym c.change-item.is) in
    c.after_change-found.ensures ∙ ap (λ f. found_after key f item) c.loop-change.invariant
    ∙ sym (row_at-rows_after (rows_changed rows (take i xs)) key item)
    ∙ ap (λ rs. row_at rs key) (sym (ap (rows_changed rows) more ∙ rows_changed-push rows (take i xs) item))
