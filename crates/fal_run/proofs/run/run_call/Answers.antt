use Rattle.std.proofs.Common.{◌≡◌, ◌+◌, ◌<◌, ◌^◌, [], ◌∷◌, ◌++◌, sym, ap, ◌∙◌, subst, arith}
use Rattle.fal_base.specs.declared.event.Note.TheVariants as note
use Rattle.fal_exec.specs.declared.outcome.Change.TheVariants as change
use Rattle.fal_wire.specs.declared.letter.Letter.{Letter}
use Rattle.fal_run.specs.Letters.{commits_in}
use Rattle.fal_run.specs.Work.{run_as}
use Rattle.fal_run.specs.Calls.{number_after, call_outcome, change_of, answer_letter, draws, drawn_by, noted_number}
use Rattle.fal_run.proofs.Numbers.{noted_alike, put_fits}
use Rattle.fal_run.specs.Rows.{rows_changed}
use Rattle.fal_run.proofs.Runs.{work_of, commits_in-push, run_keep, run_put, run_remove, run_one_is}
use Rattle.fal_run.proofs.run.run_call.Goals as goal

pub answer_letter-requires : goal.answer_letter-requires
answer_letter-requires c =
    let node = c.args.node in
    let rows = c.args.rows.now.rows in
    let before = c.args.before in
    let r = c.args.run.now in
    let os = c.outcome-outcome.ensures ∙ ap (λ cs. call_outcome node (rows_changed rows cs) (before + r.drawn) c.args.planned.now) c.deref.ensures.value in
    λ passes. c.requires.hop (sym os ∙ passes)

pub outcome-outcome-requires-clause-number : goal.outcome-outcome-requires-clause-number
outcome-outcome-requires-clause-number c =
    let node = c.args.node in
    let rows = c.args.rows.now.rows in
    let before = c.args.before in
    let r = c.args.run.now in
    let p = c.args.planned.now in
    subst (λ cs. 0 < drawn_by p.call.op (change_of (call_outcome node (rows_changed rows cs) (before + r.drawn) p)) → number_after node (before + r.drawn) < 2 ^ 64) (sym c.deref.ensures.value) c.requires.number

pub put_row-requires-clause-drawn : goal.put_row-requires-clause-drawn
put_row-requires-clause-drawn c =
    let node = c.args.node in
    let rows = c.args.rows.now.rows in
    let before = c.args.before in
    let r = c.args.run.now in
    let p = c.args.planned.now in
    let os = c.outcome-outcome.ensures ∙ ap (λ cs. call_outcome node (rows_changed rows cs) (before + r.drawn) p) c.deref.ensures.value in
    let fits = put_fits p.call.op c.in-Put.inode node before r.drawn os c.in-Put.ensures c.requires.number c.requires.fits in
    omega arith

pub returns-in-Put-clause-fits : goal.returns-in-Put-clause-fits
returns-in-Put-clause-fits c =
    let node = c.args.node in
    let rows = c.args.rows.now.rows in
    let before = c.args.before in
    let r = c.args.run.now in
    let p = c.args.planned.now in
    let os = c.outcome-outcome.ensures ∙ ap (λ cs. call_outcome node (rows_changed rows cs) (before + r.drawn) p) c.deref.ensures.value in
    let fits = put_fits p.call.op c.in-Put.inode node before r.drawn os c.in-Put.ensures c.requires.number c.requires.fits in
    let drawn = c.in_ok-put_row-in-Put.ensures.drawn in
    omega arith

pub returns-in-Keep-clause-work : goal.returns-in-Keep-clause-work
returns-in-Keep-clause-work c =
    let node = c.args.node in
    let rows = c.args.rows.now.rows in
    let before = c.args.before in
    let r = c.args.run.now in
    let p = c.args.planned.now in
    let out = c.outcome-outcome.result in
    let ls = c.in_ok-push.ensures.items ∙ ap (λ (l : Letter). r.letters.items ++ l ∷ []) c.in_ok-letter.ensures in
    let os = c.outcome-outcome.ensures ∙ ap (λ cs. call_outcome node (rows_changed rows cs) (before + r.drawn) p) c.deref.ensures.value in
    ap (λ xs. work_of rows before r.changes.items r.drawn xs r.notes.items) ls
    ∙ run_keep node rows before r.drawn r.commits r.changes.items r.letters.items r.notes.items p out (sym c.in-Keep.ensures) c.requires.commits
    ∙ ap (λ o. run_as node (work_of rows before r.changes.items r.drawn r.letters.items r.notes.items) p o) os
    ∙ sym (run_one_is node rows before r.drawn r.changes.items r.letters.items r.notes.items p)

pub returns-in-Put-clause-work : goal.returns-in-Put-clause-work
returns-in-Put-clause-work c =
    let node = c.args.node in
    let rows = c.args.rows.now.rows in
    let before = c.args.before in
    let r = c.args.run.now in
    let p = c.args.planned.now in
    let out = c.outcome-outcome.result in
    let put = c.in_ok-put_row-in-Put.ensures in
    let ls = put.letters ∙ c.in_ok-push.ensures.items ∙ ap (λ (l : Letter). r.letters.items ++ l ∷ []) c.in_ok-letter.ensures in
    let os = c.outcome-outcome.ensures ∙ ap (λ cs. call_outcome node (rows_changed rows cs) (before + r.drawn) p) c.deref.ensures.value in
    let put_is : change_of (call_outcome node (rows_changed rows r.changes.items) (before + r.drawn) p) ≡ change.Put c.in-Put.inode = ap change_of (sym os) ∙ sym c.in-Put.ensures in
    let number_fits = λ (draws : 0 < drawn_by p.call.op (change.Put c.in-Put.inode)). c.requires.number (subst (λ ch. 0 < drawn_by p.call.op ch) (sym put_is) draws) in
    let fresh = noted_alike p.call.op c.in-Put.inode c.next_number-fresh.result (number_after node (before + r.drawn)) (λ draws. c.next_number-fresh.ensures (number_fits draws)) in
    let ns = put.notes ∙ ap (λ x. r.notes.items ++ note.Commit p.call.id.client p.call.id.seq x ∷ []) fresh in
    let same : work_of rows before c.put_row.new.run.changes.items c.put_row.new.run.drawn c.put_row.new.run.letters.items c.put_row.new.run.notes.items
    ≡ work_of rows before (r.changes.items ++ record { key = p.last; change = change.Put c.in-Put.inode } ∷ []) (r.drawn + draws p.call.op) (r.letters.items ++ answer_letter p.call r.commits out ∷ [])
    (r.notes.items ++ note.Commit p.call.id.client p.call.id.seq (noted_number p.call.op (number_after node (before + r.drawn))) ∷ [])
    = λ i. work_of rows before (put.changes i) (put.drawn i) (ls i) (ns i) in
    same
    ∙ run_put node rows before r.drawn r.commits r.changes.items r.letters.items r.notes.items p out c.in-Put.inode (sym c.in-Put.ensures) c.requires.commits
    ∙ ap (λ o. run_as node (work_of rows before r.changes.items r.drawn r.letters.items r.notes.items) p o) os
    ∙ sym (run_one_is node rows before r.drawn r.changes.items r.letters.items r.notes.items p)

pub returns-in-Put-clause-commits : goal.returns-in-Put-clause-commits
returns-in-Put-clause-commits c =
    let put = c.in_ok-put_row-in-Put.ensures in
    put.commits ∙ ap (λ k. k + 1) c.requires.commits ∙ sym (commits_in-push c.args.run.now.notes.items _ _ _) ∙ ap commits_in (sym put.notes)

pub returns-clause-work : goal.returns-clause-work
returns-clause-work c =
    let node = c.args.node in
    let rows = c.args.rows.now.rows in
    let before = c.args.before in
    let r = c.args.run.now in
    let p = c.args.planned.now in
    let out = c.outcome-outcome.result in
    let gone = c.in_ok-remove_row-in-Remove.ensures in
    let ls = gone.letters ∙ c.in_ok-push.ensures.items ∙ ap (λ (l : Letter). r.letters.items ++ l ∷ []) c.in_ok-letter.ensures in
    let os = c.outcome-outcome.ensures ∙ ap (λ cs. call_outcome node (rows_changed rows cs) (before + r.drawn) p) c.deref.ensures.value in
    let same : work_of rows before c.remove_row.new.run.changes.items c.remove_row.new.run.drawn c.remove_row.new.run.letters.items c.remove_row.new.run.notes.items
    ≡ work_of rows before (r.changes.items ++ record { key = p.last; change = change.Remove } ∷ []) r.drawn (r.letters.items ++ answer_letter p.call r.commits out ∷ [])
    (r.notes.items ++ note.Commit p.call.id.client p.call.id.seq 0 ∷ [])
    = λ i. work_of rows before (gone.changes i) (gone.drawn i) (ls i) (gone.notes i) in
    same
    ∙ run_remove node rows before r.drawn r.commits r.changes.items r.letters.items r.notes.items p out (sym c.in-Remove.ensures) c.requires.commits
    ∙ ap (λ o. run_as node (work_of rows before r.changes.items r.drawn r.letters.items r.notes.items) p o) os
    ∙ sym (run_one_is node rows before r.drawn r.changes.items r.letters.items r.notes.items p)

pub returns-clause-commits : goal.returns-clause-commits
returns-clause-commits c =
    let gone = c.in_ok-remove_row-in-Remove.ensures in
    gone.commits ∙ ap (λ k. k + 1) c.requires.commits ∙ sym (commits_in-push c.args.run.now.notes.items _ _ _) ∙ ap commits_in (sym gone.notes)
