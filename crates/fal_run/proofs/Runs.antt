-- One more call of a batch that is under way.
use Rattle.std.proofs.Common.{◌≡◌, ℕ, ◌+◌, List, [], ◌∷◌, ◌++◌, refl, sym, ap, ◌∙◌, arith, append-nil}
use Rattle.fal_base.specs.declared.event.Note.{Note}
use Rattle.fal_base.specs.declared.event.Note.TheVariants as note
use Rattle.fal_base.specs.declared.inode.Inode.{Inode}
use Rattle.fal_exec.specs.declared.outcome.Change.TheVariants as change
use Rattle.fal_exec.specs.declared.outcome.ExecOut.{ExecOut}
use Rattle.fal_run.specs.declared.call.BatchCall.{BatchCall}
use Rattle.fal_wire.specs.declared.letter.Letter.{Letter}
use Rattle.fal_run.specs.declared.change.RowChange.{RowChange}
use Rattle.fal_base.specs.Tree.{Tree}
use Rattle.fal_run.specs.Letters.{commits_in}
use Rattle.fal_run.specs.Calls.{number_after, drawn_by, draws, noted_number, commit_notes, change_of, answer_letter, call_outcome}
use Rattle.fal_run.specs.Work.{RowWork, run_as, run_one}
use Rattle.fal_run.specs.Rows.{rows_after, rows_changed}
use Rattle.fal_run.proofs.Changes.{rows_changed-push}

-- what was made of rows by changes, a count of numbers, letters and notes
abbrev pub work_of : Tree → ℕ → List RowChange → ℕ → List Letter → List Note → RowWork
work_of rows before changes drawn letters notes = record { rows = rows_changed rows changes; drawn = before + drawn; sent = letters; notes = notes }

pub commits_in-push : (notes : List Note) (lane seq ino : ℕ) → commits_in (notes ++ note.Commit lane seq ino ∷ []) ≡ commits_in notes + 1
commits_in-push [] lane seq ino = refl
commits_in-push (note.Commit l s i ∷ ns) lane seq ino = let h = commits_in-push ns lane seq ino in omega arith
commits_in-push (note.Sent l s ∷ ns) lane seq ino = commits_in-push ns lane seq ino
commits_in-push (note.Opened l s i p ∷ ns) lane seq ino = commits_in-push ns lane seq ino
commits_in-push (note.Placed l s v ∷ ns) lane seq ino = commits_in-push ns lane seq ino
commits_in-push (note.Stale l s a b ∷ ns) lane seq ino = commits_in-push ns lane seq ino
commits_in-push (note.Answered l s p r ∷ ns) lane seq ino = commits_in-push ns lane seq ino

pub run_keep : (node : ℕ) (rows : Tree) (before drawn commits : ℕ) (changes : List RowChange) (letters : List Letter) (notes : List Note) (planned : BatchCall) (outcome : ExecOut)
    → change_of outcome ≡ change.Keep → commits ≡ commits_in notes
    → work_of rows before changes drawn (letters ++ answer_letter planned.call commits outcome ∷ []) notes ≡ run_as node (work_of rows before changes drawn letters notes) planned outcome
run_keep node rows before drawn commits changes letters notes planned outcome e same =
    let op = planned.call.op in
    let fresh = number_after node (before + drawn) in
    let now = rows_changed rows changes in
    let zero_more : before + drawn ≡ before + drawn + 0 = omega arith in
    let d : before + drawn ≡ before + drawn + drawn_by op (change_of outcome) = zero_more ∙ ap (λ ch. before + drawn + drawn_by op ch) (sym e) in
    let ns : notes ≡ notes ++ commit_notes planned.call fresh (change_of outcome) = sym (append-nil notes) ∙ ap (λ ch. notes ++ commit_notes planned.call fresh ch) (sym e) in
    λ i. record {
      rows = rows_after now planned.last (sym e i);
      drawn = d i;
      sent = letters ++ answer_letter planned.call (same i) outcome ∷ [];
      notes = ns i;
    }

pub run_put : (node : ℕ) (rows : Tree) (before drawn commits : ℕ) (changes : List RowChange) (letters : List Letter) (notes : List Note) (planned : BatchCall) (outcome : ExecOut) (inode : Inode)
    → change_of outcome ≡ change.Put inode → commits ≡ commits_in notes
    → work_of rows before (changes ++ record { key = planned.last; change = change.Put inode } ∷ []) (drawn + draws planned.call.op) (letters ++ answer_letter planned.call commits outcome ∷ [])
    (notes ++ note.Commit planned.call.id.client planned.call.id.seq (noted_number planned.call.op (number_after node (before + drawn))) ∷ [])
    ≡ run_as node (work_of rows before changes drawn letters notes) planned outcome
run_put node rows before drawn commits changes letters notes planned outcome inode e same =
    let op = planned.call.op in
    let fresh = number_after node (before + drawn) in
    let now = rows_changed rows changes in
    let c : RowChange = record { key = planned.last; change = change.Put inode } in
    let rs = rows_changed-push rows changes c ∙ ap (λ ch. rows_after now planned.last ch) (sym e) in
    let sums : before + (drawn + draws op) ≡ before + drawn + draws op = omega arith in
    let d : before + (drawn + draws op) ≡ before + drawn + drawn_by op (change_of outcome) = sums ∙ ap (λ ch. before + drawn + drawn_by op ch) (sym e) in
    λ i. record {
      rows = rs i;
      drawn = d i;
      sent = letters ++ answer_letter planned.call (same i) outcome ∷ [];
      notes = notes ++ commit_notes planned.call fresh (sym e i);
    }

pub run_remove : (node : ℕ) (rows : Tree) (before drawn commits : ℕ) (changes : List RowChange) (letters : List Letter) (notes : List Note) (planned : BatchCall) (outcome : ExecOut)
    → change_of outcome ≡ change.Remove → commits ≡ commits_in notes
    → work_of rows before (changes ++ record { key = planned.last; change = change.Remove } ∷ []) drawn (letters ++ answer_letter planned.call commits outcome ∷ [])
    (notes ++ note.Commit planned.call.id.client planned.call.id.seq 0 ∷ [])
    ≡ run_as node (work_of rows before changes drawn letters notes) planned outcome
run_remove node rows before drawn commits changes letters notes planned outcome e same =
    let op = planned.call.op in
    let fresh = number_after node (before + drawn) in
    let now = rows_changed rows changes in
    let c : RowChange = record { key = planned.last; change = change.Remove } in
    let rs = rows_changed-push rows changes c ∙ ap (λ ch. rows_after now planned.last ch) (sym e) in
    let zero_more : before + drawn ≡ before + drawn + 0 = omega arith in
    let d : before + drawn ≡ before + drawn + drawn_by op (change_of outcome) = zero_more ∙ ap (λ ch. before + drawn + drawn_by op ch) (sym e) in
    λ i. record {
      rows = rs i;
      drawn = d i;
      sent = letters ++ answer_letter planned.call (same i) outcome ∷ [];
      notes = notes ++ commit_notes planned.call fresh (sym e i);
    }

pub run_one_is : (node : ℕ) (rows : Tree) (before drawn : ℕ) (changes : List RowChange) (letters : List Letter) (notes : List Note) (planned : BatchCall)
    → run_one node (work_of rows before changes drawn letters notes) planned
    ≡ run_as node (work_of rows before changes drawn letters notes) planned (call_outcome node (rows_changed rows changes) (before + drawn) planned)
unfolding run_one
run_one_is node rows before drawn changes letters notes planned = refl
