-- What calls make of rows, call by call.
use Rattle.std.specs.Prelude.{ℕ, ◌+◌, ◌*◌, ◌<◌, ◌^◌, Bool, false, List, [], ◌∷◌, ◌++◌, nat_lt, IsTrue}
use Rattle.std.specs.List.{All, list_any}
use Rattle.fal_base.specs.declared.event.Note.{Note}
use Rattle.fal_base.specs.declared.event.Note.TheVariants as note
use Rattle.fal_base.specs.Tree.{Tree}
use Rattle.fal_exec.specs.declared.outcome.ExecOut.{ExecOut}
use Rattle.fal_wire.specs.declared.letter.Letter.{Letter}
use Rattle.fal_wire.specs.Messages.{Fits}
use Rattle.fal_run.specs.declared.call.BatchCall.{BatchCall}
use Rattle.fal_run.specs.declared.run.Run.{Run}
use Rattle.fal_run.specs.Calls.{number_after, call_outcome, answer_letter, change_of, drawn_by, commit_notes}
use Rattle.fal_run.specs.Letters.{commits_in}
use Rattle.fal_run.specs.Rows.{rows_after, rows_changed}

-- the rows, how many inode numbers were drawn, and what was sent and noted
pub record RowWork : Type 0 where
  pub rows : Tree
  pub drawn : ℕ
  pub sent : List Letter
  pub notes : List Note

-- nothing was sent or noted yet
abbrev pub begun_on : Tree → ℕ → RowWork
begun_on rows drawn = record { rows = rows; drawn = drawn; sent = []; notes = [] }

-- the call is done at the node with this number, with this outcome
abbrev pub run_as : ℕ → RowWork → BatchCall → ExecOut → RowWork
run_as node work planned outcome =
    record {
      rows = rows_after work.rows planned.last (change_of outcome);
      drawn = work.drawn + drawn_by planned.call.op (change_of outcome);
      sent = work.sent ++ answer_letter planned.call (commits_in work.notes) outcome ∷ [];
      notes = work.notes ++ commit_notes planned.call (number_after node work.drawn) (change_of outcome);
    }

-- one call is done
unfoldable pub run_one : ℕ → RowWork → BatchCall → RowWork
run_one node work planned = run_as node work planned (call_outcome node work.rows work.drawn planned)

-- the calls are done, in their order
abbrev pub run_all : ℕ → RowWork → List BatchCall → RowWork
run_all node work [] = work
run_all node work (planned ∷ calls) = run_all node (run_one node work planned) calls

-- what a run has made so far, of rows as they were before it, at a node that had drawn so many numbers
abbrev pub made_by : Tree → ℕ → Run → RowWork
made_by rows before run = record { rows = rows_changed rows run.changes.items; drawn = before + run.drawn; sent = run.letters.items; notes = run.notes.items }

-- whether it notes a commit that draws an inode number
abbrev pub is_numbered : Note → Bool
is_numbered (note.Commit lane seq ino) = nat_lt 0 ino
is_numbered other = false

-- each record is within the ranges of the format; where inode numbers are drawn, they fit; and one more commit would still be counted
pub record IsRunWithin (node : ℕ) (work : RowWork) : Type 0 where
  pub records : All (λ letter. Fits letter.message) work.sent
  pub numbers : IsTrue (list_any is_numbered work.notes) → 256 * work.drawn + node < 2 ^ 64
  pub commits : commits_in work.notes + 1 < 2 ^ 32
