-- One call of a batch: what comes of it, by the rows and by the next inode number, and what that makes.
use Rattle.std.specs.Prelude.{ℕ, ◌+◌, ◌*◌, Bool, true, false, List, [], ◌∷◌, is_some, if◌then◌else◌}
use Rattle.std.specs.List.{list_all}
use Rattle.fal_base.specs.declared.call.CallRec.{CallRec}
use Rattle.fal_base.specs.declared.event.Actor.TheVariants.{Client, Coord}
use Rattle.fal_base.specs.declared.event.Note.{Note}
use Rattle.fal_base.specs.declared.event.Note.TheVariants as note
use Rattle.fal_base.specs.declared.event.Point.TheVariants.{Here}
use Rattle.fal_base.specs.declared.op.Op.{Op}
use Rattle.fal_base.specs.declared.op.Op.TheVariants as op
use Rattle.fal_base.specs.declared.reply.Errno.TheVariants.{Eacces}
use Rattle.fal_base.specs.declared.reply.Reply.TheVariants.{Fail}
use Rattle.fal_base.specs.Tree.{Tree, row_at}
use Rattle.fal_exec.specs.declared.outcome.Change.{Change}
use Rattle.fal_exec.specs.declared.outcome.Change.TheVariants as change
use Rattle.fal_exec.specs.declared.outcome.ExecOut.{ExecOut}
use Rattle.fal_exec.specs.declared.outcome.ExecOut.TheVariants as out
use Rattle.fal_exec.specs.Outcome.{without_change, outcome_of}
use Rattle.fal_exec.specs.RowCall.{row_names}
use Rattle.fal_wire.specs.declared.letter.Letter.{Letter}
use Rattle.fal_wire.specs.declared.message.Message.TheVariants as message
use Rattle.fal_wire.specs.Letters.{letter, reply_letter}
use Rattle.fal_run.specs.declared.call.BatchCall.{BatchCall}
use Rattle.fal_run.specs.Letters.{pass_letter}

-- whether one row decides the call
abbrev pub is_row_op : Op → Bool
is_row_op op = is_some (row_names op)

-- whether one row decides each of the calls
abbrev pub are_row_calls : List BatchCall → Bool
are_row_calls calls = list_all (λ planned. is_row_op planned.call.op) calls

-- the next inode number of a node that has drawn so many. No two nodes ever draw the same one
abbrev pub number_after : ℕ → ℕ → ℕ
number_after node drawn = 256 * (drawn + 1) + node

-- the operations whose new row has a number of its own
abbrev pub is_making : Op → Bool
is_making (op.Mkdir path mode) = true
is_making (op.Create path mode) = true
is_making other = false

-- how many numbers are drawn for a new row under the call's key
abbrev pub draws : Op → ℕ
draws op = if is_making op then 1 else 0

-- the number that a commit of the call is noted with
abbrev pub noted_number : Op → ℕ → ℕ
noted_number op fresh = if is_making op then fresh else 0

-- what comes of a call, by the rows and by how many numbers were drawn
abbrev pub call_outcome : ℕ → Tree → ℕ → BatchCall → ExecOut
call_outcome node rows drawn planned =
    if planned.denied then without_change (Fail Eacces)
    else outcome_of (row_at rows planned.last) planned.parent planned.call.cred planned.call.op (number_after node drawn)

-- the record to whom the call is answered by, after so many commits of this event
abbrev pub answer_letter : CallRec → ℕ → ExecOut → Letter
answer_letter call commits (out.Finish reply change) = reply_letter call (Here commits) reply
answer_letter call commits (out.Opened ino) = letter (Client call.id.client) (Here commits) (message.Opened call.id ino)
answer_letter call commits out.PassOn = pass_letter call (Here commits) Coord

-- what becomes of the row
abbrev pub change_of : ExecOut → Change
change_of (out.Finish reply change) = change
change_of (out.Opened ino) = change.Keep
change_of out.PassOn = change.Keep

-- a new row draws a number
abbrev pub drawn_by : Op → Change → ℕ
drawn_by op change.Keep = 0
drawn_by op (change.Put inode) = draws op
drawn_by op change.Remove = 0

-- a change of a row is a commit
abbrev pub commit_notes : CallRec → ℕ → Change → List Note
commit_notes call fresh change.Keep = []
commit_notes call fresh (change.Put inode) = note.Commit call.id.client call.id.seq (noted_number call.op fresh) ∷ []
commit_notes call fresh change.Remove = note.Commit call.id.client call.id.seq 0 ∷ []
