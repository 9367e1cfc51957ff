-- Records to those that a call is passed on to, and the commits among notes.
use Rattle.std.specs.Prelude.{ℕ, suc, ◌+◌, List, [], ◌∷◌}
use Rattle.fal_base.specs.declared.call.CallRec.{CallRec}
use Rattle.fal_base.specs.declared.event.Actor.{Actor}
use Rattle.fal_base.specs.declared.event.Note.{Note}
use Rattle.fal_base.specs.declared.event.Note.TheVariants as note
use Rattle.fal_base.specs.declared.event.Point.{Point}
use Rattle.fal_wire.specs.declared.letter.Letter.{Letter}
use Rattle.fal_wire.specs.declared.message.Message.TheVariants as message
use Rattle.fal_wire.specs.Letters.{letter}

-- the call with its hop raised by one
abbrev pub passed_on : CallRec → CallRec
passed_on call = record call { id = record call.id { hop = call.id.hop + 1 } }

-- the call, passed on to someone
abbrev pub pass_letter : CallRec → Point → Actor → Letter
pass_letter call point to = letter to point (message.Call (passed_on call))

-- how many commits there are among the notes
abbrev pub commits_in : List Note → ℕ
commits_in [] = 0
commits_in (note.Commit lane seq ino ∷ notes) = suc (commits_in notes)
commits_in (note.Sent lane seq ∷ notes) = commits_in notes
commits_in (note.Opened lane seq ino point ∷ notes) = commits_in notes
commits_in (note.Placed lane seq version ∷ notes) = commits_in notes
commits_in (note.Stale lane seq old new ∷ notes) = commits_in notes
commits_in (note.Answered lane seq point reply ∷ notes) = commits_in notes
