-- When a book has room for an event.
use Rattle.std.specs.Prelude.{◌+◌, ◌<◌, ◌≤◌, ◌^◌, Bool, true, false, length, count_by}
use Rattle.fal_base.specs.declared.event.Note.{Note}
use Rattle.fal_base.specs.declared.event.Note.TheVariants as note
use Rattle.fal_base.specs.declared.event.Outputs.{Outputs}
use Rattle.fal_story.specs.Run.{run, commits_at}
use Rattle.fal_story.specs.Told.{SeenBook}

-- the note is of a commit
abbrev pub is_commit_note : Note → Bool
is_commit_note (note.Commit lane seq ino) = true
is_commit_note (note.Sent lane seq) = false
is_commit_note (note.Opened lane seq ino point) = false
is_commit_note (note.Placed lane seq version) = false
is_commit_note (note.Stale lane seq old new) = false
is_commit_note (note.Answered lane seq point reply) = false

-- there is room for one event, its records and its notes; with it there are fewer than 2^63 events, and fewer than 2^63 commits
pub record HasBookRoom (book : SeenBook) (outputs : Outputs) : Type 0 where
  pub events : 1 ≤ book.room.events
  pub sent : length outputs.sent ≤ book.room.sent
  pub entries : length outputs.notes ≤ book.room.entries
  pub few : length book.told.events + 1 < 2 ^ 63
  pub few_commits : commits_at (run book.told.config book.told.events) + count_by is_commit_note outputs.notes < 2 ^ 63
