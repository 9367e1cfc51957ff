use Rattle.std.proofs.Common.{◌≡◌, ◌≤◌, count_by, take}
use Rattle.fal_story.specs.Rooms.{is_commit_note}
use Rattle.fal_story.proofs.post.commits_in.Given as goal

abbrev pub invariant-loop-note : goal.invariant-loop-note
invariant-loop-note l = (l.count ≡ count_by is_commit_note (take l.note-index l.notes)) × (l.count ≤ l.note-index)
