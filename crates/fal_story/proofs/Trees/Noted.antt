-- The commits among notes.
use Rattle.std.proofs.Common.{◌≡◌, ◌∙◌, sym, refl, ℕ, ◌+◌, cond, List, [], ◌∷◌, count_by}
use Rattle.std.proofs.lemmas.List.Sums.{sum_by-cons}
use Rattle.fal_base.specs.declared.event.Note.{Note}
use Rattle.fal_base.specs.declared.event.Note.TheVariants as note
use Rattle.fal_base.specs.Transcript.{is_commit}
use Rattle.fal_story.specs.Rooms.{is_commit_note}
use Rattle.fal_story.specs.World.{entry_of, entries_of}

-- the entry of a note is a commit where the note is one
entry_commits : (commits : ℕ) (n : Note) → is_commit (entry_of commits n) ≡ is_commit_note n
entry_commits commits (note.Sent lane seq) = refl
entry_commits commits (note.Commit lane seq ino) = refl
entry_commits commits (note.Opened lane seq ino point) = refl
entry_commits commits (note.Placed lane seq version) = refl
entry_commits commits (note.Stale lane seq old new) = refl
entry_commits commits (note.Answered lane seq point reply) = refl

-- the entries of notes have as many commits as the notes
pub noted_commits : (commits : ℕ) (notes : List Note) → count_by is_commit (entries_of commits notes) ≡ count_by is_commit_note notes
noted_commits commits [] = refl
noted_commits commits (n ∷ ns) =
    sum_by-cons (λ e. cond (is_commit e) 1 0) (entry_of commits n) (entries_of commits ns) ∙ ((λ i. cond (entry_commits commits n i) 1 0 + noted_commits commits ns i) ∙ sym (sum_by-cons (λ m. cond (is_commit_note m) 1 0) n ns))
