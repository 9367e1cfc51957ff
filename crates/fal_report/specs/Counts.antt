-- The counts of a run, a line each.
use Rattle.std.specs.Prelude.{ℕ, Bool, true, false, not, List, ◌++◌, codes, count_by}
use Rattle.std.specs.Fmt.{decimal}
use Rattle.fal_base.specs.declared.entry.Entry.{Entry}
use Rattle.fal_base.specs.declared.entry.Entry.TheVariants.{Sent, Commit, Opened, Placed, Stale, Answered}
use Rattle.fal_base.specs.declared.reply.Reply.{Reply}
use Rattle.fal_base.specs.declared.reply.Reply.TheVariants as reply
use Rattle.fal_base.specs.declared.row.TreeLine.{TreeLine}
use Rattle.fal_base.specs.Transcript.{is_commit}
use Rattle.fal_base.specs.Walk.{is_dir}

abbrev pub is_errno : Reply → Bool
is_errno (reply.Fail errno) = true
is_errno reply.Fine = false
is_errno (reply.Stat inode) = false
is_errno (reply.Names names) = false

-- whether the entry is an answer of this kind
abbrev pub answers : (Reply → Bool) → Entry → Bool
answers test (Answered lane seq point reply) = test reply
answers test (Sent lane seq) = false
answers test (Commit lane seq ino) = false
answers test (Opened lane seq ino point) = false
answers test (Placed lane seq version) = false
answers test (Stale lane seq old new) = false

abbrev pub is_answer : Entry → Bool
is_answer entry = answers (λ reply. true) entry

abbrev pub is_granted : Entry → Bool
is_granted entry = answers (λ reply. not (is_errno reply)) entry

abbrev pub is_failed : Entry → Bool
is_failed entry = answers is_errno entry

abbrev pub is_directory_row : TreeLine → Bool
is_directory_row row = is_dir row.inode

abbrev pub is_file_row : TreeLine → Bool
is_file_row row = not (is_dir row.inode)

-- a label and its number
unfoldable pub count_text : List ℕ → ℕ → List ℕ
count_text label n = label ++ codes " " ++ decimal n ++ codes "\n"

-- the answered calls, those of them without and with an errno, and the commits
abbrev pub entry_counts : List Entry → List ℕ
entry_counts entries =
    count_text (codes "calls") (count_by is_answer entries) ++ count_text (codes "ok") (count_by is_granted entries)
    ++ count_text (codes "failed") (count_by is_failed entries) ++ count_text (codes "commits") (count_by is_commit entries)

abbrev pub row_counts : List TreeLine → List ℕ
row_counts rows = count_text (codes "directories") (count_by is_directory_row rows) ++ count_text (codes "files") (count_by is_file_row rows)
