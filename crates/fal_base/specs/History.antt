-- The calls of a transcript in one sequential order, and one plain tree that serves them.
use Rattle.std.specs.Prelude.{◌≡◌, ℕ, ◌+◌, ◌<◌, Bool, true, false, ◌&&◌, ◌||◌, not, if◌then◌else◌, ◌==◌, List, [], ◌∷◌, ◌++◌, Option, None, Some, slice_get}
use Rattle.fal_base.specs.declared.call.Call.{Call}
use Rattle.fal_base.specs.declared.call.Config.{Config}
use Rattle.fal_base.specs.declared.entry.Entry.{Entry}
use Rattle.fal_base.specs.declared.entry.Entry.TheVariants as entry
use Rattle.fal_base.specs.declared.reply.Reply.{Reply}
use Rattle.fal_base.specs.Answer.{answer}
use Rattle.fal_base.specs.Change.{makes, change}
use Rattle.fal_base.specs.Commits.{Commit}
use Rattle.fal_base.specs.Transcript.{call_of, commits_of, is_names, is_place}
use Rattle.fal_base.specs.Tree.{Tree, tree0}

-- a call that changed nothing, with its answer; or the call of a commit
pub data Item : Type 0 where
  Reads : (lane seq : ℕ) (call : Call) (reply : Reply) → Item
  Makes : Commit → Item

abbrev pub has_commit : List Commit → ℕ → ℕ → Bool
has_commit [] lane seq = false
has_commit (commit ∷ commits) lane seq = if (commit.lane == lane) && (commit.seq == seq) then true else has_commit commits lane seq

-- an answered call about the tree
abbrev pub reads_item : Option Call → ℕ → ℕ → Reply → List Item
reads_item None lane seq reply = []
reads_item (Some call) lane seq reply = if is_place call.op || is_names reply then [] else Reads lane seq call reply ∷ []

-- the answered calls with point k and no commit, in the order of their answers
abbrev pub reads_at : Config → List Commit → ℕ → List Entry → List Item
reads_at config commits k [] = []
reads_at config commits k (entry.Answered lane seq point reply ∷ entries) =
    (if (point == k) && not (has_commit commits lane seq) then reads_item (call_of config lane seq) lane seq reply else []) ++ reads_at config commits k entries
reads_at config commits k (entry.Sent lane seq ∷ entries) = reads_at config commits k entries
reads_at config commits k (entry.Commit lane seq ino ∷ entries) = reads_at config commits k entries
reads_at config commits k (entry.Opened lane seq ino point ∷ entries) = reads_at config commits k entries
reads_at config commits k (entry.Placed lane seq version ∷ entries) = reads_at config commits k entries
reads_at config commits k (entry.Stale lane seq old new ∷ entries) = reads_at config commits k entries

-- for each k from here on: the calls with point k, and then the call of commit k
abbrev pub history_from : Config → List Commit → List Entry → ℕ → List Commit → List Item
history_from config commits entries k [] = reads_at config commits k entries
history_from config commits entries k (commit ∷ rest) = reads_at config commits k entries ++ Makes commit ∷ history_from config commits entries (k + 1) rest

abbrev pub history : Config → List Entry → List Item
history config entries = history_from config (commits_of config entries) entries 0 (commits_of config entries)

-- one plain tree, run through the list by one thread, gives each answered call its reply
abbrev pub IsServed : List Entry → Tree → List Item → Type 0
IsServed entries tree [] = Unit {0}
IsServed entries tree (Reads lane seq call reply ∷ items) = (reply ≡ answer tree call.cred call.op) × (makes tree call.cred call.op ≡ false) × IsServed entries tree items
IsServed entries tree (Makes commit ∷ items) =
    (makes tree commit.cred commit.op ≡ true)
    × ((j point : ℕ) (reply : Reply) → slice_get entries j ≡ Some (entry.Answered commit.lane commit.seq point reply) → reply ≡ answer tree commit.cred commit.op)
    × IsServed entries (change tree commit.cred commit.op commit.ino) items

-- the item is of this call
abbrev pub IsOf : ℕ → ℕ → Item → Type 0
IsOf lane seq (Reads other number call reply) = (other ≡ lane) × (number ≡ seq)
IsOf lane seq (Makes commit) = (commit.lane ≡ lane) × (commit.seq ≡ seq)

-- a call that was answered before another one was sent stands before it
abbrev pub KeepsOrder : List Entry → List Item → Type 0
KeepsOrder entries items =
    (i j point lane seq other number : ℕ) (reply : Reply) (a b : ℕ) (first second : Item) → slice_get entries i ≡ Some (entry.Answered lane seq point reply)
    → slice_get entries j ≡ Some (entry.Sent other number) → i < j → slice_get items a ≡ Some first → slice_get items b ≡ Some second
    → IsOf lane seq first → IsOf other number second → a < b

pub record IsLegalHistory (config : Config) (entries : List Entry) : Type 0 where
  pub served : IsServed entries tree0 (history config entries)
  pub ordered : KeepsOrder entries (history config entries)
