-- The transcript of a run: its entries in recorded order. Lanes and the calls of a lane are counted from 1, entries from 0.
use Rattle.std.specs.Prelude.{ℕ, zero, suc, ◌+◌, Bool, true, false, if◌then◌else◌, ◌==◌, List, [], ◌∷◌, ◌++◌, Option, None, Some, take, count_by, slice_get}
use Rattle.fal_base.specs.declared.call.Call.{Call}
use Rattle.fal_base.specs.declared.call.Config.{Config}
use Rattle.fal_base.specs.declared.entry.Entry.{Entry}
use Rattle.fal_base.specs.declared.entry.Entry.TheVariants.{Sent, Commit, Opened, Placed, Stale, Answered}
use Rattle.fal_base.specs.declared.op.Op.{Op}
use Rattle.fal_base.specs.declared.op.Op.TheVariants as op
use Rattle.fal_base.specs.declared.reply.Reply.{Reply}
use Rattle.fal_base.specs.declared.reply.Reply.TheVariants as reply
use Rattle.fal_base.specs.Commits as commits

-- the item of a list by its number from 1
abbrev pub numbered : {T : Type 0} → List T → ℕ → Option T
numbered items zero = None
numbered items (suc k) = slice_get items k

abbrev pub lane_call : Option (List Call) → ℕ → Option Call
lane_call None seq = None
lane_call (Some calls) seq = numbered calls seq

-- a lane's call by its number
abbrev pub call_of : Config → ℕ → ℕ → Option Call
call_of config lane seq = lane_call (numbered config.lanes lane) seq

abbrev pub commit_by : Option Call → ℕ → ℕ → ℕ → List commits.Commit
commit_by None lane seq ino = []
commit_by (Some call) lane seq ino = record { lane = lane; seq = seq; cred = call.cred; op = call.op; ino = ino } ∷ []

-- the commits of a transcript, joined to their calls
abbrev pub commits_of : Config → List Entry → List commits.Commit
commits_of config [] = []
commits_of config (Commit lane seq ino ∷ entries) = commit_by (call_of config lane seq) lane seq ino ++ commits_of config entries
commits_of config (Sent lane seq ∷ entries) = commits_of config entries
commits_of config (Opened lane seq ino point ∷ entries) = commits_of config entries
commits_of config (Placed lane seq version ∷ entries) = commits_of config entries
commits_of config (Stale lane seq old new ∷ entries) = commits_of config entries
commits_of config (Answered lane seq point answer ∷ entries) = commits_of config entries

abbrev pub is_commit : Entry → Bool
is_commit (Commit lane seq ino) = true
is_commit (Sent lane seq) = false
is_commit (Opened lane seq ino point) = false
is_commit (Placed lane seq version) = false
is_commit (Stale lane seq old new) = false
is_commit (Answered lane seq point answer) = false

abbrev pub is_placed : Entry → Bool
is_placed (Placed lane seq version) = true
is_placed (Sent lane seq) = false
is_placed (Commit lane seq ino) = false
is_placed (Opened lane seq ino point) = false
is_placed (Stale lane seq old new) = false
is_placed (Answered lane seq point answer) = false

-- how many commits stand before entry j
abbrev pub at : List Entry → ℕ → ℕ
at entries j = count_by is_commit (take j entries)

-- how many placement changes stand before entry j
abbrev pub placed : List Entry → ℕ → ℕ
placed entries j = count_by is_placed (take j entries)

-- how many calls of this lane were sent
abbrev pub sents : ℕ → List Entry → ℕ
sents lane [] = 0
sents lane (Sent other seq ∷ entries) = (if other == lane then 1 else 0) + sents lane entries
sents lane (Commit other seq ino ∷ entries) = sents lane entries
sents lane (Opened other seq ino point ∷ entries) = sents lane entries
sents lane (Placed other seq version ∷ entries) = sents lane entries
sents lane (Stale other seq old new ∷ entries) = sents lane entries
sents lane (Answered other seq point answer ∷ entries) = sents lane entries

abbrev pub is_names : Reply → Bool
is_names (reply.Names names) = true
is_names reply.Fine = false
is_names (reply.Fail errno) = false
is_names (reply.Stat inode) = false

abbrev pub is_list : Op → Bool
is_list (op.List path) = true
is_list other = false

abbrev pub is_place : Op → Bool
is_place (op.Place name rule) = true
is_place other = false
