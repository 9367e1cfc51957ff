-- Every reply about the tree is the plain tree's answer at one point of the commits, between the call's sending and its answering.
use Rattle.std.specs.Prelude.{◌≡◌, ℕ, ◌≤◌, ◌<◌, true, false, List, Some, slice_get}
use Rattle.fal_base.specs.declared.call.Call.{Call}
use Rattle.fal_base.specs.declared.call.Config.{Config}
use Rattle.fal_base.specs.declared.entry.Entry.{Entry}
use Rattle.fal_base.specs.declared.entry.Entry.TheVariants.{Sent, Answered}
use Rattle.fal_base.specs.declared.reply.Reply.{Reply}
use Rattle.fal_base.specs.Answer.{answer}
use Rattle.fal_base.specs.Change.{makes}
use Rattle.fal_base.specs.Commits.{Commit, tree_at, AreLegal}
use Rattle.fal_base.specs.Transcript.{call_of, commits_of, at, is_names, is_place}

-- a commit of this call
abbrev pub IsBy : ℕ → ℕ → Commit → Type 0
IsBy lane seq commit = (commit.lane ≡ lane) × (commit.seq ≡ seq)

-- what the answer with point k says that stands at entry j
pub record IsAnswer (config : Config) (entries : List Entry) (j lane seq k : ℕ) (reply : Reply) (call : Call) : Type 0 where
  -- where the call was sent
  pub sent : ℕ
  pub is_sent : slice_get entries sent ≡ Some (Sent lane seq)
  pub before : sent < j
  pub from : at entries sent ≤ k
  pub to : k ≤ at entries j
  pub served : reply ≡ answer (tree_at (commits_of config entries) k) call.cred call.op
  -- a call that makes a commit there is commit k, which stands before the answer
  pub made : makes (tree_at (commits_of config entries) k) call.cred call.op ≡ true
      → (k < at entries j) × ((commit : Commit) × (slice_get (commits_of config entries) k ≡ Some commit) × IsBy lane seq commit)
  -- and it has no other commit
  pub only : (i : ℕ) (commit : Commit) → slice_get (commits_of config entries) i ≡ Some commit → IsBy lane seq commit
      → (i ≡ k) × (makes (tree_at (commits_of config entries) k) call.cred call.op ≡ true)

pub record IsLinear (config : Config) (entries : List Entry) : Type 0 where
  pub legal : AreLegal (commits_of config entries)
  pub answers : (j lane seq k : ℕ) (reply : Reply) (call : Call) → slice_get entries j ≡ Some (Answered lane seq k reply)
      → call_of config lane seq ≡ Some call → is_place call.op ≡ false → is_names reply ≡ false → IsAnswer config entries j lane seq k reply call
