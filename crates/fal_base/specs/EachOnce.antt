-- Each call is sent once, answered at most once, and what is recorded of it stands between the two.
use Rattle.std.specs.Prelude.{◌≡◌, ℕ, ◌+◌, ◌<◌, true, List, Some, IsSomeAnd, IsSome, take, slice_get}
use Rattle.fal_base.specs.declared.call.Config.{Config}
use Rattle.fal_base.specs.declared.entry.Entry.{Entry}
use Rattle.fal_base.specs.declared.entry.Entry.TheVariants.{Sent, Commit, Opened, Placed, Stale, Answered}
use Rattle.fal_base.specs.declared.reply.Reply.{Reply}
use Rattle.fal_base.specs.Transcript.{call_of, sents, is_list, is_place}

-- no entry before j answers this call
abbrev pub NotAnswered : List Entry → ℕ → ℕ → ℕ → Type 0
NotAnswered entries j lane seq = (i point : ℕ) (reply : Reply) → i < j → slice_get entries i ≡ Some (Answered lane seq point reply) → ⊥

-- no entry before j is a commit of this call
abbrev pub NotCommitted : List Entry → ℕ → ℕ → ℕ → Type 0
NotCommitted entries j lane seq = (i ino : ℕ) → i < j → slice_get entries i ≡ Some (Commit lane seq ino) → ⊥

abbrev pub NotOpened : List Entry → ℕ → ℕ → ℕ → Type 0
NotOpened entries j lane seq = (i ino point : ℕ) → i < j → slice_get entries i ≡ Some (Opened lane seq ino point) → ⊥

abbrev pub NotPlaced : List Entry → ℕ → ℕ → ℕ → Type 0
NotPlaced entries j lane seq = (i version : ℕ) → i < j → slice_get entries i ≡ Some (Placed lane seq version) → ⊥

-- entry j stands after the call's Sent and before its Answered
pub record IsOpen (entries : List Entry) (j lane seq : ℕ) : Type 0 where
  pub place : ℕ
  pub before : place < j
  pub sent : slice_get entries place ≡ Some (Sent lane seq)
  pub unanswered : NotAnswered entries j lane seq

-- before entry j the lane sent its calls up to this one, and no further
abbrev pub IsLastSent : List Entry → ℕ → ℕ → ℕ → Type 0
IsLastSent entries j lane seq = sents lane (take j entries) ≡ seq

pub record IsEachOnce (config : Config) (entries : List Entry) : Type 0 where
  -- a lane's calls are sent in their order
  pub sent : (j lane seq : ℕ) → slice_get entries j ≡ Some (Sent lane seq) → (seq ≡ sents lane (take j entries) + 1) × IsSome (call_of config lane seq)
  -- before the lane's next one is sent
  pub answered : (j lane seq point : ℕ) (reply : Reply) → slice_get entries j ≡ Some (Answered lane seq point reply) → IsOpen entries j lane seq × IsLastSent entries j lane seq
  pub committed : (j lane seq ino : ℕ) → slice_get entries j ≡ Some (Commit lane seq ino) → IsOpen entries j lane seq × NotCommitted entries j lane seq
  pub opened : (j lane seq ino point : ℕ) → slice_get entries j ≡ Some (Opened lane seq ino point)
      → IsOpen entries j lane seq × NotOpened entries j lane seq × IsSomeAnd (call_of config lane seq) (λ call. is_list call.op ≡ true)
  pub placed : (j lane seq version : ℕ) → slice_get entries j ≡ Some (Placed lane seq version)
      → IsOpen entries j lane seq × NotPlaced entries j lane seq × IsSomeAnd (call_of config lane seq) (λ call. is_place call.op ≡ true)
  pub stale : (j lane seq old new : ℕ) → slice_get entries j ≡ Some (Stale lane seq old new) → IsOpen entries j lane seq

-- before entry j this call was answered
pub record IsAnsweredBefore (entries : List Entry) (j lane seq : ℕ) : Type 0 where
  pub place : ℕ
  pub point : ℕ
  pub reply : Reply
  pub before : place < j
  pub answered : slice_get entries place ≡ Some (Answered lane seq point reply)

-- a lane sends each next call only after its last one was answered. Legal runs do; a transcript is not judged by it
abbrev pub AreOneByOne : List Entry → Type 0
AreOneByOne entries = (j lane seq : ℕ) → slice_get entries j ≡ Some (Sent lane (seq + 1)) → 0 < seq → IsAnsweredBefore entries j lane seq
