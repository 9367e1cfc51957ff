-- Answers to changes of the placement table, and what a stale client is told.
use Rattle.std.specs.Prelude.{◌≡◌, ◌⊎◌, ◌↔◌, ℕ, ◌+◌, ◌≤◌, ◌<◌, Bool, true, false, not, ◌&&◌, if◌then◌else◌, ◌==◌, nat_lt, List, [], ◌∷◌, ◌++◌, Option, None, Some, length, take, slice_get}
use Rattle.std.specs.List.{list_any}
use Rattle.std.specs.Cmp.Lexicographic.{pointwise}
use Rattle.fal_base.specs.declared.call.Call.{Call}
use Rattle.fal_base.specs.declared.call.Config.{Config}
use Rattle.fal_base.specs.declared.call.Cred.{Cred}
use Rattle.fal_base.specs.declared.entry.Entry.{Entry}
use Rattle.fal_base.specs.declared.entry.Entry.TheVariants.{Sent, Commit, Opened, Placed, Stale, Answered}
use Rattle.fal_base.specs.declared.op.Op.{Op}
use Rattle.fal_base.specs.declared.op.Op.TheVariants as op
use Rattle.fal_base.specs.declared.reply.Errno.TheVariants.{Eperm, Einval, Enospc}
use Rattle.fal_base.specs.declared.reply.Reply.{Reply}
use Rattle.fal_base.specs.declared.reply.Reply.TheVariants.{Fine}
use Rattle.fal_base.specs.declared.rule.Rule.{Rule}
use Rattle.fal_base.specs.declared.rule.Rule.TheVariants as rule
use Rattle.fal_base.specs.Answer.{checked}
use Rattle.fal_base.specs.Transcript.{call_of, at, placed}

-- whether the name is one of these
abbrev pub is_ruled : List ℕ → List (List ℕ) → Bool
is_ruled name names = list_any (λ other. pointwise ◌==◌ other name) names

-- the name that a call places
abbrev pub placed_name : Op → List (List ℕ)
placed_name (op.Place name rule) = name ∷ []
placed_name other = []

abbrev pub call_name : Option Call → List (List ℕ)
call_name None = []
call_name (Some call) = placed_name call.op

-- one more name that has a rule
abbrev pub with_name : List (List ℕ) → List (List ℕ) → List (List ℕ)
with_name names [] = names
with_name names (name ∷ more) = if is_ruled name names then names else names ++ name ∷ []

-- the names that have a rule after these entries
abbrev pub names_ruled : Config → List (List ℕ) → List Entry → List (List ℕ)
names_ruled config names [] = names
names_ruled config names (Placed lane seq version ∷ entries) = names_ruled config (with_name names (call_name (call_of config lane seq))) entries
names_ruled config names (Sent lane seq ∷ entries) = names_ruled config names entries
names_ruled config names (Commit lane seq ino ∷ entries) = names_ruled config names entries
names_ruled config names (Opened lane seq ino point ∷ entries) = names_ruled config names entries
names_ruled config names (Stale lane seq old new ∷ entries) = names_ruled config names entries
names_ruled config names (Answered lane seq point reply ∷ entries) = names_ruled config names entries

abbrev pub ruled_before : Config → List Entry → ℕ → List (List ℕ)
ruled_before config entries j = names_ruled config [] (take j entries)

-- the rule names no node of the cluster
abbrev pub is_outside : Rule → ℕ → Bool
is_outside rule.Hash nodes = false
is_outside rule.ByParent nodes = false
is_outside (rule.Node n) nodes = not (nat_lt n nodes)

-- there are 1,024 rules, and this name has none
abbrev pub is_full : List (List ℕ) → List ℕ → Bool
is_full names name = (length names == 1024) && not (is_ruled name names)

-- the answer where these names have a rule
abbrev pub place_answer : ℕ → List (List ℕ) → Cred → List ℕ → Rule → Reply
place_answer nodes names cred name rule =
    checked ((not (cred.uid == 0), Eperm) ∷ (is_outside rule nodes, Einval) ∷ (is_full names name, Enospc) ∷ []) Fine

-- what the answer to a change of placement says that stands at entry j
pub record IsPlaceAnswer (config : Config) (entries : List Entry) (j lane seq k : ℕ) (reply : Reply) (cred : Cred) (name : List ℕ) (rule : Rule) : Type 0 where
  pub sent : ℕ
  pub is_sent : slice_get entries sent ≡ Some (Sent lane seq)
  pub from : at entries sent ≤ k
  pub to : k ≤ at entries j
  pub served : reply ≡ place_answer config.nodes (ruled_before config entries j) cred name rule
  -- it is answered Fine exactly where it has a Placed entry
  pub placed : (reply ≡ Fine) ↔ ((i : ℕ) × ((version : ℕ) × (slice_get entries i ≡ Some (Placed lane seq version))))

pub record ArePlaced (config : Config) (entries : List Entry) : Type 0 where
  -- versions count from 1
  pub versions : (j lane seq version : ℕ) → slice_get entries j ≡ Some (Placed lane seq version) → version ≡ placed entries j + 1
  -- there was room for the name
  pub room : (j lane seq version : ℕ) (call : Call) (name : List ℕ) (rule : Rule) → slice_get entries j ≡ Some (Placed lane seq version)
      → call_of config lane seq ≡ Some call → call.op ≡ op.Place name rule
      → (is_ruled name (ruled_before config entries j) ≡ true) ⊎ (length (ruled_before config entries j) < 1024)
  pub answers : (j lane seq k : ℕ) (reply : Reply) (call : Call) (name : List ℕ) (rule : Rule) → slice_get entries j ≡ Some (Answered lane seq k reply)
      → call_of config lane seq ≡ Some call → call.op ≡ op.Place name rule → IsPlaceAnswer config entries j lane seq k reply call.cred name rule

-- the version that a lane was last told, or 0
abbrev pub told : ℕ → ℕ → List Entry → ℕ
told lane version [] = version
told lane version (Stale other seq old new ∷ entries) = told lane (if other == lane then new else version) entries
told lane version (Sent other seq ∷ entries) = told lane version entries
told lane version (Commit other seq ino ∷ entries) = told lane version entries
told lane version (Opened other seq ino point ∷ entries) = told lane version entries
told lane version (Placed other seq placed ∷ entries) = told lane version entries
told lane version (Answered other seq point reply ∷ entries) = told lane version entries

-- a client is told that it is stale only where it is older, and only of changes that were made
abbrev pub AreOlder : List Entry → Type 0
AreOlder entries =
    (j lane seq old new : ℕ) → slice_get entries j ≡ Some (Stale lane seq old new) → (old ≡ told lane 0 (take j entries)) × (old < new) × (new ≤ placed entries j)
