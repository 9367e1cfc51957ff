-- From which place on the rules are searched for a name, by the slot of the name's hash.
use Rattle.std.specs.Prelude.{◌≡◌, ◌≤◌, ℕ, ◌%◌, List, length, drop, find, Option}
use Rattle.std.proofs.Common.{get_or}
use Rattle.fal_base.specs.declared.rule.RuleChange.{RuleChange}
use Rattle.fal_place.specs.Hash.{name_hash}
use Rattle.fal_place.specs.Placement.{same_name}

-- which of the 1,024 slots is a name's
abbrev pub slot_of : List ℕ → ℕ
slot_of name = name_hash name % 1024

-- the place that stands in the name's slot. Without slots it is the first one
abbrev pub start_of : List ℕ → List ℕ → ℕ
start_of starts name = get_or starts (slot_of name) 0

-- the first rule of this name
abbrev pub first_of : List ℕ → List RuleChange → Option RuleChange
first_of name rules = find (λ change. same_name change.name name) rules

-- no rule of a name stands before the place from which on it is looked for
pub record IsStart (name : List ℕ) (start : ℕ) (rules : List RuleChange) : Type 0 where
  pub inside : start ≤ length rules
  pub first : first_of name (drop start rules) ≡ first_of name rules

abbrev pub AreStarts : List ℕ → List RuleChange → Type 0
AreStarts starts rules = (name : List ℕ) → IsStart name (start_of starts name) rules
