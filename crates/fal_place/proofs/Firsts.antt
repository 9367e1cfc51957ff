-- Where the rules of names are looked for: from a place before which no rule has the name.
use Rattle.std.proofs.Common.{◌≡◌, ◌≢◌, ◌⊎◌, ⊎_elim, ℕ, ◌+◌, ◌-◌, ◌≤◌, ◌<◌, false, cond, List, length, take, drop, Some, sym, ap, ◌∙◌, subst, get_or, set, replicate, le_of_eq, inl, inr, arith}
use Rattle.std.proofs.Math.Nat.{mod-lt}
use Rattle.std.proofs.lemmas.Bool.Decides.{eqb_tells}
use Rattle.std.proofs.lemmas.Grind.{get_or-set_at}
use Rattle.std.proofs.lemmas.List.{drop_more, get_or-set_other, get_or-replicate, take_all, length-drop}
use Rattle.fal_base.specs.declared.rule.RuleChange.{RuleChange}
use Rattle.fal_place.specs.Hash.{name_hash}
use Rattle.fal_place.specs.Placement.{same_name}
use Rattle.fal_place.specs.Starts.{slot_of, start_of, first_of, IsStart}
use Rattle.fal_place.proofs.Tables.{name_cases}

-- the rules from a place on, as they are read
all_from : {X : Type 0} (xs : List X) (start : ℕ) → take (length xs - start) (drop start xs) ≡ drop start xs
all_from xs start = take_all (length xs - start) (drop start xs) (le_of_eq (length-drop start xs))

-- what is found from its place on is what is found among all rules
pub found_from : (name starts : List ℕ) (rules : List RuleChange) → IsStart name (start_of starts name) rules → first_of name (take (length rules - start_of starts name) (drop (start_of starts name) rules)) ≡ first_of name rules
found_from name starts rules is = ap (first_of name) (all_from rules (start_of starts name)) ∙ is.first

pub slot_below : (name : List ℕ) → slot_of name < 1024
slot_below name = mod-lt (name_hash name) (omega arith)

-- the place that stands in each slot at first
pub start_of-replicate : (end : ℕ) (name : List ℕ) → start_of (replicate 1024 end) name ≡ end
start_of-replicate end name = get_or-replicate 1024 (slot_of name) end 0 (slot_below name)

-- a rule of another name is passed over
first_of-past : (name : List ℕ) (rules : List RuleChange) (at : ℕ) (d : RuleChange) → at < length rules → same_name (get_or rules at d).name name ≡ false → first_of name (drop at rules) ≡ first_of name (drop (at + 1) rules)
first_of-past name rules at d inside other =
    ap (first_of name) (drop_more rules at d inside) ∙ ap (λ b. cond b (Some (get_or rules at d)) (first_of name (drop (at + 1) rules))) other

-- names in other slots are other names
other_slot : (a b : List ℕ) → slot_of b ≢ slot_of a → same_name a b ≡ false
other_slot a b other = ⊎_elim (λ same. absurd (other (ap slot_of (sym same.1)))) (λ off. off) (name_cases a b)

-- the place of a rule stands in the slot of its name, and the others' places stay
module _ (rules : List RuleChange) (starts : List ℕ) (at slot : ℕ) (d : RuleChange) (inside : at < length rules) (is : slot ≡ slot_of (get_or rules at d).name) (there : slot < length starts) where
  start_cases : (name : List ℕ) → (start_of (set starts slot at) name ≡ at) ⊎ ((start_of (set starts slot at) name ≡ start_of starts name) × (slot_of name ≢ slot))
  start_cases name = ⊎_elim (λ same. inl (get_or-set_at starts slot (slot_of name) at 0 same.1 there)) (λ other. inr (get_or-set_other starts slot (slot_of name) at 0 other.1, other.1)) (eqb_tells (slot_of name) slot)

  pub start_inside : (name : List ℕ) → start_of starts name ≤ length rules → start_of (set starts slot at) name ≤ length rules
  start_inside name before = ⊎_elim (λ same. subst (λ s. s ≤ length rules) (sym same) (omega arith)) (λ other. subst (λ s. s ≤ length rules) (sym other.0) before) (start_cases name)

  pub first_from : (name : List ℕ) → first_of name (drop (start_of starts name) rules) ≡ first_of name (drop (at + 1) rules) → first_of name (drop (start_of (set starts slot at) name) rules) ≡ first_of name (drop at rules)
  first_from name before =
      ⊎_elim (λ same. ap (λ s. first_of name (drop s rules)) same)
      (λ other. ap (λ s. first_of name (drop s rules)) other.0 ∙ before ∙ sym (first_of-past name rules at d inside (other_slot (get_or rules at d).name name (subst (λ s. slot_of name ≢ s) is other.1))))
      (start_cases name)
