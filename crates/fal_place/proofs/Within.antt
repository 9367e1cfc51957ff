-- Rules that name no node which is not there stay so.
use Rattle.std.proofs.Common.{ℕ, Bool, true, false, cond, List, [], ◌∷◌, fold, filter, find, nat_lt, refl, Some}
use Rattle.std.specs.Prelude.{IsTrue}
use Rattle.std.specs.List.{list_all}
use Rattle.fal_base.specs.declared.rule.RuleChange.{RuleChange}
use Rattle.fal_place.specs.Placement.{insert_by_version, rule_found, with_change, without_name, is_within, AllWithin, IsSoundTable}
use Rattle.fal_place.proofs.Rising.{and_first, and_second, and_both, by_version-with_change}

pub list_all-filter : (p test : RuleChange → Bool) (rules : List RuleChange) → IsTrue (list_all p rules) → IsTrue (list_all p (filter test rules))
list_all-filter p test [] all = refl
list_all-filter p test (rule ∷ rules) all =
    let rest = list_all-filter p test rules (and_second _ _ all) in
    elim (test rule) as (λ kept. IsTrue (list_all p (cond kept (rule ∷ filter test rules) (filter test rules)))) [
      | true ↦ and_both _ _ (and_first _ _ all) rest
      | false ↦ rest
    ]

list_all-insert_by_version : (p : RuleChange → Bool) (change : RuleChange) (rules : List RuleChange) → IsTrue (p change) → IsTrue (list_all p rules) → IsTrue (list_all p (insert_by_version change rules))
list_all-insert_by_version p change [] one all = and_both _ _ one refl
list_all-insert_by_version p change (rule ∷ rules) one all =
    elim (nat_lt change.version rule.version) as (λ later. IsTrue (list_all p (cond later (change ∷ rule ∷ rules) (rule ∷ insert_by_version change rules)))) [
      | true ↦ and_both _ _ one all
      | false ↦ and_both _ _ (and_first _ _ all) (list_all-insert_by_version p change rules one (and_second _ _ all))
    ]

-- what all rules and the new one have, all have after it is set
pub list_all-with_change : (p : RuleChange → Bool) (rules : List RuleChange) (change : RuleChange) → IsTrue (p change) → IsTrue (list_all p rules) → IsTrue (list_all p (with_change rules change))
list_all-with_change p rules change one all = list_all-insert_by_version p change (without_name change.name rules) one (list_all-filter p _ rules all)

-- a table stays sound when it takes a rule
pub sound-with_change : (nodes : ℕ) (rules : List RuleChange) (change : RuleChange) → IsTrue (is_within nodes change.rule) → IsSoundTable nodes rules → IsSoundTable nodes (with_change rules change)
sound-with_change nodes rules change one sound = record {
  some_nodes = sound.some_nodes;
  few_nodes = sound.few_nodes;
  within = list_all-with_change (λ c. is_within nodes c.rule) rules change one sound.within;
  by_version = by_version-with_change rules change sound.by_version;
}

-- and when it takes several
pub sound-with_changes : (nodes : ℕ) (rules : List RuleChange) (changes : List RuleChange) → AllWithin nodes changes → IsSoundTable nodes rules → IsSoundTable nodes (fold with_change rules changes)
sound-with_changes nodes rules [] all sound = sound
sound-with_changes nodes rules (change ∷ changes) all sound =
    sound-with_changes nodes (with_change rules change) changes (and_second _ _ all) (sound-with_change nodes rules change (and_first _ _ all) sound)

-- so a rule that is found names no node which is not there
pub within-rule_found : (nodes : ℕ) (test : RuleChange → Bool) (rules : List RuleChange) → AllWithin nodes rules → IsTrue (is_within nodes (rule_found (find test rules)))
within-rule_found nodes test [] all = refl
within-rule_found nodes test (rule ∷ rules) all =
    elim (test rule) as (λ here. IsTrue (is_within nodes (rule_found (cond here (Some rule) (find test rules))))) [
      | true ↦ and_first _ _ all
      | false ↦ within-rule_found nodes test rules (and_second _ _ all)
    ]
