-- The table in which a name has a new rule: each key lives at a node that is there.
use Rattle.std.proofs.Common.{◌≡◌, ⊎_elim, ℕ, ◌+◌, ◌<◌, true, false, not, cond, List, [], ◌∷◌, Option, Some, None, refl, sym, ap, ◌∙◌, subst, arith}
use Rattle.std.specs.Prelude.{find, nat_lt}
use Rattle.std.proofs.lemmas.Bool.Decides.{nat_tests}
use Rattle.std.proofs.lemmas.Cmp.{nat_list_eq_equiv}
use Rattle.std.proofs.Math.Nat.{mod-lt}
use Rattle.fal_base.specs.declared.key.Key.{Key}
use Rattle.fal_base.specs.declared.rule.Rule.{Rule}
use Rattle.fal_base.specs.declared.rule.Rule.TheVariants as rule
use Rattle.fal_base.specs.declared.rule.RuleChange.{RuleChange}
use Rattle.fal_place.specs.Hash.{key_hash, name_hash}
use Rattle.fal_place.specs.Placement.{Placement, insert_by_version, is_root_key, is_within, owner, owner_by, rule_found, same_name, with_rule, without_name}
use Rattle.fal_place.proofs.Tables.{name_cases, owner_other}

-- a rule for nodes that are there places each key at one
within_owner : (nodes : ℕ) (key : Key) (r : Rule) → 0 < nodes → is_within nodes r ≡ true → owner_by nodes key r < nodes
within_owner nodes key rule.Hash some is = mod-lt (name_hash key.name) some
within_owner nodes key rule.ByParent some is = mod-lt (key_hash key.parent key.name) some
within_owner nodes key (rule.Node node) some is = grind (arith, nat_tests)

module _ (name : List ℕ) where
  abbrev found : List RuleChange → Option RuleChange
  found rules = find (λ change. same_name change.name name) rules

  none_without : (rules : List RuleChange) → found (without_name name rules) ≡ None
  none_without [] = refl
  none_without (r ∷ rules) =
      elim (same_name r.name name) as (λ b. same_name r.name name ≡ b → found (cond (not b) (r ∷ without_name name rules) (without_name name rules)) ≡ None) [
        | true ↦ λ _. none_without rules
        | false ↦ λ off. ap (λ b. cond b (Some r) (found (without_name name rules))) off ∙ none_without rules
      ] refl

  found_there : (change : RuleChange) (rules : List RuleChange) → same_name change.name name ≡ true → found rules ≡ None → found (insert_by_version change rules) ≡ Some change
  found_there change [] is none = ap (λ b. cond b (Some change) None) is
  found_there change (r ∷ rules) is none =
      elim (nat_lt change.version r.version) as (λ b. found (cond b (change ∷ r ∷ rules) (r ∷ insert_by_version change rules)) ≡ Some change) [
        | true ↦ ap (λ b. cond b (Some change) (found (r ∷ rules))) is
        | false ↦ elim (same_name r.name name) as (λ b. cond b (Some r) (found rules) ≡ None → cond b (Some r) (found (insert_by_version change rules)) ≡ Some change) [
          | true ↦ λ some. absurd (cc)
          | false ↦ λ none. found_there change rules is none
        ] none
      ]

-- the keys of the name live by the new rule, and all others where they did
pub next_owner : (nodes : ℕ) (table : Placement) (name : List ℕ) (r : Rule) → table.nodes ≡ nodes → 0 < nodes → is_within nodes r ≡ true → ((key : Key) → owner table key < nodes) → (key : Key) → owner (with_rule table name r) key < nodes
next_owner nodes table name r are some within lives key =
    let change : RuleChange = record { name = name; rule = r; version = table.version + 1 } in
    let others = without_name name table.rules in
    ⊎_elim {C = owner (with_rule table name r) key < nodes}
    (λ same.
    let none = subst (λ n. found key.name (without_name n table.rules) ≡ None) (sym same.1) (none_without key.name table.rules) in
    let by = subst (λ n. owner_by n key r < nodes) (sym are) (within_owner nodes key r some within) in
    elim (is_root_key key) as (λ b. cond b 0 (owner_by table.nodes key (rule_found (found key.name (insert_by_version change others)))) < nodes) [
      | true ↦ some
      | false ↦ subst (λ o. owner_by table.nodes key (rule_found o) < nodes) (sym (found_there key.name change others same.0 none)) by
    ])
    (λ off. subst (λ n. n < nodes) (sym (owner_other table name r key (λ same. let is : true ≡ false = sym (nat_list_eq_equiv.refl name) ∙ ap (λ n. same_name name n) (sym same) ∙ off in absurd (cc)))) (lives key))
    (name_cases name key.name)
