-- Rules of names: a new one changes no other name's, and where two tables give a name one rule, its calls go to one place.
use Rattle.std.proofs.Common.{◌≡◌, ◌≢◌, ⊎_elim, ℕ, ◌+◌, ◌<◌, true, false, not, cond, List, [], ◌∷◌, Option, Some, None, refl, sym, ap, ◌∙◌, subst}
use Rattle.std.specs.Prelude.{find, nat_lt, ◌%◌}
use Rattle.std.specs.Cmp.Lexicographic.{same_text}
use Rattle.std.proofs.Math.Nat.{mod-lt}
use Rattle.fal_base.specs.declared.key.Key.{Key}
use Rattle.fal_base.specs.declared.rule.Rule.{Rule}
use Rattle.fal_base.specs.declared.rule.Rule.TheVariants.{Hash, ByParent, Node}
use Rattle.fal_base.specs.declared.rule.RuleChange.{RuleChange}
use Rattle.fal_base.specs.Tree.{root_key}
use Rattle.fal_batch.specs.Fate.{goes_by_parent, is_by_parent}
use Rattle.fal_place.proofs.Tables.{name_cases}
use Rattle.fal_place.specs.Hash.{name_hash}
use Rattle.fal_place.specs.Placement.{Placement, same_name, rule_found, rule_of, owner, owner_by, route_by, route_of_last, without_name, insert_by_version, with_rule}

-- ---- other names

module _ (name q : List ℕ) (off : same_name name q ≡ false) where
  found_without : (rules : List RuleChange) → find (λ c. same_name c.name q) (without_name name rules) ≡ find (λ c. same_name c.name q) rules
  found_without [] = refl
  found_without (rule ∷ rules) =
      let others = find (λ (c : RuleChange). same_name c.name q) rules in
      elim (same_name rule.name name) as (λ b. same_name rule.name name ≡ b → find (λ (c : RuleChange). same_name c.name q) (cond (not b) (rule ∷ without_name name rules) (without_name name rules)) ≡ cond (same_name rule.name q) (Some rule) others) [
        | true ↦ λ e. found_without rules ∙ sym (ap (λ b. cond b (Some rule) others) (subst (λ n. same_name n q ≡ false) (sym (same_text rule.name name (sym e))) off))
        | false ↦ λ e. ap (λ o. cond (same_name rule.name q) (Some rule) o) (found_without rules)
      ] refl

  found_inserted : (change : RuleChange) (rules : List RuleChange) → change.name ≡ name → find (λ c. same_name c.name q) (insert_by_version change rules) ≡ find (λ c. same_name c.name q) rules
  found_inserted change [] is = ap (λ b. cond b (Some change) None) (ap (λ n. same_name n q) is ∙ off)
  found_inserted change (rule ∷ rules) is =
      elim (nat_lt change.version rule.version) as (λ b. find (λ (c : RuleChange). same_name c.name q) (cond b (change ∷ rule ∷ rules) (rule ∷ insert_by_version change rules)) ≡ find (λ (c : RuleChange). same_name c.name q) (rule ∷ rules)) [
        | true ↦ ap (λ b. cond b (Some change) (find (λ (c : RuleChange). same_name c.name q) (rule ∷ rules))) (ap (λ n. same_name n q) is ∙ off)
        | false ↦ ap (λ o. cond (same_name rule.name q) (Some rule) o) (found_inserted change rules is)
      ]

-- another name keeps its rule
pub rule_other : (table : Placement) (name : List ℕ) (rule : Rule) (q : List ℕ) → q ≢ name → rule_of (with_rule table name rule) q ≡ rule_of table q
rule_other table name rule q other =
    let off : same_name name q ≡ false = ⊎_elim (λ x. absurd (other (sym x.1))) (λ x. x) (name_cases name q) in
    ap rule_found (found_inserted name q off (record { name = name; rule = rule; version = table.version + 1 }) (without_name name table.rules) refl ∙ found_without name q off table.rules)

-- ---- one rule by two tables

-- the tables give the last name one rule, where there is one
abbrev pub RulesAgree : Placement → Placement → Option (List ℕ) → Type 0
RulesAgree t u None = Unit {0}
RulesAgree t u (Some name) = rule_of t name ≡ rule_of u name

pub by_parent_same : (t u : Placement) (last : Option (List ℕ)) → RulesAgree t u last → goes_by_parent t last ≡ goes_by_parent u last
by_parent_same t u None same = refl
by_parent_same t u (Some name) same = ap is_by_parent same

pub route_same : (t u : Placement) (last : Option (List ℕ)) → t.nodes ≡ u.nodes → RulesAgree t u last → route_of_last t last ≡ route_of_last u last
route_same t u None nodes same = refl
route_same t u (Some name) nodes same = λ i. route_by (nodes i) name (same i)

-- ---- where each key lives at a node that is there, each call goes to one

module _ (nodes : ℕ) (table : Placement) (is : table.nodes ≡ nodes) (lives : (key : Key) → owner table key < nodes) where
  -- the root's node is there
  some : 0 < nodes
  some = lives root_key

  hashed : (h : ℕ) → h % table.nodes < nodes
  hashed h = subst (λ n. h % n < nodes) (sym is) (mod-lt h some)

  routed_by : (name : List ℕ) (rule : Rule) → owner_by table.nodes (record { parent = 1; name = name }) rule < nodes → route_by table.nodes name rule < nodes
  routed_by name Hash below = below
  routed_by name ByParent below = hashed (name_hash name)
  routed_by name (Node n) below = below

  pub route_lives : (last : Option (List ℕ)) → route_of_last table last < nodes
  route_lives None = some
  route_lives (Some name) = routed_by name (rule_of table name) (lives (record { parent = 1; name = name }))
