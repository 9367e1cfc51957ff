-- The changes since a version carry a table of that version to a later one.
use Rattle.std.proofs.Common.{◌≡◌, ℕ, ◌+◌, ◌<◌, ◌≤◌, Bool, true, false, not, cond, List, [], ◌∷◌, ◌++◌, length, take, drop, fold, filter, nat_lt, nat_le, refl, ap, sym, ◌∙◌, subst, arith}
use Rattle.std.specs.Prelude.{IsTrue}
use Rattle.std.specs.List.{list_all}
use Rattle.std.specs.Cmp.Lexicographic.{same_text}
use Rattle.std.proofs.lemmas.Bool.{leb-true, le-leb, lt-ltb}
use Rattle.std.proofs.lemmas.List.{take-append-drop, take-append-le, take-take, take_all, length-take-le, length_push}
use Rattle.std.proofs.lemmas.List.Sums.{fold-append}
use Rattle.std.proofs.lemmas.List.Elements.{filter-append}
use Rattle.fal_base.specs.declared.rule.RuleChange.{RuleChange}
use Rattle.fal_place.specs.Placement.{Placement, Placing, same_name, insert_by_version, with_change, without_name, with_rule, with_changes, changes_since, IsByVersion, opening_table, after_placings, table_after, CatchesUp}
use Rattle.fal_place.proofs.Rising.{and_first, and_second, and_both, never_later, rises_from-filter, by_version-with_change, filter-insert_by_version, insert_by_version_end}
use Rattle.fal_place.proofs.Within.{list_all-with_change, list_all-filter}

filter_comm : (p q : RuleChange → Bool) (rules : List RuleChange) → filter p (filter q rules) ≡ filter q (filter p rules)
filter_comm p q [] = refl
filter_comm p q (rule ∷ rules) =
    let rest = filter_comm p q rules in
    elim (p rule) as (λ one. p rule ≡ one → filter p (filter q (rule ∷ rules)) ≡ filter q (cond one (rule ∷ filter p rules) (filter p rules))) [
      | true ↦ λ e. elim (q rule) as (λ two. filter p (cond two (rule ∷ filter q rules) (filter q rules)) ≡ cond two (rule ∷ filter q (filter p rules)) (filter q (filter p rules))) [
        | true ↦ ap (λ one. cond one (rule ∷ filter p (filter q rules)) (filter p (filter q rules))) e ∙ ap (λ xs. rule ∷ xs) rest
        | false ↦ rest
      ]
      | false ↦ λ e. elim (q rule) as (λ two. filter p (cond two (rule ∷ filter q rules) (filter q rules)) ≡ filter q (filter p rules)) [
        | true ↦ ap (λ one. cond one (rule ∷ filter p (filter q rules)) (filter p (filter q rules))) e ∙ rest
        | false ↦ rest
      ]
    ] refl

filter_again : (p : RuleChange → Bool) (rules : List RuleChange) → filter p (filter p rules) ≡ filter p rules
filter_again p [] = refl
filter_again p (rule ∷ rules) =
    elim (p rule) as (λ one. p rule ≡ one → filter p (cond one (rule ∷ filter p rules) (filter p rules)) ≡ cond one (rule ∷ filter p rules) (filter p rules)) [
      | true ↦ λ e. ap (λ one. cond one (rule ∷ filter p (filter p rules)) (filter p (filter p rules))) e ∙ ap (λ xs. rule ∷ xs) (filter_again p rules)
      | false ↦ λ e. filter_again p rules
    ] refl

-- a name is left out of what a rule was set in
without_name-with_change : (name : List ℕ) (rules : List RuleChange) (change : RuleChange) → IsByVersion rules
    → without_name name (with_change rules change) ≡ cond (not (same_name change.name name)) (with_change (without_name name rules) change) (without_name name rules)
without_name-with_change name rules change rises =
    let others = without_name change.name rules in
    filter-insert_by_version (λ rule. not (same_name rule.name name)) change 0 others (rises_from-filter _ 0 rules rises) ∙
    elim (same_name change.name name) as (λ same. same_name change.name name ≡ same → cond (not same) (insert_by_version change (without_name name others)) (without_name name others) ≡ cond (not same) (with_change (without_name name rules) change) (without_name name rules)) [
      | true ↦ λ e. subst (λ n. without_name name (without_name n rules) ≡ without_name name rules) (sym (same_text change.name name (sym e))) (filter_again _ rules)
      | false ↦ λ e. ap (λ xs. insert_by_version change xs) (filter_comm _ _ rules)
    ] refl

-- a name is left out of what several rules were set in
without_name-fold : (name : List ℕ) (rules changes : List RuleChange) → IsByVersion rules → without_name name (fold with_change rules changes) ≡ fold with_change (without_name name rules) (without_name name changes)
without_name-fold name rules [] rises = refl
without_name-fold name rules (change ∷ changes) rises =
    without_name-fold name (with_change rules change) changes (by_version-with_change rules change rises) ∙
    ap (λ xs. fold with_change xs (without_name name changes)) (without_name-with_change name rules change rises) ∙
    elim (same_name change.name name) as (λ same. fold with_change (cond (not same) (with_change (without_name name rules) change) (without_name name rules)) (without_name name changes)
    ≡ fold with_change (without_name name rules) (cond (not same) (change ∷ without_name name changes) (without_name name changes))) [ true ↦ refl | false ↦ refl ]

none_later : (bound : ℕ) (rules : List RuleChange) → IsTrue (list_all (λ rule. nat_le rule.version bound) rules) → filter (λ rule. nat_lt bound rule.version) rules ≡ []
none_later bound [] all = refl
none_later bound (rule ∷ rules) all =
    ap (λ later. cond later (rule ∷ filter (λ r. nat_lt bound r.version) rules) (filter (λ r. nat_lt bound r.version) rules)) (never_later bound rule.version (leb-true _ _ (and_first _ _ all))) ∙ none_later bound rules (and_second _ _ all)

up_to_more : (bound : ℕ) (rules : List RuleChange) → IsTrue (list_all (λ rule. nat_le rule.version bound) rules) → IsTrue (list_all (λ rule. nat_le rule.version (bound + 1)) rules)
up_to_more bound [] all = refl
up_to_more bound (rule ∷ rules) all =
    let first : rule.version ≤ bound = leb-true _ _ (and_first _ _ all) in
    and_both _ _ (le-leb rule.version (bound + 1) (omega arith)) (up_to_more bound rules (and_second _ _ all))

-- the later rules make these rules of the earlier ones
record IsCarried (base : List RuleChange) (from to : ℕ) (rules : List RuleChange) : Type 0 where
  start : IsByVersion base
  rises : IsByVersion rules
  up_to : IsTrue (list_all (λ rule. nat_le rule.version to) rules)
  since : from ≤ to
  is : fold with_change base (filter (λ rule. nat_lt from rule.version) rules) ≡ rules

carried_none : (base : List RuleChange) (from : ℕ) → IsByVersion base → IsTrue (list_all (λ rule. nat_le rule.version from) base) → IsCarried base from from base
carried_none base from rises up_to = record {
  start = rises;
  rises = rises;
  up_to = up_to;
  since = omega arith;
  is = ap (λ xs. fold with_change base xs) (none_later from base up_to);
}

carried_one : (base : List RuleChange) (from to : ℕ) (rules : List RuleChange) (change : RuleChange) → change.version ≡ to + 1 → IsCarried base from to rules → IsCarried base from (to + 1) (with_change rules change)
carried_one base from to rules change at so =
    let late : RuleChange → Bool = λ rule. nat_lt from rule.version in
    let others = without_name change.name rules in
    let le : to ≤ change.version = omega arith in
    let more : from < change.version = omega (arith, so.since) in
    let at_end : with_change rules change ≡ others ++ change ∷ [] = insert_by_version_end change to others le (list_all-filter _ _ rules so.up_to) in
    let ends : filter late (with_change rules change) ≡ without_name change.name (filter late rules) ++ change ∷ [] =
    ap (λ xs. filter late xs) at_end ∙ filter-append late others (change ∷ []) ∙
    ap (λ b. filter late others ++ cond b (change ∷ []) []) (lt-ltb from change.version more) ∙
    ap (λ xs. xs ++ change ∷ []) (filter_comm _ _ rules) in
    let same : without_name change.name (fold with_change base (without_name change.name (filter late rules))) ≡ others =
    without_name-fold change.name base _ so.start ∙
    ap (λ xs. fold with_change (without_name change.name base) xs) (filter_again _ (filter late rules)) ∙
    sym (without_name-fold change.name base (filter late rules) so.start) ∙
    ap (λ xs. without_name change.name xs) so.is in
    record {
      start = so.start;
      rises = by_version-with_change rules change so.rises;
      up_to = list_all-with_change _ rules change (le-leb change.version (to + 1) (omega arith)) (up_to_more to rules so.up_to);
      since = omega (arith, so.since);
      is = ap (λ xs. fold with_change base xs) ends ∙ fold-append with_change base (without_name change.name (filter late rules)) (change ∷ []) ∙ ap (λ xs. insert_by_version change xs) same;
    }

carried_all : (base : List RuleChange) (from : ℕ) (table : Placement) (placings : List Placing) → IsCarried base from table.version table.rules → IsCarried base from (after_placings table placings).version (after_placings table placings).rules
carried_all base from table [] so = so
carried_all base from table (placing ∷ placings) so =
    carried_all base from (with_rule table placing.name placing.rule) placings (carried_one base from table.version table.rules (record { name = placing.name; rule = placing.rule; version = table.version + 1 }) refl so)

nodes-after_placings : (table : Placement) (placings : List Placing) → (after_placings table placings).nodes ≡ table.nodes
nodes-after_placings table [] = refl
nodes-after_placings table (placing ∷ placings) = nodes-after_placings (with_rule table placing.name placing.rule) placings

version-after_placings : (table : Placement) (placings : List Placing) → (after_placings table placings).version ≡ table.version + length placings
version-after_placings table [] = omega arith
version-after_placings table (placing ∷ placings) =
    let rest = version-after_placings (with_rule table placing.name placing.rule) placings in
    rest ∙ omega arith

-- the node count of each table is that of the opening one
pub nodes-table_after : (nodes : ℕ) (placings : List Placing) (version : ℕ) → (table_after nodes placings version).nodes ≡ nodes
nodes-table_after nodes placings version = nodes-after_placings (opening_table nodes) (take version placings)

-- a table after so many changes has this version
pub version-table_after : (nodes : ℕ) (placings : List Placing) (version : ℕ) → version ≤ length placings → (table_after nodes placings version).version ≡ version
version-table_after nodes placings version le =
    version-after_placings (opening_table nodes) (take version placings) ∙ ap (λ n. 0 + n) (length-take-le version placings le) ∙ omega arith

-- a table of a version stays as it was when more changes follow
pub table_after-append : (nodes : ℕ) (placings more : List Placing) (version : ℕ) → version ≤ length placings → table_after nodes (placings ++ more) version ≡ table_after nodes placings version
table_after-append nodes placings more version le = ap (λ ps. after_placings (opening_table nodes) ps) (take-append-le version placings more le)

-- one more change makes the next table of the last one
pub table_after-push : (nodes : ℕ) (placings : List Placing) (placing : Placing)
    → table_after nodes (placings ++ placing ∷ []) (length placings + 1) ≡ with_rule (table_after nodes placings (length placings)) placing.name placing.rule
table_after-push nodes placings placing =
    let run = λ (ps : List Placing). after_placings (opening_table nodes) ps in
    ap run (take_all (length placings + 1) (placings ++ placing ∷ []) (omega (arith, length_push placings placing))) ∙
    fold-append (λ t p. with_rule t p.name p.rule) (opening_table nodes) placings (placing ∷ []) ∙
    ap (λ ps. with_rule (run ps) placing.name placing.rule) (sym (take_all (length placings) placings (omega arith)))

-- the changes between two versions lead from one table to the other
table_after-later : (nodes : ℕ) (placings : List Placing) (from to : ℕ) → from ≤ to → table_after nodes placings to ≡ after_placings (table_after nodes placings from) (drop from (take to placings))
table_after-later nodes placings from to le =
    let run = λ (ps : List Placing). after_placings (opening_table nodes) ps in
    ap run (sym (take-append-drop from (take to placings))) ∙ ap (λ ps. run (ps ++ drop from (take to placings))) (take-take from to placings le) ∙
    fold-append (λ t placing. with_rule t placing.name placing.rule) (opening_table nodes) (take from placings) (drop from (take to placings))

same_placement : (table : Placement) (nodes version : ℕ) (rules : List RuleChange) → nodes ≡ table.nodes → version ≡ table.version → rules ≡ table.rules
    → let placement : Placement = record { nodes = nodes; version = version; rules = rules } in placement ≡ table
same_placement table nodes version rules one two three =
    let by_nodes : ℕ → Placement = λ n. record { nodes = n; version = version; rules = rules } in
    let by_version : ℕ → Placement = λ v. record { nodes = table.nodes; version = v; rules = rules } in
    let by_rules : List RuleChange → Placement = λ rs. record { nodes = table.nodes; version = table.version; rules = rs } in
    ap by_nodes one ∙ ap by_version two ∙ ap by_rules three

-- what a table of a later version tells since a version, set in the table of that version, makes the later table
pub with_changes-changes_since : (nodes : ℕ) (placings : List Placing) (from to : ℕ) → from ≤ to → to ≤ length placings
    → with_changes (table_after nodes placings from) to (changes_since from (table_after nodes placings to)) ≡ table_after nodes placings to
with_changes-changes_since nodes placings from to le within =
    let base = table_after nodes placings from in
    let last = table_after nodes placings to in
    let opened = carried_all [] 0 (opening_table nodes) (take from placings) (carried_none [] 0 refl refl) in
    let version : base.version ≡ from = version-table_after nodes placings from (omega arith) in
    let none : IsCarried base.rules from base.version base.rules = subst (λ v. IsCarried base.rules v base.version base.rules) version (carried_none base.rules base.version opened.rises opened.up_to) in
    let so = carried_all base.rules from base (drop from (take to placings)) none in
    let is : fold with_change base.rules (filter (λ rule. nat_lt from rule.version) last.rules) ≡ last.rules =
    subst (λ t. fold with_change base.rules (filter (λ rule. nat_lt from rule.version) t.rules) ≡ t.rules) (sym (table_after-later nodes placings from to le)) so.is in
    same_placement last base.nodes to _ (nodes-table_after nodes placings from ∙ sym (nodes-table_after nodes placings to)) (sym (version-table_after nodes placings to within)) is

-- so a table that took the changes has caught up
pub catches_up : (old new : Placement) (to : ℕ) (changes : List RuleChange) → new ≡ with_changes old to changes → CatchesUp old to changes new
catches_up old new to changes is nodes placings from le within was told =
    is ∙ ap (λ table. with_changes table to changes) was ∙ ap (λ late. with_changes (table_after nodes placings from) to late) told ∙ with_changes-changes_since nodes placings from to le within
