-- The rules of every table that placements leave can be spelled.
use Rattle.std.proofs.Common.{◌≡◌, ℕ, zero, suc, ◌+◌, ◌<◌, ◌≤◌, ◌^◌, true, false, not, cond, List, [], ◌∷◌, ◌++◌, length, take, drop, nat_lt, nat_le, Option, Some, None, refl, sym, ap, ◌∙◌, subst, arith}
use Rattle.std.specs.Prelude.{IsTrue}
use Rattle.std.specs.List.{list_all}
use Rattle.std.proofs.lemmas.Bool.{leb-true, le-leb}
use Rattle.std.proofs.lemmas.Bool.Decides.{nat_tests}
use Rattle.std.proofs.lemmas.List.{length_push, take-append-drop}
use Rattle.std.proofs.lemmas.List.Sums.{fold-append}
use Rattle.fal_base.specs.declared.call.Call.{Call}
use Rattle.fal_base.specs.declared.call.Config.{Config}
use Rattle.fal_base.specs.declared.entry.Entry.{Entry}
use Rattle.fal_base.specs.declared.entry.Entry.TheVariants as entry
use Rattle.fal_base.specs.declared.op.Op.{Op}
use Rattle.fal_base.specs.declared.op.Op.TheVariants as op
use Rattle.fal_base.specs.declared.rule.RuleChange.{RuleChange}
use Rattle.fal_base.specs.OpPaths.{bad_path}
use Rattle.fal_base.specs.Places.{is_ruled, names_ruled, with_name}
use Rattle.fal_base.specs.Transcript.{call_of}
use Rattle.fal_place.specs.Placement.{Placement, Placing, after_placings, insert_by_version, opening_table, same_name, table_after, with_rule, without_name}
use Rattle.fal_place.proofs.Rising.{and_both, and_first, and_second, insert_by_version_end}
use Rattle.fal_place.proofs.Within.{list_all-filter}
use Rattle.fal_wire.specs.Format.{AreItems}
use Rattle.fal_wire.specs.Names.{name_field}
use Rattle.fal_wire.specs.Numbers.{rule_count}
use Rattle.fal_wire.specs.Ops.{name_and_rule, op_field}
use Rattle.fal_wire.specs.Rows.{changes_field, next_change, next_version, rule_field, version_before}
use Rattle.fal_story.proofs.Events.ServedCalls.{call_is}
use Rattle.fal_story.proofs.Events.Shows.{Ghost, Shows}
use Rattle.fal_story.proofs.Lists.Each.{Each, each_join, each_weaker}
use Rattle.fal_story.proofs.Lists.Members.{each_of_all}
use Rattle.fal_story.proofs.Ranges.StaleRecords.{items_some}
use Rattle.fal_story.proofs.Trees.Placings.{names_after, names_placings, of_after, placing_by, placing_of, placings_of}
use Rattle.fal_story.specs.Clusters.{IsCluster}
use Rattle.fal_story.specs.World.{World}

-- ---- the placements of a run

abbrev PlacingFits : Placing → Type 0
PlacingFits placing = name_field.Fits placing.name × rule_field.Fits placing.rule

op_fits : (o : Op) → op_field.Fits o → Each PlacingFits (placing_of o)
unfolding op_field name_and_rule
op_fits (op.Place name rule) fits = (fits, tt)
op_fits other fits = tt

no_bad_path : (o : Op) → (bad_path o ≡ None → op_field.Fits o) → Each PlacingFits (placing_of o)
unfolding bad_path
no_bad_path (op.Place name rule) fits = op_fits (op.Place name rule) (fits refl)
no_bad_path other fits = tt

named_fit : (config : Config) (lane seq : ℕ) (found : Option Call) → IsCluster config → call_of config lane seq ≡ found → Each PlacingFits (placing_by found)
named_fit config lane seq None cluster is = tt
named_fit config lane seq (Some call) cluster is = no_bad_path call.op (λ good. ((call_is config lane seq call cluster is).fits good).1)

placings_fit : (config : Config) (entries : List Entry) → IsCluster config → Each PlacingFits (placings_of config entries)
placings_fit config [] cluster = tt
placings_fit config (entry.Placed lane seq version ∷ es) cluster =
    each_join PlacingFits (placing_by (call_of config lane seq)) (placings_of config es) (named_fit config lane seq (call_of config lane seq) cluster refl) (placings_fit config es cluster)
placings_fit config (other ∷ es) cluster = placings_fit config es cluster

-- ---- the rules of a table, in the order of their versions

record IsSpelled (table : Placement) : Type 0 where
  items : AreItems next_change None table.rules
  most : IsTrue (list_all (λ rule. nat_le rule.version table.version) table.rules)

-- one more rule, of a later version
items_push : (last : Option RuleChange) (rules : List RuleChange) (change : RuleChange) → AreItems next_change last rules → version_before last < change.version → Each (λ rule. rule.version < change.version) rules
    → name_field.Fits change.name × rule_field.Fits change.rule × (change.version < 256 ^ 4) → AreItems next_change last (rules ++ change ∷ [])
unfolding next_change next_version
items_push last [] change items later above fits = let is : nat_lt (version_before last) change.version ≡ true = grind (arith, nat_tests) in ((fits.0, (fits.1, (fits.2, is))), tt)
items_push last (rule ∷ rules) change items later above fits = (items.0, items_push (Some rule) rules change items.1 above.0 above.1 fits)

ruled_spelled : (table : Placement) (placing : Placing) → table.version + 1 < 256 ^ 4 → PlacingFits placing → IsSpelled table → IsSpelled (with_rule table placing.name placing.rule)
ruled_spelled table placing small fits is =
    let change : RuleChange = record { name = placing.name; rule = placing.rule; version = table.version + 1 } in
    let others = without_name placing.name table.rules in
    let test = λ (rule : RuleChange). not (same_name rule.name placing.name) in
    let most = list_all-filter (λ (rule : RuleChange). nat_le rule.version table.version) test table.rules is.most in
    let at_end : insert_by_version change others ≡ others ++ change ∷ [] = insert_by_version_end change table.version others (omega arith) most in
    let below = each_weaker _ (λ (rule : RuleChange). rule.version < change.version) others (λ rule le. let most : rule.version ≤ table.version = leb-true rule.version table.version le in omega arith) (each_of_all (λ (rule : RuleChange). nat_le rule.version table.version) others most) in
    record {
      items = subst (AreItems next_change None) (sym at_end) (items_push None others change (items_some test None table.rules is.items) (omega arith) below (fits.0, fits.1, small));
      most = subst (λ rules. IsTrue (list_all (λ (rule : RuleChange). nat_le rule.version (table.version + 1)) rules)) (sym at_end) (most_push table.version others change refl most);
    }
  where
    most_push : (bound : ℕ) (rules : List RuleChange) (change : RuleChange) → change.version ≡ bound + 1 → IsTrue (list_all (λ (rule : RuleChange). nat_le rule.version bound) rules)
        → IsTrue (list_all (λ (rule : RuleChange). nat_le rule.version (bound + 1)) (rules ++ change ∷ []))
    most_push bound [] change at all = and_both _ _ (le-leb change.version (bound + 1) (omega arith)) refl
    most_push bound (rule ∷ rules) change at all =
        let first : rule.version ≤ bound = leb-true _ _ (and_first _ _ all) in
        and_both _ _ (le-leb rule.version (bound + 1) (omega arith)) (most_push bound rules change at (and_second _ _ all))

after_spelled : (table : Placement) (placings : List Placing) → table.version + length placings < 256 ^ 4 → Each PlacingFits placings → IsSpelled table → IsSpelled (after_placings table placings)
after_spelled table [] small fits is = is
after_spelled table (placing ∷ placings) small fits is =
    after_spelled (with_rule table placing.name placing.rule) placings (omega arith) fits.1 (ruled_spelled table placing (omega arith) fits.0 is)

each_take : (P : Placing → Type 0) (j : ℕ) (placings : List Placing) → Each P placings → Each P (take j placings)
each_take P zero placings each = tt
each_take P (suc j) [] each = tt
each_take P (suc j) (placing ∷ placings) each = (each.0, each_take P j placings each.1)

-- ---- how many there are

with_more : (names : List (List ℕ)) (name : List ℕ) → length names ≤ length (with_name names (name ∷ []))
with_more names name =
    let push = length_push names name in
    elim (is_ruled name names) as (λ b. length names ≤ length (cond b names (names ++ name ∷ []))) [ true ↦ omega arith | false ↦ omega arith ]

after_more : (names : List (List ℕ)) (placings : List Placing) → length names ≤ length (names_after names placings)
after_more names [] = omega arith
after_more names (placing ∷ placings) =
    let first = with_more names placing.name in
    let rest = after_more (with_name names (placing.name ∷ [])) placings in
    omega arith

-- an earlier table has no more rules than the last one may have
few_rules : (config : Config) (entries : List Entry) (nodes j : ℕ) (placings : List Placing) → placings ≡ placings_of config entries → length (names_ruled config [] entries) ≤ 1024 → length (table_after nodes placings j).rules ≤ 1024
few_rules config entries nodes j placings same few =
    let ahead = take j placings in
    let behind = drop j placings in
    let are = of_after [] (opening_table nodes) ahead (record { count = refl; once = λ name. refl }) in
    let count = are.count in
    let more = after_more (names_after [] ahead) behind in
    let whole : names_ruled config [] entries ≡ names_after (names_after [] ahead) behind =
    names_placings config [] entries ∙ ap (names_after []) (sym same ∙ sym (take-append-drop j placings)) ∙ fold-append (λ ns (placing : Placing). with_name ns (placing.name ∷ [])) [] ahead behind in
    let all = ap length whole in
    omega arith

-- the rules of a table that was reached
pub rules_fit : (config : Config) (w : World) (h : Ghost) (j : ℕ) → IsCluster config → Shows config w h → length h.placings ≤ 10000 → changes_field.Fits (table_after config.nodes h.placings j).rules
unfolding changes_field rule_count
rules_fit config w h j cluster shows few =
    let placements = shows.good.script.placements in
    let same = placements.same in
    let fits = subst (Each PlacingFits) (sym same) (placings_fit config w.entries cluster) in
    let few_first : length (take j h.placings) ≤ length h.placings = take_most j h.placings in
    let spelled = after_spelled (opening_table config.nodes) (take j h.placings) (omega arith) (each_take PlacingFits j h.placings fits) (record { items = tt; most = refl }) in
    let most = few_rules config w.entries config.nodes j h.placings same placements.few in
    ((omega arith, grind (arith, nat_tests)), (refl, spelled.items))
  where
    take_most : (j : ℕ) (placings : List Placing) → length (take j placings) ≤ length placings
    take_most zero placings = omega arith
    take_most (suc j) [] = omega arith
    take_most (suc j) (placing ∷ placings) = let rest = take_most j placings in omega arith
