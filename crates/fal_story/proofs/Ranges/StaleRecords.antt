-- The record that tells a client of a later table is within the ranges of the format where its fields are.
use Rattle.std.proofs.Common.{◌≡◌, ℕ, ◌*◌, ◌<◌, ◌≤◌, nat_lt, Bool, true, false, cond, List, [], ◌∷◌, ◌++◌, length, filter, Option, Some, None, refl, arith}
use Rattle.std.specs.List.{flat_map}
use Rattle.std.proofs.lemmas.Bool.Decides.{nat_tests}
use Rattle.std.proofs.lemmas.List.{length-append}
use Rattle.fal_base.specs.declared.call.CallId.{CallId}
use Rattle.fal_base.specs.declared.rule.RuleChange.{RuleChange}
use Rattle.fal_place.specs.Placement.{Placement, changes_since}
use Rattle.fal_wire.specs.declared.message.Message.TheVariants as message
use Rattle.fal_wire.specs.Format.{AreItems, number, ◌⊗◌}
use Rattle.fal_wire.specs.Messages.{FieldsFit, body_spelling, stale_body}
use Rattle.fal_wire.specs.Names.{name_field}
use Rattle.fal_wire.specs.Numbers.{id_field, rule_count, version_above}
use Rattle.fal_wire.specs.Rows.{changes_field, next_change, next_version, rule_field, version_before}
use Rattle.fal_story.proofs.Ranges.FieldLengths.{both_short, id_short, judged_short, name_short, number_short, rule_short, IsShort}
use Rattle.fal_story.proofs.Ranges.RecordFits.{RecordFits}
use Rattle.fal_story.proofs.Ranges.RowCounts.{fewer_kept}
use Rattle.fal_base.specs.declared.rule.Rule.{Rule}

-- ---- some of the changes

-- whose versions ascend from a version on ascend from an earlier one, too
items_earlier : (last : Option RuleChange) (c : RuleChange) (cs : List RuleChange) → nat_lt (version_before last) c.version ≡ true → AreItems next_change (Some c) cs → AreItems next_change last cs
unfolding next_change next_version
items_earlier last c [] later items = tt
items_earlier last c (d ∷ cs) later items =
    let above : nat_lt c.version d.version ≡ true = items.0.1.1.1 in
    ((items.0.0, (items.0.1.0, (items.0.1.1.0, later_still (version_before last) c.version d.version later above))), items.1)
  where
    later_still : (a b c : ℕ) → nat_lt a b ≡ true → nat_lt b c ≡ true → nat_lt a c ≡ true
    later_still a b c first second = grind (arith, nat_tests)

first_later : (last : Option RuleChange) (c : RuleChange) → (next_change last).Fits c → nat_lt (version_before last) c.version ≡ true
unfolding next_change next_version
first_later last c fits = fits.1.1.1

pub items_some : (test : RuleChange → Bool) (last : Option RuleChange) (cs : List RuleChange) → AreItems next_change last cs → AreItems next_change last (filter test cs)
items_some test last [] items = tt
items_some test last (c ∷ cs) items =
    elim (test c) as (λ b. AreItems next_change last (cond b (c ∷ filter test cs) (filter test cs))) [
      | true ↦ (items.0, items_some test (Some c) cs items.1)
      | false ↦ items_some test last cs (items_earlier last c cs (first_later last c items.0) items.1)
    ]

-- the changes since a version can be spelled where the table's rules can
pub since_fits : (version : ℕ) (table : Placement) → changes_field.Fits table.rules → changes_field.Fits (changes_since version table)
unfolding changes_field rule_count
since_fits version table fits =
    let test = λ (c : RuleChange). nat_lt version c.version in
    let fewer = fewer_kept test table.rules in
    let few = fits.0.0 in
    ((omega arith, grind (arith, nat_tests)), (refl, items_some test None table.rules fits.1.1))

-- ---- how long

change_short : (last : Option RuleChange) → IsShort (List ℕ × (Rule × ℕ)) (name_field ⊗ rule_field ⊗ next_version last) 263
unfolding next_version
change_short last = both_short name_short (both_short rule_short (judged_short (λ n. nat_lt (version_before last) n) (number_short 4)))

change_most : (last : Option RuleChange) (c : RuleChange) → (next_change last).Fits c → length ((next_change None).spell c) ≤ 263
unfolding next_change next_version
change_most last c fits = (change_short last).most_bytes (c.name, (c.rule, c.version)) fits

changes_length : (last : Option RuleChange) (cs : List RuleChange) → AreItems next_change last cs → length (flat_map (next_change None).spell cs) ≤ 263 * length cs
changes_length last [] items = omega arith
changes_length last (c ∷ cs) items =
    let one = change_most last c items.0 in
    let rest = changes_length (Some c) cs items.1 in
    let both = length-append ((next_change None).spell c) (flat_map (next_change None).spell cs) in
    omega arith

changes_short : IsShort (List RuleChange) changes_field 300000
unfolding changes_field rule_count
changes_short = record {
  most_bytes = λ cs fits.
      let count = (number_short 2).most_bytes (length cs) fits.0.0 in
      let few : length cs ≤ 1024 = grind (arith, nat_tests) in
      let all = changes_length None cs fits.1.1 in
      let both = length-append ((number 2).spell (length cs)) (flat_map (next_change None).spell cs) in
      omega arith;
}

-- ---- the record

above_fits : (old new : ℕ) → old < new → new ≤ 10000 → (version_above old).Fits new
unfolding version_above
above_fits old new later few = (omega arith, grind (arith, nat_tests))

pub stale_fits : (id : CallId) (old new : ℕ) (changes : List RuleChange) → id_field.Fits id → old < new → new ≤ 10000 → changes_field.Fits changes → RecordFits (message.Stale id old new changes)
unfolding FieldsFit body_spelling stale_body version_above
stale_fits id old new changes of_id later few of_changes =
    let first = id_short.most_bytes id of_id in
    let second = (number_short 4).most_bytes old (omega arith) in
    let third = (number_short 4).most_bytes new (omega arith) in
    let fourth = changes_short.most_bytes changes of_changes in
    let last = length-append ((number 4).spell new) (changes_field.spell changes) in
    let more = length-append ((number 4).spell old) ((number 4).spell new ++ changes_field.spell changes) in
    let all = length-append (id_field.spell id) ((number 4).spell old ++ ((number 4).spell new ++ changes_field.spell changes)) in
    record { fields = (of_id, (omega arith, (above_fits old new later few, of_changes))); short = omega arith; dir = tt }
