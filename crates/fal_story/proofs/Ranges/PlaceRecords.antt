-- The records of a placement are within the ranges of the format where their fields are.
use Rattle.std.proofs.Common.{◌≡◌, ◌≢◌, ℕ, ◌*◌, ◌<◌, ◌≤◌, ◌^◌, nat_lt, true, List, [], ◌∷◌, ◌++◌, length, Option, Some, None, refl, arith}
use Rattle.std.specs.List.{flat_map}
use Rattle.std.proofs.lemmas.Bool.Decides.{nat_tests}
use Rattle.std.proofs.lemmas.List.{length-append}
use Rattle.fal_base.specs.declared.row.NamedRow.{NamedRow}
use Rattle.fal_base.specs.declared.rule.Rule.{Rule}
use Rattle.fal_inode.specs.Named.{puts}
use Rattle.fal_wire.specs.declared.message.Message.TheVariants as message
use Rattle.fal_wire.specs.Format.{AreItems, number}
use Rattle.fal_wire.specs.Messages.{FieldsFit, body_spelling, block_body, blocked_body, install_body, done_body}
use Rattle.fal_wire.specs.Names.{name_field}
use Rattle.fal_wire.specs.Numbers.{node_field, operation_field, version_field}
use Rattle.fal_wire.specs.Rows.{inode_field, row_field, next_parent, next_row, rows_field, rule_field}
use Rattle.fal_story.proofs.Lists.Each.{Each, Apart, each_weaker}
use Rattle.fal_story.proofs.Ranges.CoordBounds.{AreGiven, NamedRowFits, RowsFit}
use Rattle.fal_story.proofs.Ranges.FieldLengths.{IsShort, number_short, judged_short, both_short, inode_short, name_short, rule_short}
use Rattle.fal_story.proofs.Ranges.OperationRecords.{done_short, operation_short, node_short}
use Rattle.fal_story.proofs.Ranges.RecordFits.{RecordFits}

-- ---- rows of a name

-- the parents' numbers rise
abbrev pub DoAscend : List NamedRow → Type 0
DoAscend [] = Unit {0}
DoAscend (row ∷ rows) = Each (λ other. row.parent < other.parent) rows × DoAscend rows

-- each row is of a later parent than this one
abbrev IsAbove : Option NamedRow → List NamedRow → Type 0
IsAbove None rows = Unit {0}
IsAbove (Some row) rows = Each (λ other. row.parent < other.parent) rows

rows_items : (last : Option NamedRow) (rows : List NamedRow) → IsAbove last rows → Each NamedRowFits rows → DoAscend rows → AreItems next_row last rows
unfolding next_row next_parent
rows_items last [] above fits ascend = tt
rows_items None (row ∷ rows) above fits ascend = (((fits.0.0, refl), fits.0.1), rows_items (Some row) rows ascend.0 fits.1 ascend.1)
rows_items (Some before) (row ∷ rows) above fits ascend =
    let first = above.0 in
    let is : nat_lt before.parent row.parent ≡ true = grind (arith, nat_tests) in
    (((fits.0.0, is), fits.0.1), rows_items (Some row) rows ascend.0 fits.1 ascend.1)

items_rows : (last : Option NamedRow) (rows : List NamedRow) → AreItems next_row last rows → Each NamedRowFits rows
unfolding next_row next_parent
items_rows last [] items = tt
items_rows last (row ∷ rows) items = ((items.0.0.0, items.0.1), items_rows (Some row) rows items.1)

past_first : (before row : ℕ) (rows : List NamedRow) → before < row → Each (λ other. row < other.parent) rows → Each (λ other. before < other.parent) rows
past_first before row rows first later = each_weaker _ (λ (other : NamedRow). before < other.parent) rows (λ other less. omega arith) later

items_above : (before : NamedRow) (rows : List NamedRow) → AreItems next_row (Some before) rows → Each (λ other. before.parent < other.parent) rows
unfolding next_row next_parent
items_above before [] items = tt
items_above before (row ∷ rows) items =
    let is : nat_lt before.parent row.parent ≡ true = items.0.0.1 in
    let first : before.parent < row.parent = grind (arith, nat_tests) in
    (first, past_first before.parent row.parent rows first (items_above row rows items.1))

items_ascend : (last : Option NamedRow) (rows : List NamedRow) → AreItems next_row last rows → DoAscend rows
items_ascend last [] items = tt
items_ascend last (row ∷ rows) items = (items_above row rows items.1, items_ascend (Some row) rows items.1)

pub rows_fit : (rows : List NamedRow) → length rows ≤ 100000 → Each NamedRowFits rows → DoAscend rows → rows_field.Fits rows
unfolding rows_field
rows_fit rows few fits ascend = (omega arith, (refl, rows_items None rows tt fits ascend))

-- the rows of a record
pub record AreRows (rows : List NamedRow) : Type 0 where
  pub fit : Each NamedRowFits rows
  pub ascend : DoAscend rows

pub rows_are : (rows : List NamedRow) → rows_field.Fits rows → AreRows rows
unfolding rows_field
rows_are rows fits = record { fit = items_rows None rows fits.1.1; ascend = items_ascend None rows fits.1.1 }

-- rows of rising parents are of different ones
pub ascend_apart : (rows : List NamedRow) → Each NamedRowFits rows → DoAscend rows → AreGiven rows
ascend_apart rows fits ascend = record { fit = fits; apart = apart rows ascend }
  where
    apart : (rows : List NamedRow) → DoAscend rows → Apart (λ (row : NamedRow). row.parent) rows
    apart [] ascend = tt
    apart (row ∷ rows) ascend = (each_weaker _ (λ (other : NamedRow). other.parent ≢ row.parent) rows (λ other less same. absurd (omega arith)) ascend.0, apart rows ascend.1)

-- ---- rows as puts

some_fits : (row : NamedRow) → NamedRowFits row → row_field.Fits (Some row.inode)
unfolding row_field
some_fits row fits = fits.1

pub puts_fit : (name : List ℕ) (rows : List NamedRow) → Each NamedRowFits rows → RowsFit (puts name rows)
puts_fit name [] fits = tt
puts_fit name (row ∷ rows) fits = (some_fits row fits.0, puts_fit name rows fits.1)

-- ---- how long

version_short : IsShort ℕ version_field 4
unfolding version_field
version_short = judged_short _ (number_short 4)

row_most : (row : NamedRow) → NamedRowFits row → length ((next_row None).spell row) ≤ 35
unfolding next_row next_parent
row_most row fits =
    let parent = (number_short 8).most_bytes row.parent fits.0 in
    let inode = inode_short.most_bytes row.inode fits.1 in
    let both = length-append ((next_parent None).spell row.parent) (inode_field.spell row.inode) in
    omega arith

rows_length : (rows : List NamedRow) → Each NamedRowFits rows → length (flat_map (next_row None).spell rows) ≤ 35 * length rows
rows_length [] fits = omega arith
rows_length (row ∷ rows) fits =
    let one = row_most row fits.0 in
    let rest = rows_length rows fits.1 in
    let both = length-append ((next_row None).spell row) (flat_map (next_row None).spell rows) in
    omega arith

rows_most : (rows : List NamedRow) → length rows ≤ 100000 → Each NamedRowFits rows → length (rows_field.spell rows) ≤ 3500004
unfolding rows_field
rows_most rows few fits =
    let count = (number_short 4).most_bytes (length rows) (omega arith) in
    let all = rows_length rows fits in
    let both = length-append ((number 4).spell (length rows)) (flat_map (next_row None).spell rows) in
    omega arith

block_short : IsShort (ℕ × List ℕ) block_body 260
unfolding block_body
block_short = both_short operation_short name_short

-- ---- the four kinds

pub block_fits : (number : ℕ) (name : List ℕ) → operation_field.Fits number → name_field.Fits name → RecordFits (message.Block number name)
unfolding FieldsFit body_spelling block_body
block_fits number name of_number of_name = let h = block_short.most_bytes (number, name) (of_number, of_name) in record { fields = (of_number, of_name); short = omega arith; dir = tt }

pub blocked_fits : (number node : ℕ) (rows : List NamedRow) → operation_field.Fits number → node_field.Fits node → length rows ≤ 100000 → Each NamedRowFits rows → DoAscend rows → RecordFits (message.Blocked number node rows)
unfolding FieldsFit body_spelling blocked_body
blocked_fits number node rows of_number of_node few fits ascend =
    let first = operation_short.most_bytes number of_number in
    let second = node_short.most_bytes node of_node in
    let third = rows_most rows few fits in
    let last = length-append (node_field.spell node) (rows_field.spell rows) in
    let all = length-append (operation_field.spell number) ((node_field.spell node) ++ (rows_field.spell rows)) in
    record { fields = (of_number, (of_node, rows_fit rows few fits ascend)); short = omega arith; dir = tt }

pub install_fits : (number version : ℕ) (rule : Rule) (rows : List NamedRow) → operation_field.Fits number → version_field.Fits version → rule_field.Fits rule → length rows ≤ 100000 → Each NamedRowFits rows → DoAscend rows
    → RecordFits (message.Install number version rule rows)
unfolding FieldsFit body_spelling install_body
install_fits number version rule rows of_number of_version of_rule few fits ascend =
    let first = operation_short.most_bytes number of_number in
    let second = version_short.most_bytes version of_version in
    let third = rule_short.most_bytes rule of_rule in
    let fourth = rows_most rows few fits in
    let last = length-append (rule_field.spell rule) (rows_field.spell rows) in
    let more = length-append (version_field.spell version) (rule_field.spell rule ++ rows_field.spell rows) in
    let all = length-append (operation_field.spell number) (version_field.spell version ++ (rule_field.spell rule ++ rows_field.spell rows)) in
    record { fields = (of_number, (of_version, (of_rule, rows_fit rows few fits ascend))); short = omega arith; dir = tt }

pub installed_fits : (number node : ℕ) → operation_field.Fits number → node_field.Fits node → RecordFits (message.Installed number node)
unfolding FieldsFit body_spelling done_body
installed_fits number node of_number of_node = let h = done_short.most_bytes (number, node) (of_number, of_node) in record { fields = (of_number, of_node); short = omega arith; dir = tt }

-- a version that was reached by a change
pub version_fits : (version : ℕ) → 0 < version → version < 2 ^ 32 → version_field.Fits version
unfolding version_field
version_fits version some small = (omega arith, grind (arith, nat_tests))

-- ---- and their fields then are

pub block_fields : (number : ℕ) (name : List ℕ) → FieldsFit (message.Block number name) → operation_field.Fits number × name_field.Fits name
unfolding FieldsFit block_body
block_fields number name fits = fits

pub blocked_fields : (number node : ℕ) (rows : List NamedRow) → FieldsFit (message.Blocked number node rows) → rows_field.Fits rows
unfolding FieldsFit blocked_body
blocked_fields number node rows fits = fits.1.1

pub install_fields : (number version : ℕ) (rule : Rule) (rows : List NamedRow) → FieldsFit (message.Install number version rule rows) → operation_field.Fits number × rows_field.Fits rows
unfolding FieldsFit install_body
install_fields number version rule rows fits = (fits.0, fits.1.1.1)
