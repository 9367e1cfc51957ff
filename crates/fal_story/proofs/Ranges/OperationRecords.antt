-- The records of an operation of the coordinator are within the ranges of the format where their fields are.
use Rattle.std.proofs.Common.{◌≡◌, ℕ, ◌*◌, ◌<◌, ◌≤◌, ◌^◌, nat_lt, true, List, [], ◌∷◌, length, Option, Some, None, refl, arith}
use Rattle.std.specs.List.{flat_map}
use Rattle.std.proofs.lemmas.Bool.Decides.{nat_tests}
use Rattle.std.proofs.lemmas.List.{length-append}
use Rattle.fal_base.specs.declared.inode.Inode.{Inode}
use Rattle.fal_base.specs.declared.key.Key.{Key}
use Rattle.fal_base.specs.declared.row.Update.{Update}
use Rattle.fal_batch.proofs.Truth.{both, both_second}
use Rattle.fal_wire.specs.declared.message.Message.TheVariants as message
use Rattle.fal_wire.specs.Format.{AreItems}
use Rattle.fal_wire.specs.Messages.{FieldsFit, body_spelling, lock_body, locked_body, count_body, counted_body, commit_body, done_body}
use Rattle.fal_wire.specs.Names.{key_field}
use Rattle.fal_wire.specs.Numbers.{node_field, operation_field, one_or_two, at_most_two}
use Rattle.fal_wire.specs.Rows.{row_field, update_field, keys_field, updates_field}
use Rattle.fal_story.proofs.Lists.Each.{Each}
use Rattle.fal_story.proofs.Ranges.CoordBounds.{RowsFit}
use Rattle.fal_story.proofs.Ranges.FieldLengths.{IsShort, byte_short, number_short, judged_short, both_short, shaped_short, key_short, inode_short}
use Rattle.fal_story.proofs.Ranges.RecordFits.{RecordFits}

-- ---- fields

pub operation_fits : (number : ℕ) → 0 < number → number < 2 ^ 32 → operation_field.Fits number
unfolding operation_field
operation_fits number some small = (omega arith, grind (arith, nat_tests))

pub node_fits : (node : ℕ) → node < 16 → node_field.Fits node
unfolding node_field
node_fits node small = (omega arith, grind (arith, nat_tests))

keys_items : (last : Option Key) (keys : List Key) → Each key_field.Fits keys → AreItems (λ _. key_field) last keys
keys_items last [] fits = tt
keys_items last (key ∷ keys) fits = (fits.0, keys_items (Some key) keys fits.1)

items_keys : (last : Option Key) (keys : List Key) → AreItems (λ _. key_field) last keys → Each key_field.Fits keys
items_keys last [] fits = tt
items_keys last (key ∷ keys) fits = (fits.0, items_keys (Some key) keys fits.1)

pub keys_fit : (keys : List Key) → 0 < length keys → length keys ≤ 2 → Each key_field.Fits keys → keys_field.Fits keys
unfolding keys_field one_or_two
keys_fit keys some few fits =
    let least : nat_lt 0 (length keys) ≡ true = grind (arith, nat_tests) in
    let most : nat_lt (length keys) 3 ≡ true = grind (arith, nat_tests) in
    ((omega arith, both (nat_lt 0 (length keys)) (nat_lt (length keys) 3) least most), (refl, keys_items None keys fits))

-- the keys of a record are one or two
pub record AreKeys (keys : List Key) : Type 0 where
  pub few : length keys ≤ 2
  pub fit : Each key_field.Fits keys

pub keys_are : (keys : List Key) → keys_field.Fits keys → AreKeys keys
unfolding keys_field one_or_two
keys_are keys fits = record {
  few = let most : nat_lt (length keys) 3 ≡ true = both_second (nat_lt 0 (length keys)) (nat_lt (length keys) 3) fits.0.1 in grind (arith, nat_tests);
  fit = items_keys None keys fits.1.1;
}

-- an update that can be spelled
abbrev pub UpdateFits : Update → Type 0
UpdateFits u = key_field.Fits u.key × row_field.Fits u.row

updates_items : (last : Option Update) (updates : List Update) → Each UpdateFits updates → AreItems (λ _. update_field) last updates
unfolding update_field
updates_items last [] fits = tt
updates_items last (u ∷ us) fits = (fits.0, updates_items (Some u) us fits.1)

items_updates : (last : Option Update) (updates : List Update) → AreItems (λ _. update_field) last updates → Each UpdateFits updates
unfolding update_field
items_updates last [] fits = tt
items_updates last (u ∷ us) fits = (fits.0, items_updates (Some u) us fits.1)

pub updates_fit : (updates : List Update) → length updates ≤ 2 → Each UpdateFits updates → updates_field.Fits updates
unfolding updates_field at_most_two
updates_fit updates few fits = ((omega arith, grind (arith, nat_tests)), (refl, updates_items None updates fits))

pub record AreUpdates (updates : List Update) : Type 0 where
  pub few : length updates ≤ 2
  pub fit : Each UpdateFits updates

pub updates_are : (updates : List Update) → updates_field.Fits updates → AreUpdates updates
unfolding updates_field at_most_two
updates_are updates fits = record {
  few = let most : nat_lt (length updates) 3 ≡ true = fits.0.1 in grind (arith, nat_tests);
  fit = items_updates None updates fits.1.1;
}

pub rows_of_updates : (updates : List Update) → Each UpdateFits updates → RowsFit updates
rows_of_updates [] fits = tt
rows_of_updates (u ∷ us) fits = (fits.0.1, rows_of_updates us fits.1)

-- ---- how long

pub operation_short : IsShort ℕ operation_field 4
unfolding operation_field
operation_short = judged_short _ (number_short 4)

pub node_short : IsShort ℕ node_field 1
unfolding node_field
node_short = judged_short _ byte_short

one_or_two_short : IsShort ℕ one_or_two 1
unfolding one_or_two
one_or_two_short = judged_short _ byte_short

at_most_two_short : IsShort ℕ at_most_two 1
unfolding at_most_two
at_most_two_short = judged_short _ byte_short

keys_length : (last : Option Key) (keys : List Key) → AreItems (λ _. key_field) last keys → length (flat_map key_field.spell keys) ≤ 264 * length keys
keys_length last [] fits = omega arith
keys_length last (key ∷ keys) fits =
    let one = key_short.most_bytes key fits.0 in
    let rest = keys_length (Some key) keys fits.1 in
    let sum = length-append (key_field.spell key) (flat_map key_field.spell keys) in
    omega arith

keys_short : IsShort (List Key) keys_field 529
unfolding keys_field
keys_short = record {
  most_bytes = λ keys fits.
      let few = (keys_are keys fits).few in
      let count = one_or_two_short.most_bytes (length keys) fits.0 in
      let all = keys_length None keys fits.1.1 in
      let sum = length-append (one_or_two.spell (length keys)) (flat_map key_field.spell keys) in
      omega arith;
}

row_most : (row : Option Inode) → row_field.Fits row → length (row_field.spell row) ≤ 28
unfolding row_field
row_most None fits = omega arith
row_most (Some inode) fits = let h = inode_short.most_bytes inode fits in omega arith

update_short : IsShort Update update_field 292
unfolding update_field
update_short = shaped_short _ _ (both_short key_short (record { most_bytes = row_most }))

updates_length : (last : Option Update) (updates : List Update) → AreItems (λ _. update_field) last updates → length (flat_map update_field.spell updates) ≤ 292 * length updates
updates_length last [] fits = omega arith
updates_length last (u ∷ us) fits =
    let one = update_short.most_bytes u fits.0 in
    let rest = updates_length (Some u) us fits.1 in
    let sum = length-append (update_field.spell u) (flat_map update_field.spell us) in
    omega arith

updates_short : IsShort (List Update) updates_field 585
unfolding updates_field
updates_short = record {
  most_bytes = λ updates fits.
      let few = (updates_are updates fits).few in
      let count = at_most_two_short.most_bytes (length updates) fits.0 in
      let all = updates_length None updates fits.1.1 in
      let sum = length-append (at_most_two.spell (length updates)) (flat_map update_field.spell updates) in
      omega arith;
}

lock_short : IsShort (ℕ × List Key) lock_body 533
unfolding lock_body
lock_short = both_short operation_short keys_short

locked_short : IsShort (ℕ × (ℕ × List Update)) locked_body 590
unfolding locked_body
locked_short = both_short operation_short (both_short node_short updates_short)

count_short : IsShort (ℕ × ℕ) count_body 12
unfolding count_body
count_short = both_short operation_short (number_short 8)

counted_short : IsShort (ℕ × (ℕ × ℕ)) counted_body 13
unfolding counted_body
counted_short = both_short operation_short (both_short node_short (number_short 8))

commit_short : IsShort (ℕ × List Update) commit_body 589
unfolding commit_body
commit_short = both_short operation_short updates_short

pub done_short : IsShort (ℕ × ℕ) done_body 5
unfolding done_body
done_short = both_short operation_short node_short

-- ---- the six kinds

pub lock_fits : (number : ℕ) (keys : List Key) → operation_field.Fits number → keys_field.Fits keys → RecordFits (message.Lock number keys)
unfolding FieldsFit body_spelling lock_body
lock_fits number keys of_number of_keys = let h = lock_short.most_bytes (number, keys) (of_number, of_keys) in record { fields = (of_number, of_keys); short = omega arith; dir = tt }

pub locked_fits : (number node : ℕ) (rows : List Update) → operation_field.Fits number → node_field.Fits node → updates_field.Fits rows → RecordFits (message.Locked number node rows)
unfolding FieldsFit body_spelling locked_body
locked_fits number node rows of_number of_node of_rows =
    let h = locked_short.most_bytes (number, (node, rows)) (of_number, (of_node, of_rows)) in
    record { fields = (of_number, (of_node, of_rows)); short = omega arith; dir = tt }

pub count_fits : (number dir : ℕ) → operation_field.Fits number → dir < 2 ^ 64 → RecordFits (message.Count number dir)
unfolding FieldsFit body_spelling count_body
count_fits number dir of_number below = let h = count_short.most_bytes (number, dir) (of_number, below) in record { fields = (of_number, below); short = omega arith; dir = tt }

pub counted_fits : (number node count : ℕ) → operation_field.Fits number → node_field.Fits node → count < 2 ^ 64 → RecordFits (message.Counted number node count)
unfolding FieldsFit body_spelling counted_body
counted_fits number node count of_number of_node below =
    let h = counted_short.most_bytes (number, (node, count)) (of_number, (of_node, below)) in
    record { fields = (of_number, (of_node, below)); short = omega arith; dir = tt }

pub commit_fits : (number : ℕ) (updates : List Update) → operation_field.Fits number → updates_field.Fits updates → RecordFits (message.Commit number updates)
unfolding FieldsFit body_spelling commit_body
commit_fits number updates of_number of_updates =
    let h = commit_short.most_bytes (number, updates) (of_number, of_updates) in
    record { fields = (of_number, of_updates); short = omega arith; dir = tt }

pub done_fits : (number node : ℕ) → operation_field.Fits number → node_field.Fits node → RecordFits (message.Done number node)
unfolding FieldsFit body_spelling done_body
done_fits number node of_number of_node = let h = done_short.most_bytes (number, node) (of_number, of_node) in record { fields = (of_number, of_node); short = omega arith; dir = tt }

-- ---- and their fields then are

pub lock_fields : (number : ℕ) (keys : List Key) → FieldsFit (message.Lock number keys) → operation_field.Fits number × keys_field.Fits keys
unfolding FieldsFit lock_body
lock_fields number keys fits = fits

pub locked_fields : (number node : ℕ) (rows : List Update) → FieldsFit (message.Locked number node rows) → updates_field.Fits rows
unfolding FieldsFit locked_body
locked_fields number node rows fits = fits.1.1

pub count_fields : (number dir : ℕ) → FieldsFit (message.Count number dir) → operation_field.Fits number
unfolding FieldsFit count_body
count_fields number dir fits = fits.0

pub commit_fields : (number : ℕ) (updates : List Update) → FieldsFit (message.Commit number updates) → operation_field.Fits number × updates_field.Fits updates
unfolding FieldsFit commit_body
commit_fields number updates fits = fits
