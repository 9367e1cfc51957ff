-- The records of a listing are within the ranges of the format where their fields are.
use Rattle.std.proofs.Common.{ℕ, ◌*◌, ◌<◌, ◌≤◌, ◌^◌, List, [], ◌∷◌, ◌++◌, length, Option, Some, None, refl, arith}
use Rattle.std.specs.List.{flat_map}
use Rattle.std.proofs.lemmas.Bool.Decides.{nat_tests}
use Rattle.std.proofs.lemmas.List.{length-append}
use Rattle.fal_base.specs.declared.call.CallId.{CallId}
use Rattle.fal_wire.specs.declared.message.Message.TheVariants as message
use Rattle.fal_wire.specs.Format.{AreItems, number}
use Rattle.fal_wire.specs.Messages.{FieldsFit, body_spelling, opened_body, list_ask_body, list_part_body}
use Rattle.fal_wire.specs.Names.{names_field, next_name}
use Rattle.fal_wire.specs.Numbers.{id_field, node_field, ordinal_field}
use Rattle.fal_story.proofs.Ranges.FieldLengths.{IsShort, both_short, id_short, name_short, number_short}
use Rattle.fal_story.proofs.Ranges.OperationRecords.{node_short}
use Rattle.fal_story.proofs.Ranges.RecordFits.{IsDirRanged, RecordFits}

-- ---- a directory that is opened

opened_short : IsShort (CallId × ℕ) opened_body 21
unfolding opened_body
opened_short = both_short id_short (number_short 8)

pub opened_fits : (id : CallId) (dir : ℕ) → id_field.Fits id → IsDirRanged dir → RecordFits (message.Opened id dir)
unfolding FieldsFit body_spelling opened_body
opened_fits id dir of_id of_dir =
    let h = opened_short.most_bytes (id, dir) (of_id, of_dir.fits) in
    record { fields = (of_id, of_dir.fits); short = omega arith; dir = of_dir.some }

pub opened_dir : (id : CallId) (dir : ℕ) → RecordFits (message.Opened id dir) → IsDirRanged dir
unfolding FieldsFit opened_body
opened_dir id dir fits = record { some = fits.dir; fits = fits.fields.1 }

-- an attempt is numbered from 1
pub opened_attempt : (id : CallId) (dir : ℕ) → RecordFits (message.Opened id dir) → 0 < id.attempt
unfolding FieldsFit opened_body id_field ordinal_field
opened_attempt id dir fits = grind (arith, nat_tests, fits.fields.0.1.1.0.1)

-- ---- what asks for names under it

list_ask_short : IsShort (CallId × (ℕ × ℕ)) list_ask_body 25
unfolding list_ask_body
list_ask_short = both_short id_short (both_short (number_short 4) (number_short 8))

pub list_ask_fits : (id : CallId) (version dir : ℕ) → id_field.Fits id → version ≤ 10000 → IsDirRanged dir → RecordFits (message.ListAsk id version dir)
unfolding FieldsFit body_spelling list_ask_body
list_ask_fits id version dir of_id few of_dir =
    let below : version < 256 ^ 4 = omega arith in
    let h = list_ask_short.most_bytes (id, (version, dir)) (of_id, (below, of_dir.fits)) in
    record { fields = (of_id, (below, of_dir.fits)); short = omega arith; dir = of_dir.some }

pub list_ask_id : (id : CallId) (version dir : ℕ) → FieldsFit (message.ListAsk id version dir) → id_field.Fits id
unfolding FieldsFit list_ask_body
list_ask_id id version dir fits = fits.0

-- ---- a node's part

name_most : (last : Option (List ℕ)) (name : List ℕ) → (next_name last).Fits name → length ((next_name None).spell name) ≤ 256
unfolding next_name
name_most last name fits = name_short.most_bytes name fits.0

names_length : (last : Option (List ℕ)) (names : List (List ℕ)) → AreItems next_name last names → length (flat_map (next_name None).spell names) ≤ 256 * length names
names_length last [] items = omega arith
names_length last (name ∷ names) items =
    let one = name_most last name items.0 in
    let rest = names_length (Some name) names items.1 in
    let both = length-append ((next_name None).spell name) (flat_map (next_name None).spell names) in
    omega arith

names_most : (names : List (List ℕ)) → length names ≤ 20000 → AreItems next_name None names → length (names_field.spell names) ≤ 5120004
unfolding names_field
names_most names few items =
    let count = (number_short 4).most_bytes (length names) (omega arith) in
    let all = names_length None names items in
    let both = length-append ((number 4).spell (length names)) (flat_map (next_name None).spell names) in
    omega arith

names_fit : (names : List (List ℕ)) → length names ≤ 20000 → AreItems next_name None names → names_field.Fits names
unfolding names_field
names_fit names few items = (omega arith, (refl, items))

pub part_fits : (id : CallId) (node : ℕ) (names : List (List ℕ)) → id_field.Fits id → node_field.Fits node → length names ≤ 20000 → AreItems next_name None names → RecordFits (message.ListPart id node names)
unfolding FieldsFit body_spelling list_part_body
part_fits id node names of_id of_node few items =
    let first = id_short.most_bytes id of_id in
    let second = node_short.most_bytes node of_node in
    let third = names_most names few items in
    let last = length-append (node_field.spell node) (names_field.spell names) in
    let all = length-append (id_field.spell id) (node_field.spell node ++ names_field.spell names) in
    record { fields = (of_id, (of_node, names_fit names few items)); short = omega arith; dir = tt }
