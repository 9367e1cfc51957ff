-- How many rows there are after changes, and what stands in them then.
use Rattle.std.proofs.Common.{◌≡◌, ◌≢◌, ⊎_elim, ℕ, suc, ◌+◌, ◌≤◌, ◌==◌, Bool, true, false, not, cond, List, [], ◌∷◌, length, filter, Option, Some, None, refl, sym, ap, ◌∙◌, arith, true≢false}
use Rattle.std.specs.Cmp.{tied_itself}
use Rattle.std.specs.FinMap.Entries.{below_all, is_sorted, length-put}
use Rattle.std.specs.Ordering.{is_lt}
use Rattle.std.specs.Prelude.{is_some}
use Rattle.std.proofs.lemmas.List.{length-map}
use Rattle.fal_base.specs.declared.inode.Inode.{Inode}
use Rattle.fal_base.specs.declared.key.Key.{Key}
use Rattle.fal_base.specs.declared.row.Update.{Update}
use Rattle.fal_base.specs.Tree.{Tree, key_cmp, row_at, same_key, with_row, without_row, names_under, IsInOrder}
use Rattle.fal_base.specs.Updates.{laid, laid_at}
use Rattle.fal_base.proofs.Maps.{same_key_is}
use Rattle.fal_base.proofs.Order.{key_cmp_total, held, in_order_with, in_order_without}
use Rattle.fal_base.proofs.Updates.{laid_cases}
use Rattle.fal_batch.proofs.Truth.{both_first, both_second}
use Rattle.fal_duty.specs.Duties.{owned, rows_of}
use Rattle.fal_exec.specs.declared.outcome.Change.{Change}
use Rattle.fal_exec.specs.declared.outcome.Change.TheVariants.{Keep, Put, Remove}
use Rattle.fal_place.specs.Placement.{Placement, owner}
use Rattle.fal_run.specs.Rows.{rows_after}
use Rattle.fal_wire.specs.Names.{key_field}
use Rattle.fal_wire.specs.Rows.{inode_field, row_field}
use Rattle.fal_story.proofs.Lists.Each.{Each, each_both}
use Rattle.fal_story.proofs.Ranges.CoordBounds.{RowsFit}
use Rattle.fal_story.proofs.Ranges.NoMore.{Differ}
use Rattle.fal_story.proofs.Ranges.OperationRecords.{UpdateFits}
use Rattle.fal_story.proofs.Ranges.RowRanges.{AreRowsRanged}
use Rattle.fal_story.proofs.Steps.Reads.{not_true}

pub fewer_kept : {A : Type 0} (p : A → Bool) (xs : List A) → length (filter p xs) ≤ length xs
fewer_kept p [] = omega arith
fewer_kept p (x ∷ xs) = let h = fewer_kept p xs in elim (p x) as (λ b. length (cond b (x ∷ filter p xs) (filter p xs)) ≤ suc (length xs)) [ true ↦ omega arith | false ↦ omega arith ]

-- ---- one row

pub with_most : (rows : Tree) (key : Key) (inode : Inode) → IsInOrder rows → length (with_row rows key inode) ≤ length rows + 1
with_most rows key inode sorted =
    let is = length-put key_cmp key_cmp_total key inode rows (held _ sorted) in
    most (is_some (row_at rows key)) (length rows) (length (with_row rows key inode)) is
  where
    most : (b : Bool) (n m : ℕ) → m ≡ cond b n (n + 1) → m ≤ n + 1
    most true n m is = omega arith
    most false n m is = omega arith

pub without_most : (rows : Tree) (key : Key) → length (without_row rows key) ≤ length rows
without_most rows key = fewer_kept (λ (e : Key × Inode). not (same_key key e.0)) rows

pub after_sorted : (rows : Tree) (key : Key) (change : Change) → IsInOrder rows → IsInOrder (rows_after rows key change)
after_sorted rows key Keep sorted = sorted
after_sorted rows key (Put inode) sorted = in_order_with rows key inode sorted
after_sorted rows key Remove sorted = in_order_without rows key sorted

-- ---- updates

at_sorted : (rows : Tree) (key : Key) (row : Option Inode) → IsInOrder rows → IsInOrder (laid_at rows key row)
at_sorted rows key None sorted = in_order_without rows key sorted
at_sorted rows key (Some inode) sorted = in_order_with rows key inode sorted

pub laid_sorted : (updates : List Update) (rows : Tree) → IsInOrder rows → IsInOrder (laid updates rows)
laid_sorted [] rows sorted = sorted
laid_sorted (u ∷ us) rows sorted = laid_sorted us (laid_at rows u.key u.row) (at_sorted rows u.key u.row sorted)

pub row_fits : (row : Option Inode) (inode : Inode) → row ≡ Some inode → row_field.Fits row → inode_field.Fits inode
unfolding row_field
row_fits None inode is fits = absurd (cc)
row_fits (Some other) inode is fits = subst_inode other inode is fits
  where
    subst_inode : (a b : Inode) → Some a ≡ Some b → inode_field.Fits a → inode_field.Fits b
    subst_inode a b e h = let same : a ≡ b = cc in rw (sym same) h

pub laid_ranged : (updates : List Update) (rows : Tree) → RowsFit updates → AreRowsRanged rows → AreRowsRanged (laid updates rows)
laid_ranged [] rows fits ranged = ranged
laid_ranged (u ∷ us) rows fits ranged =
    laid_ranged us (laid_at rows u.key u.row) fits.1
    (λ key inode is. ⊎_elim (λ x. row_fits u.row inode (sym x.1 ∙ is) fits.0) (λ x. ranged key inode (sym x.1 ∙ is)) (laid_cases rows u.key key u.row))

pub owned_fit : (table : Placement) (n : ℕ) (updates : List Update) → RowsFit updates → RowsFit (owned table n updates)
owned_fit table n [] fits = tt
owned_fit table n (u ∷ us) fits =
    elim (owner table u.key == n) as (λ b. RowsFit (cond b (u ∷ owned table n us) (owned table n us))) [ true ↦ (fits.0, owned_fit table n us fits.1) | false ↦ owned_fit table n us fits.1 ]

-- ---- rows that are told

told_fits : (row : Option Inode) → ((inode : Inode) → row ≡ Some inode → inode_field.Fits inode) → row_field.Fits row
unfolding row_field
told_fits None fits = tt
told_fits (Some inode) fits = fits inode refl

pub rows_told : (table : Placement) (rows : Tree) (n : ℕ) (keys : List Key) → AreRowsRanged rows → Each key_field.Fits keys → Each UpdateFits (rows_of table rows n keys)
rows_told table rows n [] ranged fits = tt
rows_told table rows n (key ∷ keys) ranged fits =
    let rest = rows_told table rows n keys ranged fits.1 in
    elim (owner table key == n) as (λ b. Each UpdateFits (cond b (record { key = key; row = row_at rows key } ∷ rows_of table rows n keys) (rows_of table rows n keys))) [
      | true ↦ ((fits.0, told_fits (row_at rows key) (ranged key)), rest)
      | false ↦ rest
    ]

pub few_told : (table : Placement) (rows : Tree) (n : ℕ) (keys : List Key) → length (rows_of table rows n keys) ≤ length keys
few_told table rows n [] = omega arith
few_told table rows n (key ∷ keys) =
    let h = few_told table rows n keys in
    elim (owner table key == n) as (λ b. length (cond b (record { key = key; row = row_at rows key } ∷ rows_of table rows n keys) (rows_of table rows n keys)) ≤ suc (length keys)) [ true ↦ omega arith | false ↦ omega arith ]

-- ---- rows in order

below_apart : (key : Key) (rows : Tree) → below_all key_cmp key rows ≡ true → Each (λ (e : Key × Inode). e.0 ≢ key) rows
below_apart key [] below = tt
below_apart key (e ∷ es) below = (
  λ same.
      let tied : is_lt (key_cmp key e.0) ≡ false = ap (λ k. is_lt (key_cmp key k)) same ∙ ap is_lt (tied_itself key_cmp_total key) in
      true≢false (sym (both_first (is_lt (key_cmp key e.0)) (below_all key_cmp key es) below) ∙ tied),
  below_apart key es (both_second (is_lt (key_cmp key e.0)) (below_all key_cmp key es) below),
)

-- rows in order stand under different keys
pub keys_differ : (rows : Tree) → IsInOrder rows → Differ (λ (e : Key × Inode). e.0) rows
keys_differ [] sorted = tt
keys_differ (e ∷ es) sorted =
    let below = both_first (below_all key_cmp e.0 es) (is_sorted key_cmp es) sorted in
    (below_apart e.0 es below, keys_differ es (both_second (below_all key_cmp e.0 es) (is_sorted key_cmp es) sorted))

past_head : (e f : Key × Inode) (es : Tree) → f.0 ≢ e.0 → row_at es f.0 ≡ Some f.1 → row_at (e ∷ es) f.0 ≡ Some f.1
past_head e f es apart at = ap (λ b. cond b (Some e.1) (row_at es f.0)) (not_true (same_key f.0 e.0) (λ same. apart ((same_key_is f.0 e.0).0 same))) ∙ at

-- each is the one under its key
pub entry_at : (rows : Tree) → IsInOrder rows → Each (λ (e : Key × Inode). row_at rows e.0 ≡ Some e.1) rows
entry_at [] sorted = tt
entry_at (e ∷ es) sorted =
    let differ = keys_differ (e ∷ es) sorted in
    let rest = entry_at es (both_second (below_all key_cmp e.0 es) (is_sorted key_cmp es) sorted) in (
      ap (λ b. cond b (Some e.1) (row_at es e.0)) ((same_key_is e.0 e.0).1 refl),
      each_both _ _ _ es (λ f apart at. past_head e f es apart at) differ.0 rest,
    )

-- ---- names under a directory

pub few_names : (rows : Tree) (dir : ℕ) → length (names_under rows dir) ≤ length rows
few_names rows dir =
    let told = length-map (filter (λ (e : Key × Inode). e.0.parent == dir) rows) (λ (e : Key × Inode). e.0.name) in
    let kept = fewer_kept (λ (e : Key × Inode). e.0.parent == dir) rows in
    omega arith
