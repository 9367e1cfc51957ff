-- Rows of a name: those that a node gives away, the others, which stay, and the shares that nodes get by a new table.
use Rattle.std.proofs.Common.{◌≡◌, ◌≢◌, ℕ, ◌+◌, ◌<◌, ◌≤◌, ◌^◌, ◌==◌, nat_lt, Bool, true, false, not, cond, List, [], ◌∷◌, length, map, filter, Some, None, refl, sym, ap, ◌∙◌, subst, arith}
use Rattle.std.specs.Cmp.Lexicographic.{pointwise, same_text}
use Rattle.std.specs.FinMap.Entries.{below_all, find-where_key, is_sorted, is_sorted-where_key}
use Rattle.std.specs.Ordering.{is_lt, nat_cmp, ordering_then}
use Rattle.std.specs.declared.cmp.Ordering.TheVariants.{Less, Equal, Greater}
use Rattle.std.specs.Prelude.{is_some, IsSome}
use Rattle.std.specs.Cmp.{tied_itself}
use Rattle.std.proofs.lemmas.Bool.Decides.{nat_tests}
use Rattle.std.proofs.lemmas.Cmp.{nat_list_cmp_total}
use Rattle.std.proofs.lemmas.List.{length-map}
use Rattle.std.specs.Cmp.Lexicographic.{slice_cmp}
use Rattle.fal_base.specs.declared.inode.Inode.{Inode}
use Rattle.fal_base.specs.declared.key.Key.{Key}
use Rattle.fal_base.specs.declared.row.NamedRow.{NamedRow}
use Rattle.fal_base.specs.Tree.{Tree, key_cmp, key_of, row_at, IsInOrder}
use Rattle.fal_base.proofs.Order.{held, told, same_of_tied}
use Rattle.fal_batch.proofs.Truth.{both_first, both_second}
use Rattle.fal_inode.specs.Named.{rows_named, without_named}
use Rattle.fal_move.specs.Moving.{by_parent, share_of, with_row}
use Rattle.fal_place.specs.Placement.{Placement, owner}
use Rattle.fal_wire.specs.Rows.{inode_field}
use Rattle.fal_story.proofs.Lists.Each.{Each, Apart, each_weaker}
use Rattle.fal_story.proofs.Lists.Members.{each_filter, each_map}
use Rattle.fal_story.proofs.Ranges.CoordBounds.{AreGiven, NamedRowFits}
use Rattle.fal_story.proofs.Ranges.PlaceRecords.{DoAscend}
use Rattle.fal_story.proofs.Ranges.RowCounts.{entry_at, fewer_kept}
use Rattle.fal_story.proofs.Ranges.RowRanges.{AreRowsRanged}

-- ---- those that are given away

abbrev has_name : List ℕ → Key × Inode → Bool
has_name name e = pointwise ◌==◌ e.0.name name

abbrev as_named : Key × Inode → NamedRow
as_named e = record { parent = e.0.parent; inode = e.1 }

pub named_most : (rows : Tree) (name : List ℕ) → length (rows_named rows name) ≤ length rows
named_most rows name =
    let told = length-map (filter (has_name name) rows) as_named in
    let kept = fewer_kept (has_name name) rows in
    omega arith

pub named_fit : (rows : Tree) (name : List ℕ) → IsInOrder rows → AreRowsRanged rows → ((key : Key) → IsSome (row_at rows key) → key.parent < 256 ^ 8) → Each NamedRowFits (rows_named rows name)
named_fit rows name sorted ranged parents =
    each_map NamedRowFits as_named (filter (has_name name) rows)
    (each_filter (λ e. NamedRowFits (as_named e)) (has_name name) rows
    (each_weaker _ _ rows (λ e at _. (parents e.0 (ap is_some at), ranged e.0 e.1 at)) (entry_at rows sorted)))

-- of keys with one name the later one has the greater parent
parent_below : (a b : Key) → a.name ≡ b.name → is_lt (key_cmp a b) ≡ true → a.parent < b.parent
unfolding key_cmp
parent_below a b same h =
    let tied : slice_cmp nat_cmp a.name b.name ≡ Equal = subst (λ n. slice_cmp nat_cmp a.name n ≡ Equal) same (tied_itself nat_list_cmp_total a.name) in
    elim (nat_cmp a.parent b.parent) as (λ r. nat_cmp a.parent b.parent ≡ r → is_lt (ordering_then r (slice_cmp nat_cmp a.name b.name)) ≡ true → a.parent < b.parent) [
      | Less ↦ λ is _. grind (arith, nat_tests)
      | Equal ↦ λ _ less. let wrong : false ≡ true = sym (ap is_lt tied) ∙ less in absurd (cc)
      | Greater ↦ λ _ less. absurd (cc)
    ] refl h

named_below : (name : List ℕ) (e : Key × Inode) (rows : Tree) → has_name name e ≡ true → below_all key_cmp e.0 rows ≡ true → Each (λ (other : NamedRow). e.0.parent < other.parent) (rows_named rows name)
named_below name e [] has below = tt
named_below name e (o ∷ rows) has below =
    let rest = named_below name e rows has (both_second (is_lt (key_cmp e.0 o.0)) (below_all key_cmp e.0 rows) below) in
    elim (has_name name o) as (λ b. has_name name o ≡ b → Each (λ (other : NamedRow). e.0.parent < other.parent) (map as_named (cond b (o ∷ filter (has_name name) rows) (filter (has_name name) rows)))) [
      | true ↦ λ also. (parent_below e.0 o.0 (same_text e.0.name name (sym has) ∙ sym (same_text o.0.name name (sym also))) (both_first (is_lt (key_cmp e.0 o.0)) (below_all key_cmp e.0 rows) below), rest)
      | false ↦ λ _. rest
    ] refl

pub named_ascend : (rows : Tree) (name : List ℕ) → IsInOrder rows → DoAscend (rows_named rows name)
named_ascend [] name sorted = tt
named_ascend (e ∷ rows) name sorted =
    let rest = named_ascend rows name (both_second (below_all key_cmp e.0 rows) (is_sorted key_cmp rows) sorted) in
    elim (has_name name e) as (λ b. has_name name e ≡ b → DoAscend (map as_named (cond b (e ∷ filter (has_name name) rows) (filter (has_name name) rows)))) [
      | true ↦ λ has. (named_below name e rows has (both_first (below_all key_cmp e.0 rows) (is_sorted key_cmp rows) sorted), rest)
      | false ↦ λ _. rest
    ] refl

-- ---- the others

pub left_ranged : (rows : Tree) (name : List ℕ) → AreRowsRanged rows → AreRowsRanged (without_named rows name)
left_ranged rows name ranged key inode is =
    let p = λ (k : Key). not (pointwise ◌==◌ k.name name) in
    elim (p key) as (λ b. cond b (row_at rows key) None ≡ Some inode → inode_field.Fits inode) [
      | true ↦ λ e. ranged key inode e
      | false ↦ λ e. absurd (cc)
    ] (sym (find-where_key key_cmp p key (λ x tied. ap p (sym (same_of_tied key x tied))) rows) ∙ is)

pub left_sorted : (rows : Tree) (name : List ℕ) → IsInOrder rows → IsInOrder (without_named rows name)
left_sorted rows name sorted = told _ (is_sorted-where_key key_cmp (λ (k : Key). not (pointwise ◌==◌ k.name name)) rows (held _ sorted))

-- ---- shares

-- what holds of a row and of the others holds of all
each_with_row : (P : NamedRow → Type 0) (row : NamedRow) (rows : List NamedRow) → P row → Each P rows → Each P (with_row row rows)
each_with_row P row [] is each = (is, tt)
each_with_row P row (other ∷ rows) is each =
    elim (nat_lt other.parent row.parent) as (λ b. Each P (cond b (other ∷ with_row row rows) (row ∷ other ∷ rows))) [ true ↦ (each.0, each_with_row P row rows is each.1) | false ↦ (is, each) ]

each_by_parent : (P : NamedRow → Type 0) (rows : List NamedRow) → Each P rows → Each P (by_parent rows)
each_by_parent P [] each = tt
each_by_parent P (row ∷ rows) each = each_with_row P row (by_parent rows) each.0 (each_by_parent P rows each.1)

with_row_most : (row : NamedRow) (rows : List NamedRow) → length (with_row row rows) ≡ length rows + 1
with_row_most row [] = refl
with_row_most row (other ∷ rows) =
    let rest = with_row_most row rows in
    elim (nat_lt other.parent row.parent) as (λ b. length (cond b (other ∷ with_row row rows) (row ∷ other ∷ rows)) ≡ length (other ∷ rows) + 1) [ true ↦ omega arith | false ↦ omega arith ]

by_parent_most : (rows : List NamedRow) → length (by_parent rows) ≡ length rows
by_parent_most [] = refl
by_parent_most (row ∷ rows) =
    let rest = by_parent_most rows in
    let more = with_row_most row (by_parent rows) in
    omega arith

with_row_ascends : (row : NamedRow) (rows : List NamedRow) → Each (λ (other : NamedRow). other.parent ≢ row.parent) rows → DoAscend rows → DoAscend (with_row row rows)
with_row_ascends row [] apart ascend = (tt, tt)
with_row_ascends row (other ∷ rows) apart ascend =
    elim (nat_lt other.parent row.parent) as (λ b. nat_lt other.parent row.parent ≡ b → DoAscend (cond b (other ∷ with_row row rows) (row ∷ other ∷ rows))) [
      | true ↦ λ is. (each_with_row (λ (r : NamedRow). other.parent < r.parent) row rows (grind (arith, nat_tests)) ascend.0, with_row_ascends row rows apart.1 ascend.1)
      | false ↦ λ not_less.
          let ne = apart.0 in
          let first : row.parent < other.parent = above row.parent other.parent not_less ne in
          ((first, each_weaker _ (λ (r : NamedRow). row.parent < r.parent) rows (λ r less. omega arith) ascend.0), ascend)
    ] refl
  where
    above : (a b : ℕ) → nat_lt b a ≡ false → b ≢ a → a < b
    above a b off ne = grind (arith, nat_tests)

by_parent_ascends : (rows : List NamedRow) → Apart (λ (row : NamedRow). row.parent) rows → DoAscend (by_parent rows)
by_parent_ascends [] apart = tt
by_parent_ascends (row ∷ rows) apart =
    with_row_ascends row (by_parent rows) (each_by_parent (λ (other : NamedRow). other.parent ≢ row.parent) rows apart.0) (by_parent_ascends rows apart.1)

ascend_filter : (p : NamedRow → Bool) (rows : List NamedRow) → DoAscend rows → DoAscend (filter p rows)
ascend_filter p [] ascend = tt
ascend_filter p (row ∷ rows) ascend =
    let rest = ascend_filter p rows ascend.1 in
    elim (p row) as (λ b. DoAscend (cond b (row ∷ filter p rows) (filter p rows))) [
      | true ↦ (each_filter (λ (other : NamedRow). row.parent < other.parent) p rows (each_weaker _ _ rows (λ other less _. less) ascend.0), rest)
      | false ↦ rest
    ]

-- what a node gets can be spelled
pub record IsShare (rows : List NamedRow) (count : ℕ) : Type 0 where
  pub few : length rows ≤ count
  pub fit : Each NamedRowFits rows
  pub ascend : DoAscend rows

pub share_is : (table : Placement) (name : List ℕ) (node : ℕ) (rows : List NamedRow) → AreGiven rows → IsShare (share_of table name node (by_parent rows)) (length rows)
share_is table name node rows given =
    let test = λ (row : NamedRow). owner table (key_of row.parent name) == node in
    let all = by_parent rows in
    let kept = fewer_kept test all in
    let same = by_parent_most rows in
    record {
      few = omega arith;
      fit = each_filter NamedRowFits test all (each_weaker NamedRowFits _ all (λ row fits _. fits) (each_by_parent NamedRowFits rows given.fit));
      ascend = ascend_filter test all (by_parent_ascends rows given.apart);
    }
