-- A node's rows of a name leave it: laid again on the others, as they are told, they are what stood there.
use Rattle.std.proofs.Common.{◌≡◌, ◌≢◌, ⊎_elim, true, false, not, ◌||◌, cond, List, [], ◌∷◌, Some, None, refl, sym, ap, ◌∙◌, ℕ, Bool, map, filter}
use Rattle.std.specs.FinMap.Entries.{below_all, find-where_key, is_sorted}
use Rattle.std.specs.declared.cmp.Ordering.{Ordering}
use Rattle.std.specs.declared.cmp.Ordering.TheVariants.{Less, Equal, Greater}
use Rattle.std.specs.Ordering.{is_lt, is_eq}
use Rattle.fal_base.specs.declared.inode.Inode.{Inode}
use Rattle.fal_base.specs.declared.key.Key.{Key}
use Rattle.fal_base.specs.declared.row.NamedRow.{NamedRow}
use Rattle.fal_base.specs.Tree.{Tree, IsInOrder, key_cmp, key_of, row_at, same_key, with_row}
use Rattle.fal_base.specs.Updates.{keys_of, laid, putting}
use Rattle.fal_base.proofs.Maps.{same_key_is}
use Rattle.fal_base.proofs.Order.{same_of_tied}
use Rattle.fal_base.proofs.Updates.{laid_cases, laid_off}
use Rattle.fal_batch.proofs.KeyLists.{same_turned}
use Rattle.fal_batch.proofs.Truth.{both_first, both_second}
use Rattle.fal_dentry.specs.Walk.{is_among}
use Rattle.fal_inode.specs.Named.{puts, rows_named, without_named}
use Rattle.fal_place.specs.Placement.{same_name}
use Rattle.fal_place.proofs.Tables.{name_cases}
use Rattle.fal_story.proofs.Families.GroundPlaces.{IsTakenOut, name_off, not_among}

less_off : (r : Ordering) → is_lt r ≡ true → is_eq r ≡ false
less_off Less below = refl
less_off Equal below = absurd (cc)
less_off Greater below = refl

-- a key below those of all rows has no row
below_none : (key : Key) (rows : Tree) → below_all key_cmp key rows ≡ true → row_at rows key ≡ None
below_none key [] below = refl
below_none key (e ∷ rows) below =
    ap (λ t. cond t (Some e.1) (row_at rows key)) (less_off (key_cmp key e.0) (both_first (is_lt (key_cmp key e.0)) (below_all key_cmp key rows) below))
    ∙ below_none key rows (both_second (is_lt (key_cmp key e.0)) (below_all key_cmp key rows) below)

apart_keys : (a b : Key) → a ≢ b → same_key a b ≡ false
apart_keys a b apart = elim (same_key a b) as (λ t. same_key a b ≡ t → t ≡ false) [ true ↦ λ same. absurd (apart ((same_key_is a b).0 same)) | false ↦ λ _. refl ] refl

-- the key of a row that is told is that under which it stood
named_key : (name : List ℕ) (key : Key) → key.name ≡ name → key_of key.parent name ≡ key
named_key name key same = λ i. record { parent = key.parent; name = sym same i }

-- the rows of the name among one row more
module _ (name : List ℕ) (e : Key × Inode) (rows : Tree) where
  abbrev more : Bool → List NamedRow
  more named = map (λ (r : Key × Inode). record { parent = r.0.parent; inode = r.1 }) (cond named (e ∷ filter (λ (r : Key × Inode). same_name r.0.name name) rows) (filter (λ (r : Key × Inode). same_name r.0.name name) rows))

  named_first : same_name e.0.name name ≡ true → puts name (rows_named (e ∷ rows) name) ≡ putting (key_of e.0.parent name) e.1 ∷ puts name (rows_named rows name)
  named_first named = ap (λ b. puts name (more b)) named

  other_first : same_name e.0.name name ≡ false → puts name (rows_named (e ∷ rows) name) ≡ puts name (rows_named rows name)
  other_first other = ap (λ b. puts name (more b)) other

module _ (name : List ℕ) (key : Key) where
  -- no row is told of a key that has none
  puts_off : (rows : Tree) → row_at rows key ≡ None → is_among key (keys_of (puts name (rows_named rows name))) ≡ false
  puts_off [] none = refl
  puts_off (e ∷ rows) none =
      elim (same_key key e.0) as (λ t. same_key key e.0 ≡ t → cond t (Some e.1) (row_at rows key) ≡ None → is_among key (keys_of (puts name (rows_named (e ∷ rows) name))) ≡ false) [
        | true ↦ λ _ z. absurd (cc)
        | false ↦ λ apart z. ⊎_elim {C = is_among key (keys_of (puts name (rows_named (e ∷ rows) name))) ≡ false}
            (λ named. ap (λ us. is_among key (keys_of us)) (named_first name e rows named.0)
            ∙ ap (λ b. b || is_among key (keys_of (puts name (rows_named rows name)))) (ap (λ k. same_key k key) (named_key name e.0 named.1) ∙ same_turned e.0 key ∙ apart)
            ∙ puts_off rows z)
            (λ other. ap (λ us. is_among key (keys_of us)) (other_first name e rows other) ∙ puts_off rows z)
            (name_cases e.0.name name)
      ] refl none

  -- on a tree with no row under the key, the rows that are told lay what stood there
  laid_named : (rows base : Tree) → is_sorted key_cmp rows ≡ true → key.name ≡ name → row_at base key ≡ None → row_at (laid (puts name (rows_named rows name)) base) key ≡ row_at rows key
  laid_named [] base sorted same none = none
  laid_named (e ∷ rows) base sorted same none =
      let below = both_first (below_all key_cmp e.0 rows) (is_sorted key_cmp rows) sorted in
      let others = both_second (below_all key_cmp e.0 rows) (is_sorted key_cmp rows) sorted in
      let rest = puts name (rows_named rows name) in
      ⊎_elim {C = row_at (laid (puts name (rows_named (e ∷ rows) name)) base) key ≡ row_at (e ∷ rows) key}
      (λ named.
      let stood = named_key name e.0 named.1 in
      ap (λ us. row_at (laid us base) key) (named_first name e rows named.0)
      ∙ ⊎_elim {C = row_at (laid rest (with_row base (key_of e.0.parent name) e.1)) key ≡ row_at (e ∷ rows) key}
      (λ here.
      let own = here.0 ∙ stood in
      laid_off rest (with_row base (key_of e.0.parent name) e.1) key (puts_off rows (ap (row_at rows) own ∙ below_none e.0 rows below)) ∙ here.1
      ∙ sym (ap (λ t. cond t (Some e.1) (row_at rows key)) ((same_key_is key e.0).1 own)))
      (λ there.
      laid_named rows (with_row base (key_of e.0.parent name) e.1) others same (there.1 ∙ none)
      ∙ sym (ap (λ t. cond t (Some e.1) (row_at rows key)) (apart_keys key e.0 (λ own. there.0 (own ∙ sym stood)))))
      (laid_cases base (key_of e.0.parent name) key (Some e.1)))
      (λ other.
      ap (λ us. row_at (laid us base) key) (other_first name e rows other)
      ∙ laid_named rows base others same none
      ∙ sym (ap (λ t. cond t (Some e.1) (row_at rows key)) (apart_keys key e.0 (λ own. name_off e.0 name other (sym (ap (λ (k : Key). k.name) own) ∙ same)))))
      (name_cases e.0.name name)

-- what is told is under the name
told_named : (name : List ℕ) (rows : List NamedRow) (key : Key) → is_among key (keys_of (puts name rows)) ≡ true → key.name ≡ name
told_named name [] key among = absurd (cc)
told_named name (r ∷ rows) key among =
    elim (same_key (key_of r.parent name) key) as (λ b. same_key (key_of r.parent name) key ≡ b → (b || is_among key (keys_of (puts name rows))) ≡ true → key.name ≡ name) [
      | true ↦ λ same _. sym (ap (λ (k : Key). k.name) ((same_key_is (key_of r.parent name) key).0 same))
      | false ↦ λ _ later. told_named name rows key later
    ] refl among

-- what stands under a key once the rows of the name have left
left_is : (name : List ℕ) (rows : Tree) (key : Key) → row_at (without_named rows name) key ≡ cond (not (same_name key.name name)) (row_at rows key) None
left_is name rows key = find-where_key key_cmp (λ k. not (same_name k.name name)) key (λ x tied. ap (λ (k : Key). not (same_name k.name name)) (sym (same_of_tied key x tied))) rows

pub taken_out : (name : List ℕ) (rows : Tree) → IsInOrder rows → IsTakenOut name rows (without_named rows name) (puts name (rows_named rows name))
taken_out name rows sorted = record {
  same = λ key. ⊎_elim
      (λ own. laid_named name key rows (without_named rows name) sorted own.1 (left_none key own.0))
      (λ off. laid_off (puts name (rows_named rows name)) (without_named rows name) key (not_among key (puts name (rows_named rows name)) name (told_named name (rows_named rows name)) (name_off key name off))
      ∙ left_is name rows key ∙ ap (λ b. cond (not b) (row_at rows key) None) off)
      (name_cases key.name name);
  gone = λ key own. ⊎_elim (λ x. left_none key x.0) (λ off. absurd (name_off key name off own)) (name_cases key.name name);
  named = told_named name (rows_named rows name);
}
  where
    left_none : (key : Key) → same_name key.name name ≡ true → row_at (without_named rows name) key ≡ None
    left_none key own = left_is name rows key ∙ ap (λ b. cond (not b) (row_at rows key) None) own
