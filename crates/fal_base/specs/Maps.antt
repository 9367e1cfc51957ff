-- A map from keys: its entries in the order of their keys, and for how many more there is room.
use Rattle.std.specs.Prelude.{◌≡◌, ℕ, suc, ◌<◌, ◌≤◌, true, false, not, List, [], ◌∷◌, length, slice_index_or, Option, Result, Ok, Err, IsTrue}
use Rattle.std.specs.FinMap.Entries.{by_order, find, put, is_sorted, where_key}
use Rattle.fal_base.specs.declared.key.Key.{Key}
use Rattle.fal_base.specs.Tree.{key_cmp, same_key}

pub record KeyEntries (X : Type 0) : Type 0 where
  pub entries : List (Key × X)
  pub spare : ℕ

-- the keys rise
abbrev pub AreInOrder : {X : Type 0} → List (Key × X) → Type 0
AreInOrder entries = IsTrue (is_sorted key_cmp entries)

-- what stands under a key
abbrev pub value_at : {X : Type 0} → List (Key × X) → Key → Option X
value_at entries key = find key_cmp key entries

-- the entries with this value under the key
abbrev pub with_value : {X : Type 0} → List (Key × X) → Key → X → List (Key × X)
with_value entries key value = put key_cmp key value entries

-- the entries with nothing under the key
abbrev pub without_key : {X : Type 0} → List (Key × X) → Key → List (Key × X)
without_key entries key = where_key key_cmp (λ other. not (same_key key other)) entries

-- the place of the first entry whose key is not below this one
abbrev pub place_of : {X : Type 0} → Key → List (Key × X) → ℕ
place_of key [] = 0
place_of key (e ∷ es) = by_order (key_cmp key e.0) 0 0 (suc (place_of key es))

-- a place holds the key, or is where it would go
abbrev pub IsPlace : {X : Type 0} → Key → List (Key × X) → Result ℕ ℕ → Type 0
IsPlace {X} key entries (Ok at) = (at ≡ place_of key entries) × (at < length entries) × ((other : Key × X) → same_key key (slice_index_or entries at other).0 ≡ true)
IsPlace {X} key entries (Err at) = (at ≡ place_of key entries) × (at ≤ length entries) × ((other : Key × X) → at < length entries → same_key key (slice_index_or entries at other).0 ≡ false)
