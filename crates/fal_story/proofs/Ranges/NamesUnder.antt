-- The names of rows under a directory rise, and can be spelled where the keys of the rows have names.
use Rattle.std.proofs.Common.{◌≡◌, ◌⊎◌, ⊎_elim, ℕ, ◌<◌, ◌==◌, Bool, true, false, cond, List, [], ◌∷◌, map, filter, Option, Some, None, refl, sym, ap, ◌∙◌, arith}
use Rattle.std.specs.Cmp.Lexicographic.{slice_cmp}
use Rattle.std.specs.FinMap.Entries.{below_all, is_sorted}
use Rattle.std.specs.Ordering.{is_lt, nat_cmp, ordering_then}
use Rattle.std.specs.Prelude.{is_some, IsSome}
use Rattle.std.specs.declared.cmp.Ordering.TheVariants.{Less, Equal, Greater}
use Rattle.std.proofs.lemmas.Bool.Decides.{nat_tests}
use Rattle.fal_base.specs.declared.inode.Inode.{Inode}
use Rattle.fal_base.specs.declared.key.Key.{Key}
use Rattle.fal_base.specs.Tree.{Tree, key_cmp, names_under, row_at, IsInOrder}
use Rattle.fal_batch.proofs.Truth.{both_first, both_second}
use Rattle.fal_wire.specs.Format.{AreItems}
use Rattle.fal_wire.specs.Names.{comes_after, name_field, next_name}
use Rattle.fal_story.proofs.Lists.Each.{Each, each_weaker}
use Rattle.fal_story.proofs.Lists.Members.{same_number}
use Rattle.fal_story.proofs.Ranges.Fitting.{short_name}
use Rattle.fal_story.proofs.Ranges.RowCounts.{entry_at}
use Rattle.fal_story.proofs.Ranges.TreeNames.{IsNamedKey}

abbrev is_under : ℕ → Key × Inode → Bool
is_under dir e = e.0.parent == dir

abbrev HasLater : List ℕ → List (List ℕ) → Type 0
HasLater name names = Each (λ (other : List ℕ). is_lt (slice_cmp nat_cmp name other) ≡ true) names

-- of keys under one directory the later one has the later name
name_below : (a b : Key) → a.parent ≡ b.parent → is_lt (key_cmp a b) ≡ true → is_lt (slice_cmp nat_cmp a.name b.name) ≡ true
unfolding key_cmp
name_below a b same h =
    elim (nat_cmp a.parent b.parent) as (λ r. nat_cmp a.parent b.parent ≡ r → is_lt (ordering_then r (slice_cmp nat_cmp a.name b.name)) ≡ true → is_lt (slice_cmp nat_cmp a.name b.name) ≡ true) [
      | Less ↦ λ is _. let wrong : a.parent < b.parent = grind (arith, nat_tests) in absurd (omega arith)
      | Equal ↦ λ _ less. less
      | Greater ↦ λ _ less. absurd (cc)
    ] refl h

names_below : (dir : ℕ) (e : Key × Inode) (rows : Tree) → e.0.parent ≡ dir → below_all key_cmp e.0 rows ≡ true → HasLater e.0.name (names_under rows dir)
names_below dir e [] at below = tt
names_below dir e (o ∷ rows) at below =
    let rest = names_below dir e rows at (both_second (is_lt (key_cmp e.0 o.0)) (below_all key_cmp e.0 rows) below) in
    elim (is_under dir o) as (λ b. is_under dir o ≡ b → HasLater e.0.name (map (λ (x : Key × Inode). x.0.name) (cond b (o ∷ filter (is_under dir) rows) (filter (is_under dir) rows)))) [
      | true ↦ λ also. (name_below e.0 o.0 (at ∙ sym (same_number o.0.parent dir also)) (both_first (is_lt (key_cmp e.0 o.0)) (below_all key_cmp e.0 rows) below), rest)
      | false ↦ λ _. rest
    ] refl

-- each name comes after the one before
abbrev IsPast : Option (List ℕ) → List (List ℕ) → Type 0
IsPast None names = Unit {0}
IsPast (Some before) names = HasLater before names

past_first : (last : Option (List ℕ)) (name : List ℕ) (names : List (List ℕ)) → IsPast last (name ∷ names) → comes_after last name ≡ true
unfolding comes_after
past_first None name names past = refl
past_first (Some before) name names past = past.0

under_items : (dir : ℕ) (last : Option (List ℕ)) (rows : Tree) → IsInOrder rows → Each (λ (e : Key × Inode). e.0.parent ≡ dir → name_field.Fits e.0.name) rows → IsPast last (names_under rows dir) → AreItems next_name last (names_under rows dir)
unfolding next_name
under_items dir last [] sorted named past = tt
under_items dir last (e ∷ rows) sorted named past =
    let later = both_second (below_all key_cmp e.0 rows) (is_sorted key_cmp rows) sorted in
    let names = λ (b : Bool). map (λ (x : Key × Inode). x.0.name) (cond b (e ∷ filter (is_under dir) rows) (filter (is_under dir) rows)) in
    elim (is_under dir e) as (λ b. is_under dir e ≡ b → IsPast last (names b) → AreItems next_name last (names b)) [
      | true ↦ λ is p.
          let at = same_number e.0.parent dir is in
          let below = names_below dir e rows at (both_first (below_all key_cmp e.0 rows) (is_sorted key_cmp rows) sorted) in
          ((named.0 at, past_first last e.0.name (names_under rows dir) p), under_items dir (Some e.0.name) rows later named.1 below)
      | false ↦ λ _ p. under_items dir last rows later named.1 p
    ] refl past

-- a key under a directory has a name
name_of_key : (dir : ℕ) (key : Key) → 0 < dir → IsNamedKey key → key.parent ≡ dir → name_field.Fits key.name
unfolding name_field
name_of_key dir key some named at =
    ⊎_elim {C = name_field.Fits key.name}
    (λ root. let wrong : key.parent ≡ 0 = ap (λ (k : Key). k.parent) root in absurd (omega arith))
    (λ is. (short_name key.name is, is))
    named

pub names_under_items : (rows : Tree) (dir : ℕ) → 0 < dir → IsInOrder rows → ((key : Key) → IsSome (row_at rows key) → IsNamedKey key) → AreItems next_name None (names_under rows dir)
names_under_items rows dir some sorted named =
    under_items dir None rows sorted
    (each_weaker _ (λ (e : Key × Inode). e.0.parent ≡ dir → name_field.Fits e.0.name) rows (λ e there at. name_of_key dir e.0 some (named e.0 (ap is_some there)) at) (entry_at rows sorted)) tt
