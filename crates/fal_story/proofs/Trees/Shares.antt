-- The names of a node's rows under a directory are its share of what stands there.
use Rattle.std.proofs.Common.{◌≡◌, ℕ, zero, suc, ◌<◌, ◌==◌, true, false, cond, List, [], ◌∷◌, length, map, filter, Option, Some, None, refl, sym, ap, ◌∙◌, subst, arith, eq-eqb, eqb-true}
use Rattle.std.specs.Prelude.{IsSome, Contains, slice_index_or}
use Rattle.std.specs.Cmp.Lexicographic.{slice_cmp}
use Rattle.std.specs.List.Sorted.{IsStrictlySortedBy}
use Rattle.std.specs.Ordering.{nat_cmp}
use Rattle.fal_base.specs.declared.inode.Inode.{Inode}
use Rattle.fal_base.specs.declared.key.Key.{Key}
use Rattle.fal_base.specs.Listing.{AreRising, StandsUnder}
use Rattle.fal_base.specs.Tree.{Tree, key_of, names_under, row_at, same_key, IsInOrder}
use Rattle.fal_base.proofs.Maps.{same_key_is}
use Rattle.fal_inode.proofs.Ascending.{names_ascend}
use Rattle.fal_place.specs.Placement.{Placement, owner}
use Rattle.fal_story.proofs.Families.Listings.{IsShare}
use Rattle.fal_story.proofs.Trees.Standing.{row_of}

-- names that strictly ascend rise
ascend_rise : (names : List (List ℕ)) → IsStrictlySortedBy (slice_cmp nat_cmp) names → AreRising names
unfolding IsStrictlySortedBy
ascend_rise [] sorted = tt
ascend_rise (name ∷ []) sorted = tt
ascend_rise (name ∷ next ∷ names) sorted = (sorted.0.0, ascend_rise (next ∷ names) sorted.1)

-- a row under the directory has its name among them
pub under_has : (tree : Tree) (dir : ℕ) (name : List ℕ) → StandsUnder tree dir name → Contains (names_under tree dir) name
under_has [] dir name is = absurd (cc)
under_has (e ∷ es) dir name is =
    elim (same_key (key_of dir name) e.0) as (λ b. same_key (key_of dir name) e.0 ≡ b → IsSome (cond b (Some e.1) (row_at es (key_of dir name))) → Contains (names_under (e ∷ es) dir) name) [
      | true ↦ λ same _.
          let one : key_of dir name ≡ e.0 = (same_key_is (key_of dir name) e.0).0 same in
          subst (λ b. Contains (map (λ (x : Key × Inode). x.0.name) (cond b (e ∷ filter (λ (x : Key × Inode). x.0.parent == dir) es) (filter (λ (x : Key × Inode). x.0.parent == dir) es))) name)
          (sym (eq-eqb e.0.parent dir (ap (λ (k : Key). k.parent) (sym one)))) (zero, omega arith, ap (λ (k : Key). k.name) (sym one))
      | false ↦ λ _ later.
          let rest = under_has es dir name later in
          let less = rest.1 in
          elim (e.0.parent == dir) as (λ b. Contains (map (λ (x : Key × Inode). x.0.name) (cond b (e ∷ filter (λ (x : Key × Inode). x.0.parent == dir) es) (filter (λ (x : Key × Inode). x.0.parent == dir) es))) name) [
            | true ↦ (suc rest.0, omega arith, rest.2)
            | false ↦ rest
          ]
    ] refl is

-- and each name among them is that of a row
pub under_only : (tree : Tree) (dir : ℕ) (name : List ℕ) → Contains (names_under tree dir) name → StandsUnder tree dir name
under_only [] dir name h = let less = h.1 in absurd (omega arith)
under_only (e ∷ es) dir name h =
    elim (same_key (key_of dir name) e.0) as (λ b. same_key (key_of dir name) e.0 ≡ b → IsSome (cond b (Some e.1) (row_at es (key_of dir name)))) [
      | true ↦ λ _. refl
      | false ↦ λ apart. under_only es dir name
          (elim (e.0.parent == dir) as (λ b. (e.0.parent == dir) ≡ b → Contains (map (λ (x : Key × Inode). x.0.name) (cond b (e ∷ filter (λ (x : Key × Inode). x.0.parent == dir) es) (filter (λ (x : Key × Inode). x.0.parent == dir) es))) name
          → Contains (names_under es dir) name) [
            | true ↦ λ here z. after apart (eqb-true e.0.parent dir here) z.0 z.1 z.2
            | false ↦ λ _ z. z
          ] refl h)
    ] refl
  where
    after : same_key (key_of dir name) e.0 ≡ false → e.0.parent ≡ dir → (k : ℕ) → k < length (e.0.name ∷ names_under es dir) → slice_index_or (e.0.name ∷ names_under es dir) k name ≡ name → Contains (names_under es dir) name
    after apart here zero less is =
        let one : key_of dir name ≡ e.0 = λ i. record { parent = sym here i; name = sym is i } in
        let wrong : false ≡ true = sym apart ∙ (same_key_is (key_of dir name) e.0).1 one in
        absurd (cc)
    after apart here (suc k) less is = (k, omega arith, is)

-- the row lives at the node
lives_here : (table : Placement) (tree : Tree) (n : ℕ) (key : Key) → IsSome (row_of table tree n key) → IsSome (row_at tree key) × (owner table key ≡ n)
lives_here table tree n key is =
    elim (owner table key == n) as (λ b. (owner table key == n) ≡ b → IsSome (cond b (row_at tree key) None) → IsSome (row_at tree key) × (owner table key ≡ n)) [
      | true ↦ λ own some. (some, eqb-true (owner table key) n own)
      | false ↦ λ _ none. absurd (cc)
    ] refl is

-- where the node has the tree's rows of the keys that it owns, and no others
pub rows_share : (table : Placement) (tree rows : Tree) (dir n : ℕ) → IsInOrder rows → ((key : Key) → row_at rows key ≡ row_of table tree n key) → IsShare table tree dir n (names_under rows dir)
rows_share table tree rows dir n sorted are = record {
  rising = ascend_rise (names_under rows dir) (names_ascend rows dir sorted);
  has = λ name stands own. under_has rows dir name (subst (λ (o : Option Inode). IsSome o) (sym (are (key_of dir name) ∙ ap (λ b. cond b (row_at tree (key_of dir name)) None) (eq-eqb (owner table (key_of dir name)) n own))) stands);
  only = λ name among. lives_here table tree n (key_of dir name) (subst (λ (o : Option Inode). IsSome o) (are (key_of dir name)) (under_only rows dir name among));
}
