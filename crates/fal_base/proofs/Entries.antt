-- A directory has names where a row stands under its number.
use Rattle.std.proofs.Common.{◌≡◌, ◌≢◌, ℕ, zero, suc, ◌<◌, Bool, true, false, cond, [], ◌∷◌, length, map, Some, None, IsSome, refl, sym, ap, subst, ◌∙◌, arith}
use Rattle.std.specs.List.{filter}
use Rattle.std.specs.Prelude.{◌==◌}
use Rattle.std.proofs.lemmas.Bool.Decides.{nat_tests}
use Rattle.fal_base.specs.declared.inode.Inode.{Inode}
use Rattle.fal_base.specs.declared.key.Key.{Key}
use Rattle.fal_base.specs.Tree.{Tree, row_at, names_under, same_key}
use Rattle.fal_base.proofs.Maps.{same_key_is}

-- some row is under the number
abbrev pub SomeUnder : Tree → ℕ → Type 0
SomeUnder tree dir = (key : Key) × (key.parent ≡ dir) × IsSome (row_at tree key)

module _ (dir : ℕ) where
  one_more : (b : Bool) (e : Key × Inode) (es : Tree) → 0 < length (map (λ e. e.0.name) es) → 0 < length (map (λ e. e.0.name) (cond b (e ∷ es) es))
  one_more true e es more = omega arith
  one_more false e es more = more

  has_first : (e : Key × Inode) (es : Tree) → IsSome (row_at (e ∷ es) e.0)
  has_first e es = subst (λ b. IsSome (cond b (Some e.1) (row_at es e.0))) (sym ((same_key_is e.0 e.0).1 refl)) refl

  has_later : (key : Key) (e : Key × Inode) (es : Tree) → IsSome (row_at es key) → IsSome (row_at (e ∷ es) key)
  has_later key e es has = elim (same_key key e.0) as (λ b. IsSome (cond b (Some e.1) (row_at es key))) [ true ↦ refl | false ↦ has ]

  -- where there is a name, there is a row
  pub row_of_name : (tree : Tree) → 0 < length (names_under tree dir) → SomeUnder tree dir
  row_of_name [] some = absurd (omega arith)
  row_of_name (e ∷ es) some =
      elim (e.0.parent == dir) as (λ b. (e.0.parent == dir) ≡ b → 0 < length (map (λ e. e.0.name) (cond b (e ∷ filter (λ e. e.0.parent == dir) es) (filter (λ e. e.0.parent == dir) es))) → SomeUnder (e ∷ es) dir) [
        | true ↦ λ here _. (e.0, grind (arith, nat_tests), has_first e es)
        | false ↦ λ _ later. let entry : SomeUnder es dir = row_of_name es later in (entry.0, entry.1, has_later entry.0 e es entry.2)
      ] refl some

  -- where there is a row, there is its name
  pub name_of_row : (tree : Tree) → SomeUnder tree dir → 0 < length (names_under tree dir)
  name_of_row [] entry = let none : IsSome (row_at [] entry.0) = entry.2 in cc
  name_of_row (e ∷ es) entry =
      elim (same_key entry.0 e.0) as (λ b. same_key entry.0 e.0 ≡ b → IsSome (cond b (Some e.1) (row_at es entry.0)) → 0 < length (names_under (e ∷ es) dir)) [
        | true ↦ λ same _.
            let here : (e.0.parent == dir) ≡ true = let parent : e.0.parent ≡ dir = ap (λ k. k.parent) (sym ((same_key_is entry.0 e.0).0 same)) ∙ entry.1 in grind (arith, nat_tests) in
            subst (λ b. 0 < length (map (λ e. e.0.name) (cond b (e ∷ filter (λ e. e.0.parent == dir) es) (filter (λ e. e.0.parent == dir) es)))) (sym here) (omega arith)
        | false ↦ λ _ has. one_more (e.0.parent == dir) e (filter (λ e. e.0.parent == dir) es) (name_of_row es (entry.0, entry.1, has))
      ] refl entry.2

  -- where no row stands under the number, there is no name
  pub no_names : (tree : Tree) → ((key : Key) → key.parent ≡ dir → row_at tree key ≡ None) → length (names_under tree dir) ≡ 0
  no_names tree none =
      elim (length (names_under tree dir)) as (λ n. length (names_under tree dir) ≡ n → n ≡ 0) [
        | zero ↦ λ _. refl
        | suc n ↦ λ is.
            let entry : SomeUnder tree dir = row_of_name tree (omega arith) in
            let gone = none entry.0 entry.1 in
            let there : IsSome (row_at tree entry.0) = entry.2 in cc
      ] refl

  -- where there is no name, each row is under another number
  pub nothing_under : (tree : Tree) → length (names_under tree dir) ≡ 0 → (key : Key) (row : Inode) → row_at tree key ≡ Some row → key.parent ≢ dir
  nothing_under tree none key row there under =
      let some : 0 < length (names_under tree dir) = name_of_row tree (key, under, subst IsSome (sym there) refl) in omega arith
