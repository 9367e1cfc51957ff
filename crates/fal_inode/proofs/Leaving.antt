-- The rows of a name leave, one after the other.
use Rattle.std.proofs.Common.{◌≡◌, ℕ, suc, ◌<◌, ◌≤◌, Bool, true, false, not, cond, ◌==◌, List, [], ◌∷◌, length, find, Some, None, refl, sym, ap, ◌∙◌, subst, arith}
use Rattle.std.specs.Option.{option_map}
use Rattle.std.specs.Cmp.Lexicographic.{pointwise, same_text}
use Rattle.std.proofs.lemmas.Cmp.{nat_list_eq_equiv}
use Rattle.fal_base.specs.declared.inode.Inode.{Inode}
use Rattle.fal_base.specs.declared.key.Key.{Key}
use Rattle.fal_base.specs.Tree.{Tree, key_of, same_key, without_row}
use Rattle.fal_base.proofs.Maps.{same_key_is}
use Rattle.fal_inode.specs.Named.{without_named, first_parent}

-- what leaves under a key of the name is no row of another name
pub others_stay : (tree : Tree) (key : Key) → without_named (without_row tree key) key.name ≡ without_named tree key.name
others_stay [] key = refl
others_stay (e ∷ es) key =
    let rest = others_stay es key in
    let here : Bool = pointwise ◌==◌ e.0.name key.name in
    elim (same_key key e.0) as (λ b. same_key key e.0 ≡ b → without_named (cond (not b) (e ∷ without_row es key) (without_row es key)) key.name ≡ cond (not here) (e ∷ without_named es key.name) (without_named es key.name)) [
      | true ↦ λ same.
          let one : key ≡ e.0 = (same_key_is key e.0).0 same in
          let named : here ≡ true = subst (λ (k : Key). pointwise ◌==◌ k.name key.name ≡ true) one (nat_list_eq_equiv.refl key.name) in
          rest ∙ sym (ap (λ b. cond (not b) (e ∷ without_named es key.name) (without_named es key.name)) named)
      | false ↦ λ _. ap (λ xs. cond (not here) (e ∷ xs) xs) rest
    ] refl

fewer : (tree : Tree) (key : Key) → length (without_row tree key) ≤ length tree
fewer [] key = omega arith
fewer (e ∷ es) key =
    let rest = fewer es key in
    elim (same_key key e.0) as (λ b. length (cond (not b) (e ∷ without_row es key) (without_row es key)) ≤ suc (length es)) [
      | true ↦ omega arith
      | false ↦ omega arith
    ]

key_is : (key : Key) (parent : ℕ) (name : List ℕ) → key.parent ≡ parent → key.name ≡ name → key_of parent name ≡ key
key_is key parent name a b = sym (λ i. record { parent = a i; name = b i })

-- the first row of the name does leave
pub shrinks : (tree : Tree) (name : List ℕ) (parent : ℕ) → first_parent tree name ≡ Some parent → length (without_row tree (key_of parent name)) < length tree
shrinks [] name parent found = absurd (cc)
shrinks (e ∷ es) name parent found =
    let key : Key = key_of parent name in
    let fewer_here = fewer es key in
    let here : Bool = pointwise ◌==◌ e.0.name name in
    elim here as (λ b. here ≡ b → option_map (λ (x : Key × Inode). x.0.parent) (cond b (Some e) (find (λ x. pointwise ◌==◌ x.0.name name) es)) ≡ Some parent
    → length (cond (not (same_key key e.0)) (e ∷ without_row es key) (without_row es key)) < suc (length es)) [
      | true ↦ λ named first.
          let at : e.0.parent ≡ parent = cc in
          let same : same_key key e.0 ≡ true = (same_key_is key e.0).1 (key_is e.0 parent name at (same_text e.0.name name (sym named))) in
          subst (λ b. length (cond (not b) (e ∷ without_row es key) (without_row es key)) < suc (length es)) (sym same) (omega arith)
      | false ↦ λ _ later.
          let rest = shrinks es name parent later in
          elim (same_key key e.0) as (λ b. length (cond (not b) (e ∷ without_row es key) (without_row es key)) < suc (length es)) [
            | true ↦ omega arith
            | false ↦ omega arith
          ]
    ] refl found

-- where there is no row of the name, none leaves
pub none_named : (tree : Tree) (name : List ℕ) → first_parent tree name ≡ None → without_named tree name ≡ tree
none_named [] name none = refl
none_named (e ∷ es) name none =
    elim (pointwise ◌==◌ e.0.name name) as (λ b. option_map (λ (x : Key × Inode). x.0.parent) (cond b (Some e) (find (λ x. pointwise ◌==◌ x.0.name name) es)) ≡ None
    → cond (not b) (e ∷ without_named es name) (without_named es name) ≡ e ∷ es) [
      | true ↦ λ here. absurd (cc)
      | false ↦ λ later. ap (λ xs. e ∷ xs) (none_named es name later)
    ] none
