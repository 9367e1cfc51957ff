-- Rows in the order of their keys have their names, and their parents, in order.
use Rattle.std.proofs.Common.{◌≡◌, ℕ, Bool, true, false, cond, ◌&&◌, ◌==◌, List, [], ◌∷◌, map, filter, refl, sym, ap, ◌∙◌, subst}
use Rattle.std.specs.List.{AllByRecursion}
use Rattle.std.specs.List.Sorted.{IsStrictlySortedBy}
use Rattle.std.specs.declared.cmp.Ordering.{Ordering}
use Rattle.std.specs.declared.cmp.Ordering.TheVariants.{Less, Equal, Greater}
use Rattle.std.specs.Ordering.{nat_cmp, ordering_then, is_lt}
use Rattle.std.specs.Cmp.Lexicographic.{pointwise, slice_cmp, same_text}
use Rattle.std.specs.FinMap.Entries.{below_all, is_sorted}
use Rattle.std.proofs.lemmas.Bool.{eqb-true}
use Rattle.std.proofs.lemmas.Cmp.{nat_cmp_total, nat_list_cmp_total, tied_itself}
use Rattle.fal_base.specs.declared.inode.Inode.{Inode}
use Rattle.fal_base.specs.declared.key.Key.{Key}
use Rattle.fal_base.specs.declared.row.NamedRow.{NamedRow}
use Rattle.fal_base.specs.Tree.{Tree, key_cmp, names_under, IsInOrder}
use Rattle.fal_inode.specs.Named.{rows_named}

first_of_both : (a b : Bool) → (a && b) ≡ true → a ≡ true
first_of_both true b h = refl
first_of_both false b h = absurd (cc)

second_of_both : (a b : Bool) → (a && b) ≡ true → b ≡ true
second_of_both true b h = h
second_of_both false b h = absurd (cc)

less_is : (r : Ordering) → is_lt r ≡ true → r ≡ Less
less_is Less h = refl
less_is Equal h = absurd (cc)
less_is Greater h = absurd (cc)

name_below : (a b : Key) → a.parent ≡ b.parent → is_lt (key_cmp a b) ≡ true → slice_cmp nat_cmp a.name b.name ≡ Less
unfolding key_cmp
name_below a b same h =
    let tied : nat_cmp a.parent b.parent ≡ Equal = subst (λ n. nat_cmp a.parent n ≡ Equal) same (tied_itself nat_cmp_total a.parent) in
    less_is (slice_cmp nat_cmp a.name b.name) (sym (ap (λ r. is_lt (ordering_then r (slice_cmp nat_cmp a.name b.name))) tied) ∙ h)

parent_below : (a b : Key) → a.name ≡ b.name → is_lt (key_cmp a b) ≡ true → nat_cmp a.parent b.parent ≡ Less
unfolding key_cmp
parent_below a b same h =
    let tied : slice_cmp nat_cmp a.name b.name ≡ Equal = subst (λ n. slice_cmp nat_cmp a.name n ≡ Equal) same (tied_itself nat_list_cmp_total a.name) in
    elim (nat_cmp a.parent b.parent) as (λ r. is_lt (ordering_then r (slice_cmp nat_cmp a.name b.name)) ≡ true → r ≡ Less) [
      | Less ↦ λ _. refl
      | Equal ↦ λ less. let wrong : false ≡ true = sym (ap is_lt tied) ∙ less in absurd (cc)
      | Greater ↦ λ less. absurd (cc)
    ] h

-- what is picked of some entries ascends, where it does so for any two of them
module _ {Y : Type 0} (test : Key × Inode → Bool) (pick : Key × Inode → Y) (cmp : Y → Y → Ordering)
    (step : (a b : Key × Inode) → test a ≡ true → test b ≡ true → is_lt (key_cmp a.0 b.0) ≡ true → cmp (pick a) (pick b) ≡ Less) where
  picked_below : (e : Key × Inode) → test e ≡ true → (es : Tree) → below_all key_cmp e.0 es ≡ true → AllByRecursion (λ y. cmp (pick e) y ≡ Less) (map pick (filter test es))
  picked_below e passes [] h = tt
  picked_below e passes (o ∷ es) h =
      let rest = picked_below e passes es (second_of_both (is_lt (key_cmp e.0 o.0)) (below_all key_cmp e.0 es) h) in
      elim (test o) as (λ b. test o ≡ b → AllByRecursion (λ y. cmp (pick e) y ≡ Less) (map pick (cond b (o ∷ filter test es) (filter test es)))) [
        | true ↦ λ also. (step e o passes also (first_of_both (is_lt (key_cmp e.0 o.0)) (below_all key_cmp e.0 es) h), rest)
        | false ↦ λ _. rest
      ] refl

  picked_ascend : (es : Tree) → IsInOrder es → IsStrictlySortedBy cmp (map pick (filter test es))
  unfolding IsStrictlySortedBy
  picked_ascend [] h = tt
  picked_ascend (e ∷ es) h =
      let rest = picked_ascend es (second_of_both (below_all key_cmp e.0 es) (is_sorted key_cmp es) h) in
      elim (test e) as (λ b. test e ≡ b → IsStrictlySortedBy cmp (map pick (cond b (e ∷ filter test es) (filter test es)))) [
        | true ↦ λ passes. (picked_below e passes es (first_of_both (below_all key_cmp e.0 es) (is_sorted key_cmp es) h), rest)
        | false ↦ λ _. rest
      ] refl

pub names_ascend : (tree : Tree) (dir : ℕ) → IsInOrder tree → IsStrictlySortedBy (slice_cmp nat_cmp) (names_under tree dir)
names_ascend tree dir h =
    picked_ascend (λ e. e.0.parent == dir) (λ e. e.0.name) (slice_cmp nat_cmp) (λ a b here also below. name_below a.0 b.0 (eqb-true a.0.parent dir here ∙ sym (eqb-true b.0.parent dir also)) below) tree h

pub parents_ascend : (tree : Tree) (name : List ℕ) → IsInOrder tree → IsStrictlySortedBy (λ (a b : NamedRow). nat_cmp a.parent b.parent) (rows_named tree name)
parents_ascend tree name h =
    picked_ascend (λ e. pointwise ◌==◌ e.0.name name) (λ e. record { parent = e.0.parent; inode = e.1 }) (λ (a b : NamedRow). nat_cmp a.parent b.parent)
    (λ a b here also below. parent_below a.0 b.0 (same_text a.0.name name (sym here) ∙ sym (same_text b.0.name name (sym also))) below) tree h
