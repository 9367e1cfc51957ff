-- A sorted permutation of a list is the list with each item put at its place.
use Rattle.std.proofs.Common.{◌≡◌, ℕ, suc, ◌+◌, ◌<◌, ◌≤◌, Bool, true, false, cond, List, [], ◌∷◌, ◌++◌, length, get_or, sum_by, refl, sym, ap, ◌∙◌, arith}
use Rattle.std.specs.Cmp.{IsStrictWeakOrder}
use Rattle.std.specs.Cmp.Lexicographic.{slice_cmp, nat_list_cmp_total}
use Rattle.std.specs.FinMap.{nat_cmp-IsAntisymmetric, slice_cmp-IsAntisymmetric}
use Rattle.std.specs.Ordering.{nat_cmp, is_lt, ordering_reverse}
use Rattle.std.specs.declared.cmp.Ordering.TheVariants.{Less, Equal, Greater}
use Rattle.std.specs.List.Sorted.{IsPermutation, IsSorted}
use Rattle.std.proofs.lemmas.List.Sorted.{sum_by-IsPermutation, sorted_far, ranks_by}
use Rattle.std.proofs.lemmas.List.Sums.{sum_by-cons}
use Rattle.fal_client.specs.Names.{is_before, with_sorted, sorted_by, sorted_names}

-- a strict order in which items that tie are one
record Order {X : Type 0} (before : X → X → Bool) : Type 0 where
  weak : IsStrictWeakOrder before
  exact : (x y : X) → before x y ≡ false → before y x ≡ false → x ≡ y

-- both may be put in any order

pair_same : {X : Type 0} (before : X → X → Bool) → Order before → (a b : X) (zs : List X)
    → cond (before b a) (b ∷ a ∷ zs) (a ∷ b ∷ zs) ≡ cond (before a b) (a ∷ b ∷ zs) (b ∷ a ∷ zs)
pair_same {X} before o a b zs =
    elim (before b a) as (λ v. before b a ≡ v → cond v (b ∷ a ∷ zs) (a ∷ b ∷ zs) ≡ cond (before a b) (a ∷ b ∷ zs) (b ∷ a ∷ zs)) [
      | true ↦ λ e. rw (o.weak.one_way b a e) refl
      | false ↦ λ e. elim (before a b) as (λ w. before a b ≡ w → a ∷ b ∷ zs ≡ cond w (a ∷ b ∷ zs) (b ∷ a ∷ zs)) [
        | true ↦ λ f. refl
        | false ↦ λ f. let one : a ≡ b = o.exact a b f e in cc
      ] refl
    ] refl

-- x is not before z, and y is not after it: x is not before y
follows : {X : Type 0} (before : X → X → Bool) → Order before → (x z y : X) → before z y ≡ true → before z x ≡ false → before x y ≡ true
follows before o x z y zy zx =
    elim (before x y) as (λ v. before x y ≡ v → v ≡ true) [
      | true ↦ λ e. refl
      | false ↦ λ e. let wrong : before z y ≡ false = o.weak.chain z x y zx e in cc
    ] refl

put_both : {X : Type 0} (before : X → X → Bool) → Order before → (a b : X) (zs : List X)
    → with_sorted before a (with_sorted before b zs) ≡ with_sorted before b (with_sorted before a zs)
put_both before o a b [] = pair_same before o a b []
put_both {X} before o a b (z ∷ zs) =
    elim (before z a) as (λ v. before z a ≡ v → with_sorted before a (cond (before z b) (z ∷ with_sorted before b zs) (b ∷ z ∷ zs)) ≡ with_sorted before b (cond v (z ∷ with_sorted before a zs) (a ∷ z ∷ zs))) [
      | true ↦ λ za. elim (before z b) as (λ w. before z b ≡ w → with_sorted before a (cond w (z ∷ with_sorted before b zs) (b ∷ z ∷ zs)) ≡ cond w (z ∷ with_sorted before b (with_sorted before a zs)) (b ∷ z ∷ with_sorted before a zs)) [
        | true ↦ λ zb. rw za (ap (λ (l : List X). z ∷ l) (put_both before o a b zs))
        | false ↦ λ zb. rw (follows before o b z a za zb, za) refl
      ] refl
      | false ↦ λ za. elim (before z b) as (λ w. before z b ≡ w → with_sorted before a (cond w (z ∷ with_sorted before b zs) (b ∷ z ∷ zs)) ≡ cond (before a b) (a ∷ cond w (z ∷ with_sorted before b zs) (b ∷ z ∷ zs)) (b ∷ a ∷ z ∷ zs)) [
        | true ↦ λ zb. rw (za, follows before o a z b zb za) refl
        | false ↦ λ zb. rw za (pair_same before o a b (z ∷ zs))
      ] refl
    ] refl

-- an item in the middle may be put last
sorted-middle : {X : Type 0} (before : X → X → Bool) → Order before → (xs : List X) (x : X) (ys : List X)
    → sorted_by before (xs ++ x ∷ ys) ≡ with_sorted before x (sorted_by before (xs ++ ys))
sorted-middle before o [] x ys = refl
sorted-middle {X} before o (y ∷ xs) x ys =
    ap (with_sorted before y) (sorted-middle before o xs x ys) ∙ put_both before o y x (sorted_by before (xs ++ ys))

-- whether two items tie, as a number
same_count : {X : Type 0} → (X → X → Bool) → X → X → ℕ
same_count before x y = cond (before x y) 0 (cond (before y x) 0 1)

abbrev count_in : {X : Type 0} → (X → X → Bool) → X → List X → ℕ
count_in before x [] = 0
count_in before x (y ∷ ys) = same_count before x y + count_in before x ys

count_in-sum : {X : Type 0} (before : X → X → Bool) (x : X) (ys : List X) → count_in before x ys ≡ sum_by (same_count before x) ys
count_in-sum before x [] = refl
count_in-sum before x (y ∷ ys) = ap (λ n. same_count before x y + n) (count_in-sum before x ys) ∙ sym (sum_by-cons (same_count before x) y ys)

irreflexive : {X : Type 0} (before : X → X → Bool) → Order before → (x : X) → before x x ≡ false
irreflexive before o x =
    elim (before x x) as (λ v. before x x ≡ v → v ≡ false) [
      | true ↦ λ e. let wrong : before x x ≡ false = o.weak.one_way x x e in cc
      | false ↦ λ e. refl
    ] refl

same_itself : {X : Type 0} (before : X → X → Bool) → Order before → (x : X) → same_count before x x ≡ 1
unfolding same_count
same_itself before o x = let e : before x x ≡ false = irreflexive before o x in rw e refl

record Split {X : Type 0} (x : X) (ys : List X) : Type 0 where
  front : List X
  back : List X
  is : ys ≡ front ++ x ∷ back

more_front : {X : Type 0} (x y : X) (ys : List X) → Split x ys → Split x (y ∷ ys)
more_front {X} x y ys s = record { front = y ∷ s.front; back = s.back; is = ap (λ (l : List X). y ∷ l) s.is }

later_count : (a b : ℕ) → a ≡ 0 → 0 < a + b → 0 < b
later_count a b z h = omega arith

no_count_before : {X : Type 0} (before : X → X → Bool) (x y : X) → before x y ≡ true → same_count before x y ≡ 0
unfolding same_count
no_count_before before x y e = rw e refl

no_count_after : {X : Type 0} (before : X → X → Bool) (x y : X) → before x y ≡ false → before y x ≡ true → same_count before x y ≡ 0
unfolding same_count
no_count_after before x y e f = rw (e, f) refl

-- where an item that counts stands
split_of : {X : Type 0} (before : X → X → Bool) → Order before → (x : X) (ys : List X) → 0 < count_in before x ys → Split x ys
split_of before o x [] h = absurd (omega arith)
split_of {X} before o x (y ∷ ys) h =
    elim (before x y) as (λ v. before x y ≡ v → Split x (y ∷ ys)) [
      | true ↦ λ e. more_front x y ys (split_of before o x ys (later_count _ _ (no_count_before before x y e) h))
      | false ↦ λ e. elim (before y x) as (λ w. before y x ≡ w → Split x (y ∷ ys)) [
        | true ↦ λ f. more_front x y ys (split_of before o x ys (later_count _ _ (no_count_after before x y e f) h))
        | false ↦ λ f. record { front = []; back = ys; is = ap (λ (z : X). z ∷ ys) (sym (o.exact x y e f)) }
      ] refl
    ] refl

count-middle : {X : Type 0} (before : X → X → Bool) (q x : X) (xs ys : List X) → count_in before q (xs ++ x ∷ ys) ≡ same_count before q x + count_in before q (xs ++ ys)
count-middle before q x [] ys = refl
count-middle before q x (y ∷ xs) ys = let more = count-middle before q x xs ys in omega arith

-- lists with the same items sort alike
same_sorted : {X : Type 0} (before : X → X → Bool) → Order before → (xs ys : List X) → ((q : X) → count_in before q ys ≡ count_in before q xs) → sorted_by before ys ≡ sorted_by before xs
same_sorted before o [] [] h = refl
same_sorted before o [] (y ∷ ys) h = absurd (omega (arith, h y, same_itself before o y))
same_sorted {X} before o (x ∷ xs) ys h =
    let s : Split x ys = split_of before o x ys (omega (arith, h x, same_itself before o x)) in
    ap (sorted_by before) s.is ∙ sorted-middle before o s.front x s.back
    ∙ ap (with_sorted before x) (same_sorted before o xs (s.front ++ s.back) (λ q. omega (arith, h q, ap (count_in before q) s.is, count-middle before q x s.front s.back)))

-- a list that is in order stays

abbrev Rises : {X : Type 0} → (X → X → Bool) → List X → Type 0
Rises {X} before xs = (i j : ℕ) (d : X) → i ≤ j → j < length xs → before (get_or xs j d) (get_or xs i d) ≡ false

first_stays : {X : Type 0} (before : X → X → Bool) (x : X) (xs : List X) → Rises before (x ∷ xs) → with_sorted before x xs ≡ x ∷ xs
first_stays before x [] h = refl
first_stays before x (y ∷ ys) h = let e : before y x ≡ false = h 0 1 x (omega arith) (omega arith) in rw e refl

sorted-rises : {X : Type 0} (before : X → X → Bool) (xs : List X) → Rises before xs → sorted_by before xs ≡ xs
sorted-rises before [] h = refl
sorted-rises before (x ∷ xs) h =
    ap (with_sorted before x) (sorted-rises before xs (λ i j d le lt. h (suc i) (suc j) d (omega arith) (omega arith))) ∙ first_stays before x xs h

-- ---- names

name_exact : (x y : List ℕ) → is_before x y ≡ false → is_before y x ≡ false → x ≡ y
name_exact x y p q =
    elim (slice_cmp nat_cmp x y) as (λ r. slice_cmp nat_cmp x y ≡ r → is_lt r ≡ false → x ≡ y) [
      | Less ↦ λ e wrong. absurd (cc)
      | Equal ↦ λ e w. slice_cmp-IsAntisymmetric nat_cmp-IsAntisymmetric x y e
      | Greater ↦ λ e w. let back : slice_cmp nat_cmp y x ≡ Less = nat_list_cmp_total.antisymm y x ∙ ap ordering_reverse e in let wrong : true ≡ false = sym (ap is_lt back) ∙ q in absurd (cc)
    ] refl p

name_order : Order is_before
name_order = record { weak = ranks_by nat_list_cmp_total (λ x. x); exact = name_exact }

-- what a sort leaves is what is meant by the sorted names
pub names_sorted : (xs ys : List (List ℕ)) → IsPermutation xs ys → IsSorted (slice_cmp nat_cmp) ys → ys ≡ sorted_names xs
unfolding sorted_names
names_sorted xs ys moved up =
    sym (sorted-rises is_before ys (λ i j d le lt. sorted_far is_before name_order.weak ys up i j d le lt))
    ∙ same_sorted is_before name_order xs ys (λ q. count_in-sum is_before q ys ∙ sum_by-IsPermutation (same_count is_before q) xs ys moved ∙ sym (count_in-sum is_before q xs))
