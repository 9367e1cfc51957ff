-- Numbers that ascend.
use Rattle.std.proofs.Common.{◌≡◌, ℕ, ◌+◌, Bool, true, false, cond, ◌&&◌, ◌==◌, List, [], ◌∷◌, ◌++◌, map, nat_lt, Option, Some, None, refl, sym, ap, ◌∙◌, subst, arith}
use Rattle.std.specs.List.{list_all, find}
use Rattle.std.proofs.lemmas.Bool.Decides.{nat_tests}
use Rattle.fal_wait.specs.Lists.{are_ascending, without_first}

pub both : (a b : Bool) → a ≡ true → b ≡ true → (a && b) ≡ true
both true b h k = k
both false b h k = absurd (cc)

pub first_of_both : (a b : Bool) → (a && b) ≡ true → a ≡ true
first_of_both true b h = refl
first_of_both false b h = absurd (cc)

pub second_of_both : (a b : Bool) → (a && b) ≡ true → b ≡ true
second_of_both true b h = h
second_of_both false b h = absurd (cc)

pub all_push : {X : Type 0} (p : X → Bool) (xs : List X) (x : X) → list_all p xs ≡ true → p x ≡ true → list_all p (xs ++ x ∷ []) ≡ true
all_push p [] x h k = both (p x) true k refl
all_push p (y ∷ ys) x h k = both (p y) (list_all p (ys ++ x ∷ [])) (first_of_both (p y) (list_all p ys) h) (all_push p ys x (second_of_both (p y) (list_all p ys) h) k)

pub all_map : {X : Type 0} (p : X → Bool) (f : X → X) → ((x : X) → p (f x) ≡ p x) → (xs : List X) → list_all p (map f xs) ≡ list_all p xs
all_map p f same [] = refl
all_map p f same (x ∷ xs) = ap (λ b. b && list_all p (map f xs)) (same x) ∙ ap (λ b. p x && b) (all_map p f same xs)

pub all_without : {X : Type 0} (p test : X → Bool) (xs : List X) → list_all p xs ≡ true → list_all p (without_first test xs) ≡ true
all_without p test [] h = h
all_without p test (x ∷ xs) h =
    let rest = second_of_both (p x) (list_all p xs) h in
    elim (test x) as (λ b. list_all p (cond b xs (x ∷ without_first test xs)) ≡ true) [
      | true ↦ rest
      | false ↦ both (p x) (list_all p (without_first test xs)) (first_of_both (p x) (list_all p xs) h) (all_without p test xs rest)
    ]

pub below_more : (a b : ℕ) → nat_lt a b ≡ true → nat_lt a (b + 1) ≡ true
below_more a b h = grind (arith, nat_tests)

pub below_next : (a : ℕ) → nat_lt a (a + 1) ≡ true
below_next a = grind (arith, nat_tests)

below_apart : (a b : ℕ) → nat_lt a b ≡ true → (b == a) ≡ false
below_apart a b h = grind (arith, nat_tests)

above_apart : (a b : ℕ) → nat_lt a b ≡ true → (a == b) ≡ false
above_apart a b h = grind (arith, nat_tests)

same_is : (a b : ℕ) → (a == b) ≡ true → a ≡ b
same_is a b h = grind (arith, nat_tests)

itself : (n : ℕ) → (n == n) ≡ true
itself n = grind (arith, nat_tests)

module _ {X : Type 0} (number : X → ℕ) where
  -- what is known of the first item of some that rise
  pub first_below : (x : X) (xs : List X) (end : ℕ) → are_ascending number (x ∷ xs) end ≡ true → list_all (λ later. nat_lt (number x) (number later)) xs ≡ true
  first_below x xs end h = first_of_both (list_all (λ later. nat_lt (number x) (number later)) xs) (nat_lt (number x) end && are_ascending number xs end) h

  pub first_in : (x : X) (xs : List X) (end : ℕ) → are_ascending number (x ∷ xs) end ≡ true → nat_lt (number x) end ≡ true
  first_in x xs end h =
      first_of_both (nat_lt (number x) end) (are_ascending number xs end) (second_of_both (list_all (λ later. nat_lt (number x) (number later)) xs) (nat_lt (number x) end && are_ascending number xs end) h)

  pub rest_ascending : (x : X) (xs : List X) (end : ℕ) → are_ascending number (x ∷ xs) end ≡ true → are_ascending number xs end ≡ true
  rest_ascending x xs end h =
      second_of_both (nat_lt (number x) end) (are_ascending number xs end) (second_of_both (list_all (λ later. nat_lt (number x) (number later)) xs) (nat_lt (number x) end && are_ascending number xs end) h)

  -- each item keeps its number
  pub ascending_map : (f : X → X) → ((x : X) → number (f x) ≡ number x) → (xs : List X) (end : ℕ) → are_ascending number (map f xs) end ≡ are_ascending number xs end
  ascending_map f same [] end = refl
  ascending_map f same (x ∷ xs) end =
      let later : list_all (λ y. nat_lt (number (f x)) (number y)) (map f xs) ≡ list_all (λ y. nat_lt (number x) (number y)) xs =
      ap (λ n. list_all (λ y. nat_lt n (number y)) (map f xs)) (same x) ∙ all_map (λ y. nat_lt (number x) (number y)) f (λ y. ap (λ n. nat_lt (number x) n) (same y)) xs in
      let here : nat_lt (number (f x)) end ≡ nat_lt (number x) end = ap (λ n. nat_lt n end) (same x) in
      λ i. later i && (here i && ascending_map f same xs end i)

  -- an item leaves
  pub ascending_without : (test : X → Bool) (xs : List X) (end : ℕ) → are_ascending number xs end ≡ true → are_ascending number (without_first test xs) end ≡ true
  ascending_without test [] end h = h
  ascending_without test (x ∷ xs) end h =
      let rest = rest_ascending x xs end h in
      elim (test x) as (λ b. are_ascending number (cond b xs (x ∷ without_first test xs)) end ≡ true) [
        | true ↦ rest
        | false ↦ both (list_all (λ y. nat_lt (number x) (number y)) (without_first test xs)) (nat_lt (number x) end && are_ascending number (without_first test xs) end)
            (all_without (λ y. nat_lt (number x) (number y)) test xs (first_below x xs end h))
            (both (nat_lt (number x) end) (are_ascending number (without_first test xs) end) (first_in x xs end h) (ascending_without test xs end rest))
      ]

  -- an item comes, with the number that was the next one
  pub ascending_push : (xs : List X) (x : X) → are_ascending number xs (number x) ≡ true → are_ascending number (xs ++ x ∷ []) (number x + 1) ≡ true
  ascending_push [] x h = both (nat_lt (number x) (number x + 1)) true (below_next (number x)) refl
  ascending_push (y ∷ ys) x h =
      let here = first_in y ys (number x) h in
      both (list_all (λ z. nat_lt (number y) (number z)) (ys ++ x ∷ [])) (nat_lt (number y) (number x + 1) && are_ascending number (ys ++ x ∷ []) (number x + 1))
      (all_push (λ z. nat_lt (number y) (number z)) ys x (first_below y ys (number x) h) here)
      (both (nat_lt (number y) (number x + 1)) (are_ascending number (ys ++ x ∷ []) (number x + 1)) (below_more (number y) (number x) here) (ascending_push ys x (rest_ascending y ys (number x) h)))

  none_above : (n : ℕ) (xs : List X) → list_all (λ later. nat_lt n (number later)) xs ≡ true → find (λ x. number x == n) xs ≡ None
  none_above n [] h = refl
  none_above n (x ∷ xs) h =
      let here = below_apart n (number x) (first_of_both (nat_lt n (number x)) (list_all (λ later. nat_lt n (number later)) xs) h) in
      ap (λ b. cond b (Some x) (find (λ y. number y == n) xs)) here ∙ none_above n xs (second_of_both (nat_lt n (number x)) (list_all (λ later. nat_lt n (number later)) xs) h)

  -- an item that has left is not found again
  pub none_without : (n : ℕ) (xs : List X) (end : ℕ) → are_ascending number xs end ≡ true → find (λ x. number x == n) (without_first (λ x. number x == n) xs) ≡ None
  none_without n [] end h = refl
  none_without n (x ∷ xs) end h =
      elim (number x == n) as (λ b. (number x == n) ≡ b → find (λ y. number y == n) (cond b xs (x ∷ without_first (λ y. number y == n) xs)) ≡ None) [
        | true ↦ λ is. none_above n xs (subst (λ m. list_all (λ later. nat_lt m (number later)) xs ≡ true) (same_is (number x) n is) (first_below x xs end h))
        | false ↦ λ is. ap (λ b. cond b (Some x) (find (λ y. number y == n) (without_first (λ y. number y == n) xs))) is ∙ none_without n xs end (rest_ascending x xs end h)
      ] refl

  -- the others are found as before
  pub found_without : (n other : ℕ) → (other == n) ≡ false → (xs : List X) → find (λ x. number x == n) (without_first (λ x. number x == other) xs) ≡ find (λ x. number x == n) xs
  found_without n other apart [] = refl
  found_without n other apart (x ∷ xs) =
      elim (number x == other) as (λ b. (number x == other) ≡ b
      → find (λ y. number y == n) (cond b xs (x ∷ without_first (λ y. number y == other) xs)) ≡ cond (number x == n) (Some x) (find (λ y. number y == n) xs)) [
        | true ↦ λ is.
            let off : (number x == n) ≡ false = ap (λ m. m == n) (same_is (number x) other is) ∙ apart in
            sym (ap (λ b. cond b (Some x) (find (λ y. number y == n) xs)) off)
        | false ↦ λ is. ap (λ o. cond (number x == n) (Some x) o) (found_without n other apart xs)
      ] refl

  -- an item that comes is found by its number, and the others as before
  pub found_push : (n : ℕ) (xs : List X) (x : X) → nat_lt n (number x) ≡ true → find (λ y. number y == n) (xs ++ x ∷ []) ≡ find (λ y. number y == n) xs
  found_push n [] x below = ap (λ b. cond b (Some x) None) (below_apart n (number x) below)
  found_push n (y ∷ ys) x below = ap (λ o. cond (number y == n) (Some y) o) (found_push n ys x below)

  pub found_last : (xs : List X) (x : X) → are_ascending number xs (number x) ≡ true → find (λ y. number y == number x) (xs ++ x ∷ []) ≡ Some x
  found_last [] x h = ap (λ b. cond b (Some x) None) (itself (number x))
  found_last (y ∷ ys) x h =
      ap (λ b. cond b (Some y) (find (λ z. number z == number x) (ys ++ x ∷ []))) (above_apart (number y) (number x) (first_in y ys (number x) h)) ∙ found_last ys x (rest_ascending y ys (number x) h)
