-- How many of a list's first items pass a test.
use Rattle.std.proofs.Common.{◌≡◌, ℕ, zero, suc, ◌+◌, ◌<◌, ◌≤◌, Bool, true, false, cond, List, [], ◌∷◌, take, count_by, Some, ap, ◌∙◌, arith}
use Rattle.std.specs.Prelude.{slice_get}
use Rattle.std.proofs.lemmas.List.Sums.{sum_by-cons}
use Rattle.std.proofs.lemmas.Option.{same_Some}

pub count_cons : {A : Type 0} (test : A → Bool) (x : A) (xs : List A) → count_by test (x ∷ xs) ≡ cond (test x) 1 0 + count_by test xs
count_cons test x xs = sum_by-cons (λ y. cond (test y) 1 0) x xs

pub count_yes : {A : Type 0} (test : A → Bool) (x : A) (xs : List A) → test x ≡ true → count_by test (x ∷ xs) ≡ 1 + count_by test xs
count_yes test x xs e = count_cons test x xs ∙ ap (λ b. cond b 1 0 + count_by test xs) e

pub count_no : {A : Type 0} (test : A → Bool) (x : A) (xs : List A) → test x ≡ false → count_by test (x ∷ xs) ≡ 0 + count_by test xs
count_no test x xs e = count_cons test x xs ∙ ap (λ b. cond b 1 0 + count_by test xs) e

-- no fewer of a longer front
pub count_rises : {A : Type 0} (test : A → Bool) (xs : List A) (i j : ℕ) → i ≤ j → count_by test (take i xs) ≤ count_by test (take j xs)
count_rises test xs zero j h = omega arith
count_rises test [] (suc i) zero h = omega arith
count_rises test [] (suc i) (suc j) h = omega arith
count_rises test (x ∷ xs) (suc i) zero h = absurd (omega arith)
count_rises test (x ∷ xs) (suc i) (suc j) h =
    let more = count_rises test xs i j (omega arith) in
    let short = count_cons test x (take i xs) in
    let long = count_cons test x (take j xs) in
    omega (arith, more, short, long)

-- an item that passes makes one more
pub count_more : {A : Type 0} (test : A → Bool) (xs : List A) (i : ℕ) (x : A) → slice_get xs i ≡ Some x → test x ≡ true → count_by test (take (suc i) xs) ≡ count_by test (take i xs) + 1
count_more test [] i x e passes = absurd (cc)
count_more test (y ∷ xs) zero x e passes = let one = count_yes test y [] (ap test (same_Some y x e) ∙ passes) in omega (arith, one)
count_more test (y ∷ xs) (suc i) x e passes =
    let more = count_more test xs i x e passes in
    let short = count_cons test y (take i xs) in
    let long = count_cons test y (take (suc i) xs) in
    omega (arith, more, short, long)

-- so that the front before it has fewer than one that it stands in
pub count_past : {A : Type 0} (test : A → Bool) (xs : List A) (i j : ℕ) (x : A) → slice_get xs i ≡ Some x → test x ≡ true → i < j → count_by test (take i xs) < count_by test (take j xs)
count_past test xs i j x e passes h =
    let more = count_more test xs i x e passes in
    let rises = count_rises test xs (suc i) j h in
    omega (arith, more, rises)
