-- The first item of a list that passes a test: where it stands, and the list without it.
use Rattle.std.proofs.Common.{◌≡◌, ℕ, suc, ◌+◌, Bool, true, false, not, cond, List, [], ◌∷◌, length, get_or, nat_lt, Some, None, refl, sym, ap, subst, arith}
use Rattle.std.specs.List.{find, remove, position, prefix_len}
use Rattle.std.proofs.lemmas.Bool.Decides.{nat_tests}
use Rattle.fal_wait.specs.Lists.{without_first}

abbrev pub before : {X : Type 0} → (X → Bool) → List X → ℕ
before p xs = prefix_len (λ x. not (p x)) xs

found : {X : Type 0} (p : X → Bool) (xs : List X) (x : X) → nat_lt (before p xs) (length xs) ≡ true → x ≡ get_or xs (before p xs) x
    → (Some x ≡ find p xs) × (remove xs (before p xs) ≡ without_first p xs)
found p [] x lt is = cc
found p (y ∷ ys) x lt is =
    elim (p y) as (λ b. nat_lt (cond (not b) (1 + before p ys) 0) (suc (length ys)) ≡ true → x ≡ get_or (y ∷ ys) (cond (not b) (1 + before p ys) 0) x
    → (Some x ≡ cond b (Some y) (find p ys)) × (remove (y ∷ ys) (cond (not b) (1 + before p ys) 0) ≡ cond b ys (y ∷ without_first p ys))) [
      | true ↦ λ h e. (ap Some e, refl)
      | false ↦ λ h e.
          let more : 1 + before p ys ≡ suc (before p ys) = omega arith in
          let here : nat_lt (before p ys) (length ys) ≡ true = grind (arith, nat_tests) in
          let rest = found p ys x here (subst (λ n. x ≡ get_or (y ∷ ys) n x) more e) in
          (rest.0, subst (λ n. remove (y ∷ ys) n ≡ y ∷ without_first p ys) (sym more) (ap (λ zs. y ∷ zs) rest.1))
    ] lt is

absent : {X : Type 0} (p : X → Bool) (xs : List X) → nat_lt (before p xs) (length xs) ≡ false → (None ≡ find p xs) × (xs ≡ without_first p xs)
absent p [] past = (refl, refl)
absent p (y ∷ ys) past =
    elim (p y) as (λ b. nat_lt (cond (not b) (1 + before p ys) 0) (suc (length ys)) ≡ false → (None ≡ cond b (Some y) (find p ys)) × (y ∷ ys ≡ cond b ys (y ∷ without_first p ys))) [
      | true ↦ λ h. absurd (grind (arith, nat_tests))
      | false ↦ λ h. let rest = absent p ys (grind (arith, nat_tests)) in (rest.0, ap (λ zs. y ∷ zs) rest.1)
    ] past

chosen : (b : Bool) (n i : ℕ) → cond b (Some n) None ≡ Some i → (b ≡ true) × (n ≡ i)
chosen true n i is = (refl, cc)
chosen false n i is = cc

missed : (b : Bool) (n : ℕ) → cond b (Some n) None ≡ None → b ≡ false
missed true n is = cc
missed false n is = refl

-- the item at the place of the first that passes
pub first_at : {X : Type 0} (p : X → Bool) (xs : List X) (i : ℕ) (x : X) → position p xs ≡ Some i → x ≡ get_or xs i x → (Some x ≡ find p xs) × (remove xs i ≡ without_first p xs)
first_at p xs i x place is =
    let at = chosen (nat_lt (before p xs) (length xs)) (before p xs) i place in
    let result = found p xs x at.0 (subst (λ n. x ≡ get_or xs n x) (sym at.1) is) in
    (result.0, subst (λ n. remove xs n ≡ without_first p xs) at.1 result.1)

-- no item passes
pub no_first : {X : Type 0} (p : X → Bool) (xs : List X) → position p xs ≡ None → (None ≡ find p xs) × (xs ≡ without_first p xs)
no_first p xs place = absent p xs (missed (nat_lt (before p xs) (length xs)) (before p xs) place)
