-- Items that differ, each of which stands in a list, are no more than the list has.
use Rattle.std.proofs.Common.{◌≡◌, ◌≢◌, inl, inr, ⊎_elim, suc, ◌≤◌, List, [], ◌∷◌, length, refl, sym, ap, ◌∙◌, arith}
use Rattle.fal_story.proofs.Lists.Each.{Each, each_both}
use Rattle.fal_story.proofs.Lists.Members.{IsIn}

-- what is left of a list without one of its items
record IsLeft (A : Type 0) (x : A) (ys : List A) : Type 0 where
  rest : List A
  shorter : length ys ≡ suc (length rest)
  others : (y : A) → y ≢ x → IsIn y ys → IsIn y rest

taken : {A : Type 0} (x : A) (ys : List A) → IsIn x ys → IsLeft A x ys
taken x [] m = absurd m
taken x (z ∷ ys) (inl e) = record { rest = ys; shorter = refl; others = λ y ne m. ⊎_elim (λ same. absurd (ne (sym same ∙ e))) (λ r. r) m }
taken x (z ∷ ys) (inr m) =
    let t = taken x ys m in
    record { rest = z ∷ t.rest; shorter = ap suc t.shorter; others = λ y ne n. ⊎_elim (λ same. inl same) (λ r. inr (t.others y ne r)) n }

-- no two are the same in this
abbrev pub Differ : {A B : Type 0} → (A → B) → List A → Type 0
Differ f [] = Unit {0}
Differ f (x ∷ xs) = Each (λ y. f y ≢ f x) xs × Differ f xs

pub no_more : {A B : Type 0} (f : A → B) (xs : List A) (ys : List B) → Differ f xs → Each (λ x. IsIn (f x) ys) xs → length xs ≤ length ys
no_more f [] ys apart among = omega arith
no_more f (x ∷ xs) ys apart among =
    let t = taken (f x) ys among.0 in
    let shorter = t.shorter in
    let rest = no_more f xs t.rest apart.1 (each_both _ _ _ xs (λ y ne m. t.others (f y) ne m) apart.0 among.1) in
    omega arith
