-- The items of joined lists.
use Rattle.std.proofs.Common.{inl, inr, refl, List, [], ◌∷◌, ◌++◌}
use Rattle.fal_story.proofs.Lists.Members.{IsIn}

pub in_back : {A : Type 0} (xs ys : List A) (y : A) → IsIn y ys → IsIn y (xs ++ ys)
in_back [] ys y at = at
in_back (x ∷ xs) ys y at = inr (in_back xs ys y at)

pub in_last : {A : Type 0} (xs : List A) (x : A) → IsIn x (xs ++ x ∷ [])
in_last [] x = inl refl
in_last (y ∷ ys) x = inr (in_last ys x)
