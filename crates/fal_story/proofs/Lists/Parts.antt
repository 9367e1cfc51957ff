-- The parts of a listing, while they come.
use Rattle.std.proofs.Common.{◌≡◌, ◌⊎◌, inl, inr, ⊎_elim, ℕ, zero, suc, ◌+◌, true, cond, List, [], ◌∷◌, Option, Some, None, refl, ap, ◌∙◌, arith}
use Rattle.std.specs.Prelude.{slice_get, slice_set, is_none}
use Rattle.std.proofs.lemmas.List.Folds.{sum_by-replicate}
use Rattle.std.proofs.lemmas.List.Sums.{sum_by-cons}
use Rattle.std.proofs.lemmas.Option.{same_Some}
use Rattle.fal_client.specs.declared.parts.Part.{Part}
use Rattle.fal_client.specs.Parts.{is_missing, missing_count, no_parts}

abbrev count_of : Option Part → ℕ
count_of part = cond (is_none part) 1 0

counted : (part : Option Part) (parts : List (Option Part)) → missing_count (part ∷ parts) ≡ count_of part + missing_count parts
counted part parts = sum_by-cons count_of part parts

-- at first all are missing
pub none_counted : (nodes : ℕ) → missing_count (no_parts nodes) ≡ nodes
none_counted nodes = sum_by-replicate count_of nodes None ∙ omega arith

pub none_there : (nodes n : ℕ) (part : Part) → slice_get (no_parts nodes) n ≡ Some (Some part) → ⊥
none_there zero n part is = absurd (cc)
none_there (suc nodes) zero part is = absurd (cc)
none_there (suc nodes) (suc n) part is = none_there nodes n part is

-- a part that was missing is so no more
pub one_less : (parts : List (Option Part)) (n : ℕ) (part : Part) → is_missing parts n ≡ true → missing_count parts ≡ missing_count (slice_set parts n (Some part)) + 1
one_less [] n part missing = absurd (cc)
one_less (None ∷ parts) zero part missing = let before = counted None parts in let after = counted (Some part) parts in omega arith
one_less (Some other ∷ parts) zero part missing = absurd (cc)
one_less (other ∷ parts) (suc n) part missing = let before = counted other parts in let after = counted other (slice_set parts n (Some part)) in let rest = one_less parts n part missing in omega arith

-- each part that is there was there, or is the one that has come
pub part_there : (parts : List (Option Part)) (n m : ℕ) (part other : Part) → slice_get (slice_set parts n (Some part)) m ≡ Some (Some other) → ((n ≡ m) × (part ≡ other)) ⊎ (slice_get parts m ≡ Some (Some other))
part_there [] n m part other is = inr is
part_there (x ∷ parts) zero zero part other is = inl (refl, same_Some part other (same_Some (Some part) (Some other) is))
part_there (x ∷ parts) zero (suc m) part other is = inr is
part_there (x ∷ parts) (suc n) zero part other is = inr is
part_there (x ∷ parts) (suc n) (suc m) part other is = ⊎_elim (λ y. inl (ap suc y.0, y.1)) (λ y. inr y) (part_there parts n m part other is)
