-- What holds of each item of a list, as the library says it.
use Rattle.std.proofs.Common.{◌≡◌, ℕ, zero, suc, List, [], ◌∷◌, Some, subst}
use Rattle.std.specs.Prelude.{slice_get}
use Rattle.std.specs.List.{All}
use Rattle.std.proofs.lemmas.List.Elements.{All-nil, All-cons, All-head, All-tail}
use Rattle.std.proofs.lemmas.Option.{same_Some}
use Rattle.fal_story.proofs.Lists.Each.{Each}

pub all_of_each : {A : Type 0} (P : A → Type 0) (xs : List A) → Each P xs → All P xs
all_of_each P [] h = All-nil P
all_of_each P (x ∷ xs) h = All-cons P x xs h.0 (all_of_each P xs h.1)

pub each_of_std : {A : Type 0} (P : A → Type 0) (xs : List A) → All P xs → Each P xs
each_of_std P [] h = tt
each_of_std P (x ∷ xs) h = (All-head P x xs h, each_of_std P xs (All-tail P x xs h))

pub all_at : {A : Type 0} (P : A → Type 0) (xs : List A) (k : ℕ) (x : A) → All P xs → slice_get xs k ≡ Some x → P x
all_at P [] k x h is = absurd (cc)
all_at P (y ∷ ys) zero x h is = subst P (same_Some y x is) (All-head P y ys h)
all_at P (y ∷ ys) (suc k) x h is = all_at P ys k x (All-tail P y ys h) is
