-- The seats of a new lock, one by one.
use Rattle.std.proofs.Common.{◌≡◌, ℕ, List, [], ◌∷◌, ◌++◌, map, Some, refl, sym, ap, subst}
use Rattle.std.specs.List.{All}
use Rattle.std.proofs.lemmas.List.Elements.{All-append, All-cons, All-head, All-map, All-nil, All-tail}
use Rattle.atomic_table.specs.Seated.{TableId}
use Rattle.fal_base.specs.declared.call.Config.{Config}
use Rattle.fal_base.specs.declared.event.Event.{Event}
use Rattle.fal_book.specs.Entries.{entries_of}
use Rattle.fal_book.specs.Sitting.{newcomer}
use Rattle.fal_story.specs.Actors.{actor_number}
use Rattle.book_runs.specs.Posts.{Seated, IsNewAt}

-- what holds of each item holds of the first
pub first_of : {A : Type 0} (P : A → Type 0) (x : A) (xs ys : List A) → ys ≡ x ∷ xs → All P ys → P x
first_of P x xs ys is h = All-head P x xs (subst (All P) is h)

-- and of those behind it
pub behind : {A : Type 0} (P : A → Type 0) (x : A) (xs ys : List A) → ys ≡ x ∷ xs → All P ys → All P xs
behind P x xs ys is h = All-tail P x xs (subst (All P) is h)

-- each seat of a lock round a book with no event is new
pub new_seats : (config c : Config) (es : List Event) (lock : TableId) (ns : List ℕ) (seats : List Seated) → seats ≡ map (newcomer actor_number c es lock) ns → c ≡ config → es ≡ [] → All (IsNewAt config lock) seats
new_seats config c es lock ns seats are same none =
    subst (All (IsNewAt config lock)) (sym are)
    (All-map (IsNewAt config lock) (newcomer actor_number c es lock) ns
    (λ k d below. (refl, record { setting = ap Some same; number = refl; seen = none; mine = ap (entries_of actor_number _) none })))

-- with one more at the end it holds of each
pub one_more : {A : Type 0} (P : A → Type 0) (x : A) (xs ys : List A) → ys ≡ xs ++ x ∷ [] → All P xs → P x → All P ys
one_more P x xs ys is h last = subst (All P) (sym is) (All-append P xs (x ∷ []) h (All-cons P x [] last (All-nil P)))
