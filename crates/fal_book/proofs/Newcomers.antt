-- The seats of a new lock.
use Rattle.std.proofs.Common.{◌≡◌, ℕ, ◌+◌, ◌-◌, ◌<◌, List, [], ◌∷◌, ◌++◌, map, sym, refl, ap, ◌∙◌, arith}
use Rattle.std.specs.Prelude.{All, Option, Some, None}
use Rattle.std.specs.List.{range_with_len}
use Rattle.std.proofs.lemmas.List.FromFn.{map-range_with_len_more}
use Rattle.std.proofs.lemmas.List.Elements.{All-same, All-map}
use Rattle.atomic_table.specs.Table.{Me}
use Rattle.atomic_table.specs.Seated.{TableId}
use Rattle.atomic_table.specs.declared.shared.Seat.{Seat}
use Rattle.fal_book.specs.declared.view.Known.{Known}
use Rattle.fal_book.specs.Entries.{entries_of}
use Rattle.fal_book.specs.Steps.{view_after_split, new_view}
use Rattle.fal_book.specs.Moves.{MayMake}
use Rattle.fal_book.specs.Sitting.{Sitting, sitting_of, seen_in, mine_in, setting_in, Rests, first_view, newcomer, Knows}

module _ {B E C : Type 0} (entries : B → List E) (setting : B → C) (actor : E → ℕ) (ok : C → List E → Type 0) (c : C) (es : List E) (made : ℕ) (me : Me (Option B) (Option (Known E C)))
    (is : me ≡ (Some (first_view actor c es made), [])) where
  pub may_make : (actors : ℕ) → made < actors → MayMake actors me
  may_make actors h = (first_view actor c es made, is, refl, refl, refl, h)

  pub first_sits : ok c es → (k : C) × ((me.1 ≡ []) × ((v : Known E C) × (me.0 ≡ Some v) × Rests actor ok v 0 k 0))
  first_sits sound = (c, ((λ i. (is i).1), (first_view actor c es made, (λ i. (is i).0), record { number = refl; setting = refl; ticket = refl; holding = refl; sound = sound; mine = refl; looked_at = omega arith })))

  pub new_sits : (you : Me (Option B) (Option (Known E C))) → you ≡ (new_view entries setting actor me.0, []) → ok c es → (k : C) × ((you.1 ≡ []) × ((v : Known E C) × (you.0 ≡ Some v) × Rests actor ok v made k 0))
  new_sits you at sound = let e = at ∙ (λ i. (new_view entries setting actor (is i).0, [])) in (
    c,
    (
      (λ i. (e i).1),
      (
        record { number = made; setting = c; seen = es; mine = entries_of actor made es; ticket = None; holding = None; ended = []; opening = []; made = 0 },
        (λ i. (e i).0),
        record { number = refl; setting = refl; ticket = refl; holding = refl; sound = sound; mine = refl; looked_at = omega arith },
      ),
    ),
  )

  pub next_first : (after : Me (Option B) (Option (Known E C))) → after ≡ (view_after_split entries setting actor me.0, me.1) → after ≡ (Some (first_view actor c es (made + 1)), [])
  next_first after at = at ∙ (λ i. (view_after_split entries setting actor (is i).0, (is i).1))

  pub new_newcomer : (s : Seat (Option B) (Option (Known E C))) (lock : TableId) → s.table_id ≡ lock → s.me ≡ (new_view entries setting actor me.0, []) → sitting_of s made 0 ≡ newcomer actor c es lock made
  new_newcomer s lock here at = let e = at ∙ (λ i. (new_view entries setting actor (is i).0, [])) in
      λ i. record { lock = here i; number = made; setting = setting_in (e i).0; seen = seen_in (e i).0; mine = mine_in (e i).0; looked = 0 }

pub first_newcomer : {B E C : Type 0} (actor : E → ℕ) (c : C) (es : List E) (made : ℕ) (s : Seat (Option B) (Option (Known E C))) (lock : TableId) → s.table_id ≡ lock → s.me ≡ (Some (first_view actor c es made), [])
    → sitting_of s 0 0 ≡ newcomer actor c es lock 0
first_newcomer actor c es made s lock here e = λ i. record { lock = here i; number = 0; setting = setting_in (e i).0; seen = seen_in (e i).0; mine = mine_in (e i).0; looked = 0 }

-- one more number in a list of them from 1 on
pub one_more : {X : Type 0} (f : ℕ → X) (xs ys : List X) (k : ℕ) (x : X) → 0 < k → xs ≡ map f (range_with_len 1 (k - 1)) → ys ≡ xs ++ x ∷ [] → x ≡ f k → ys ≡ map f (range_with_len 1 (k + 1 - 1))
one_more f xs ys k x some_way before more is =
    let here : 1 + (k - 1) ≡ k = omega arith in
    more ∙ (ap (λ z. z ++ x ∷ []) before ∙ (ap (λ z. map f (range_with_len 1 (k - 1)) ++ z ∷ []) is ∙ (sym (map-range_with_len_more f 1 (k - 1) k here) ∙ ap (λ z. map f (range_with_len 1 z)) (omega arith))))

-- each seat of a new lock knows what a seat between two calls knows
pub all_know : {E C : Type 0} (actor : E → ℕ) (ok : C → List E → Type 0) (c : C) (es : List E) (lock : TableId) (numbers : List ℕ) (seats : List (Sitting E C)) → seats ≡ map (newcomer actor c es lock) numbers → ok c es
    → All (Knows actor ok) seats
all_know actor ok c es lock numbers seats is sound = All-same (Knows actor ok) seats (map (newcomer actor c es lock) numbers) is
    (All-map (Knows actor ok) (newcomer actor c es lock) numbers (λ k d lt. record { sound = (c, refl, sound); mine = refl; looked = omega arith }))
