-- What a walk comes to, by the choices of its words.
use Rattle.std.proofs.Common.{◌≡◌, Bool, true, false, List, [], ◌∷◌, ◌++◌, map, Option, Some, None, refl, sym, ap, ◌∙◌, subst, append_assoc}
use Rattle.std.specs.Prelude.{◌&&◌, not}
use Rattle.std.proofs.lemmas.Bool.{true≢false}
use Rattle.clap.specs.Walk.{Row, has_row}
use Rattle.fal_words.specs.Choices.{Choice, with_choice}
use Rattle.fal_words.proofs.Rows.{are_fresh, row_of}

-- from these rows, which were had without a fault or not, the rest of a walk has no fault exactly where its words are choices, each made for the
-- first time. Then it ends with their rows
abbrev pub ComesTo : Bool → List Row → Option (List Choice) → Bool → List Row → Type 0
ComesTo so_far rows None clean left = clean ≡ false
ComesTo so_far rows (Some choices) clean left = (clean ≡ (so_far && are_fresh rows choices)) × (clean ≡ true → left ≡ rows ++ map row_of choices)

-- no walk that has a fault is clean
pub faulty : (rows left : List Row) (choices : Option (List Choice)) (clean : Bool) → clean ≡ false → ComesTo false rows choices clean left
faulty rows left None clean is = is
faulty rows left (Some choices) clean is = (is, λ is_clean. absurd (true≢false (sym is_clean ∙ is)))

-- a walk that had a fault is not clean
pub comes_faulty : (so_far clean : Bool) (rows left : List Row) (choices : Option (List Choice)) → so_far ≡ false → ComesTo so_far rows choices clean left → clean ≡ false
comes_faulty so_far clean rows left None fault is = is
comes_faulty so_far clean rows left (Some choices) fault is = is.0 ∙ ap (λ b. b && are_fresh rows choices) fault

-- the turn is clean where all was before
pub after_turn : (so_far turn later : Bool) (rows left : List Row) (choices : Option (List Choice)) → turn ≡ so_far → (so_far ≡ true → ComesTo true rows choices later left)
    → ComesTo so_far rows choices (turn && later) left
after_turn true turn later rows left choices is rest = subst (λ b. ComesTo true rows choices (b && later) left) (sym is) (rest refl)
after_turn false turn later rows left choices is rest = faulty rows left choices (turn && later) (ap (λ b. b && later) is)

chosen_again : (rows left : List Row) (choice : Choice) (rest : Option (List Choice)) (clean : Bool) → has_row choice.name rows ≡ true → clean ≡ false
    → ComesTo true rows (with_choice choice rest) clean left
chosen_again rows left choice None clean has is = is
chosen_again rows left choice (Some choices) clean has is = (
  is ∙ ap (λ b. not b && are_fresh (rows ++ row_of choice ∷ []) choices) (sym has),
  λ is_clean. absurd (true≢false (sym is_clean ∙ is)),
)

chosen_first : (rows left : List Row) (choice : Choice) (rest : Option (List Choice)) (clean : Bool) → has_row choice.name rows ≡ false
    → ComesTo true (rows ++ row_of choice ∷ []) rest clean left → ComesTo true rows (with_choice choice rest) clean left
chosen_first rows left choice None clean has is = is
chosen_first rows left choice (Some choices) clean has is = (
  is.0 ∙ ap (λ b. not b && are_fresh (rows ++ row_of choice ∷ []) choices) (sym has),
  λ is_clean. is.1 is_clean ∙ append_assoc rows (row_of choice ∷ []) (map row_of choices),
)

-- a choice more
pub after_choice : (so_far turn later : Bool) (rows left : List Row) (choice : Choice) (rest : Option (List Choice))
    → (so_far ≡ true → has_row choice.name rows ≡ false → (turn ≡ true) × ComesTo true (rows ++ row_of choice ∷ []) rest later left)
    → (so_far ≡ false → turn ≡ false) → (has_row choice.name rows ≡ true → (turn && later) ≡ false)
    → ComesTo so_far rows (with_choice choice rest) (turn && later) left
after_choice false turn later rows left choice rest first fault again = faulty rows left (with_choice choice rest) (turn && later) (ap (λ b. b && later) (fault refl))
after_choice true turn later rows left choice rest first fault again =
    elim (has_row choice.name rows) as (λ b. has_row choice.name rows ≡ b → ComesTo true rows (with_choice choice rest) (turn && later) left) [
      | true ↦ λ has. chosen_again rows left choice rest (turn && later) has (again has)
      | false ↦ λ has.
          let now = first refl has in
          chosen_first rows left choice rest (turn && later) has (subst (λ b. ComesTo true (rows ++ row_of choice ∷ []) rest (b && later) left) (sym now.0) now.1)
    ] refl
