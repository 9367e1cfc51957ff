-- The rows that `clap` keeps of choices, where nothing is chosen twice.
use Rattle.std.proofs.Common.{◌≡◌, ℕ, Bool, true, false, List, [], ◌∷◌, ◌++◌, map, Some, None, refl, sym, ap, ap₂, ◌∙◌, append-nil}
use Rattle.std.specs.Prelude.{◌&&◌, ◌||◌, not, find, option_map}
use Rattle.std.specs.List.{list_all}
use Rattle.std.specs.Str.{bytes_eq}
use Rattle.std.proofs.Math.Bool.{or-false, and-false}
use Rattle.std.proofs.lemmas.Bool.{or_parts}
use Rattle.std.proofs.lemmas.Bool.Decides.{same_from_decides}
use Rattle.std.proofs.lemmas.List.Folds.{list_any-append}
use Rattle.std.proofs.lemmas.Slice.Eq.{bytes_eq-Decides}
use Rattle.clap.specs.Walk.{Row, Text, at_row, has_row, more_values, with_values, without}
use Rattle.clap.specs.declared.builder.value_parser.Reading.TheVariants.{AsWritten}
use Rattle.clap.specs.declared.parser.matches.ValueSource.TheVariants.{CommandLine}
use Rattle.clap.proofs.WalkLemmas.{find-map, list_any-map}
use Rattle.fal_words.specs.Choices.{Choice, are_distinct, is_chosen}

abbrev pub row_of : Choice → Row
row_of choice = record { id = choice.name; values = choice.value ∷ []; count = None; source = Some CommandLine; reading = AsWritten }

-- ---- a choice more

pub at_row_none : (id : Text) (change : Row → List Row) (missing rows : List Row) → has_row id rows ≡ false → at_row id change missing rows ≡ rows ++ missing
at_row_none id change missing [] none = refl
at_row_none id change missing (r ∷ rs) none =
    let parts = or_parts (bytes_eq r.id id) (has_row id rs) none in
    rw parts.0 (ap (λ (xs : List Row). r ∷ xs) (at_row_none id change missing rs parts.1))

-- what is chosen for the first time has its row at the end
pub row_added : (name value : Text) (rows : List Row) → has_row name rows ≡ false
    → with_values name AsWritten CommandLine (value ∷ []) (without name rows) ≡ rows ++ row_of (record { name = name; value = value }) ∷ []
row_added name value rows none =
    let kept : without name rows ≡ rows = at_row_none name (λ _. []) [] rows none ∙ append-nil rows in
    ap (with_values name AsWritten CommandLine (value ∷ [])) kept
    ∙ at_row_none name (more_values CommandLine (value ∷ [])) (row_of (record { name = name; value = value }) ∷ []) rows none

pub has_row-added : (id : Text) (rows : List Row) (choice : Choice) → has_row id (rows ++ row_of choice ∷ []) ≡ (has_row id rows || bytes_eq choice.name id)
has_row-added id rows choice =
    list_any-append (λ (r : Row). bytes_eq r.id id) rows (row_of choice ∷ []) ∙ ap (λ b. has_row id rows || b) (or-false (bytes_eq choice.name id))

-- ---- choices that are made for the first time

-- none of the choices has a row, and none is there twice
abbrev pub are_fresh : List Row → List Choice → Bool
are_fresh rows [] = true
are_fresh rows (choice ∷ choices) = not (has_row choice.name rows) && are_fresh (rows ++ row_of choice ∷ []) choices

abbrev none_in : List Row → List Choice → Bool
none_in rows choices = list_all (λ (choice : Choice). not (has_row choice.name rows)) choices

bytes_eq-swap : (a b : List ℕ) → bytes_eq a b ≡ bytes_eq b a
bytes_eq-swap a b =
    let back = bytes_eq-Decides b a in
    same_from_decides (bytes_eq a b) (bytes_eq b a) (bytes_eq-Decides a b) ((λ is. sym (back.0 is)), (λ is. back.1 (sym is)))

pub itself : (a : List ℕ) → bytes_eq a a ≡ true
itself a = (bytes_eq-Decides a a).1 refl

none_of_both : (p q n i : Bool) → (not (p || q) && (n && not i)) ≡ ((not p && n) && not (q || i))
none_of_both true q n i = refl
none_of_both false true n i = sym (and-false n)
none_of_both false false n i = refl

none_in-added : (rows : List Row) (choice : Choice) (choices : List Choice)
    → none_in (rows ++ row_of choice ∷ []) choices ≡ (none_in rows choices && not (is_chosen choice.name choices))
none_in-added rows choice [] = refl
none_in-added rows choice (other ∷ choices) =
    ap₂ (λ (a b : Bool). not a && b) (has_row-added other.name rows choice ∙ ap (λ b. has_row other.name rows || b) (bytes_eq-swap choice.name other.name)) (none_in-added rows choice choices)
    ∙ none_of_both (has_row other.name rows) (bytes_eq other.name choice.name) (none_in rows choices) (is_chosen choice.name choices)

regrouped : (a b c d : Bool) → (a && ((b && c) && d)) ≡ ((a && b) && (c && d))
regrouped true true c d = refl
regrouped true false c d = refl
regrouped false b c d = refl

fresh_by_both : (rows : List Row) (choices : List Choice) → are_fresh rows choices ≡ (none_in rows choices && are_distinct choices)
fresh_by_both rows [] = refl
fresh_by_both rows (choice ∷ choices) =
    ap (λ b. not (has_row choice.name rows) && b) (fresh_by_both (rows ++ row_of choice ∷ []) choices ∙ ap (λ b. b && are_distinct choices) (none_in-added rows choice choices))
    ∙ regrouped (not (has_row choice.name rows)) (none_in rows choices) (not (is_chosen choice.name choices)) (are_distinct choices)

none_in_none : (choices : List Choice) → none_in [] choices ≡ true
none_in_none [] = refl
none_in_none (choice ∷ choices) = none_in_none choices

-- where there is no row yet
pub fresh_at_first : (choices : List Choice) → are_fresh [] choices ≡ are_distinct choices
fresh_at_first choices = fresh_by_both [] choices ∙ ap (λ b. b && are_distinct choices) (none_in_none choices)

-- ---- looked up

pub row_found : (name : Text) (choices : List Choice) → find (λ (r : Row). bytes_eq r.id name) (map row_of choices) ≡ option_map row_of (find (λ (choice : Choice). bytes_eq choice.name name) choices)
row_found name choices = sym (find-map (λ (r : Row). bytes_eq r.id name) row_of choices)

pub has_row_chosen : (name : Text) (choices : List Choice) → has_row name (map row_of choices) ≡ is_chosen name choices
has_row_chosen name choices = sym (list_any-map (λ (r : Row). bytes_eq r.id name) row_of choices)
