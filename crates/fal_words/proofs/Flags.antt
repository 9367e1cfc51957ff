-- An option that takes no value is chosen as `true`.
use Rattle.std.proofs.Common.{◌≡◌, ℕ, true, false, cond, List, [], ◌∷◌, map, Option, Some, None, inl, inr, refl, sym, ap, ◌∙◌, subst}
use Rattle.std.specs.Prelude.{codes, find, ◌||◌}
use Rattle.std.specs.Str.{bytes_eq}
use Rattle.std.proofs.lemmas.Bool.{or_cases, true≢false}
use Rattle.std.proofs.lemmas.Slice.Eq.{bytes_eq-Decides}
use Rattle.fal_words.specs.Choices as form
use Rattle.fal_words.specs.Choices.{Choice, Form, alone, choices_after, choices_by, choices_with, form_of, mode_choice, takes_none, takes_value, true_choice, with_choice}

abbrev pub IsTrueFlag : Choice → Type 0
IsTrueFlag choice = takes_none choice.name ≡ true → choice.value ≡ codes "true"

abbrev pub AreTrueFlags : List Choice → Type 0
AreTrueFlags [] = Unit {0}
AreTrueFlags (choice ∷ choices) = IsTrueFlag choice × AreTrueFlags choices

abbrev HaveTrueFlags : Option (List Choice) → Type 0
HaveTrueFlags None = Unit {0}
HaveTrueFlags (Some choices) = AreTrueFlags choices

with_true_flags : (choice : Choice) (rest : Option (List Choice)) → IsTrueFlag choice → HaveTrueFlags rest → HaveTrueFlags (with_choice choice rest)
with_true_flags choice None is rest = tt
with_true_flags choice (Some choices) is rest = (is, rest)

-- no name is of both kinds
flag_takes_none : (name : List ℕ) → takes_none name ≡ true → takes_value name ≡ false
flag_takes_none name takes =
    elim (or_cases (bytes_eq (codes "chaos") name) (bytes_eq (codes "verify") name || false) takes) [
      | inl is ↦ ap takes_value (sym ((bytes_eq-Decides (codes "chaos") name).0 is))
      | inr is ↦ elim (or_cases (bytes_eq (codes "verify") name) false is) [
        | inl is ↦ ap takes_value (sym ((bytes_eq-Decides (codes "verify") name).0 is))
        | inr never ↦ absurd (true≢false (sym never))
      ]
    ]

option_is_no_flag : (name value : List ℕ) → takes_value name ≡ true → IsTrueFlag (record { name = name; value = value })
option_is_no_flag name value takes takes_none_either = absurd (true≢false (sym takes ∙ flag_takes_none name takes_none_either))

mode_is_no_flag : (word : List ℕ) → IsTrueFlag (mode_choice word)
mode_is_no_flag word takes = absurd (true≢false (sym takes))

modes_are_no_flags : (words : List (List ℕ)) → AreTrueFlags (map mode_choice words)
modes_are_no_flags [] = tt
modes_are_no_flags (word ∷ words) = (mode_is_no_flag word, modes_are_no_flags words)

alone_true : (name : List ℕ) (valued rest : Option (List Choice)) → (takes_value name ≡ true → HaveTrueFlags valued) → HaveTrueFlags rest → HaveTrueFlags (alone name valued rest)
alone_true name valued rest value_is rest_is =
    elim (takes_value name) as (λ b. takes_value name ≡ b → HaveTrueFlags (cond b valued (cond (takes_none name) (with_choice (true_choice name) rest) None))) [
      | true ↦ λ takes. value_is takes
      | false ↦ λ none. elim (takes_none name) as (λ b. HaveTrueFlags (cond b (with_choice (true_choice name) rest) None)) [
        | true ↦ with_true_flags (true_choice name) rest (λ takes. refl) rest_is
        | false ↦ tt
      ]
    ] refl

joined_true : (name value : List ℕ) (rest : Option (List Choice)) → HaveTrueFlags rest → HaveTrueFlags (cond (takes_value name) (with_choice (record { name = name; value = value }) rest) None)
joined_true name value rest rest_is =
    elim (takes_value name) as (λ b. takes_value name ≡ b → HaveTrueFlags (cond b (with_choice (record { name = name; value = value }) rest) None)) [
      | true ↦ λ takes. with_true_flags (record { name = name; value = value }) rest (option_is_no_flag name value takes) rest_is
      | false ↦ λ none. tt
    ] refl

word_true : (f : Form) (word : List ℕ) (words : List (List ℕ)) (valued : List ℕ → Option (List Choice)) (rest : Option (List Choice)) → ((name : List ℕ) → takes_value name ≡ true → HaveTrueFlags (valued name))
    → HaveTrueFlags rest → HaveTrueFlags (choices_by f word words valued rest)
word_true form.end word words valued rest value_is rest_is = modes_are_no_flags words
word_true (form.option name None) word words valued rest value_is rest_is = alone_true name (valued name) rest (value_is name) rest_is
word_true (form.option name (Some value)) word words valued rest value_is rest_is = joined_true name value rest rest_is
word_true form.plain word words valued rest value_is rest_is = with_true_flags (mode_choice word) rest (mode_is_no_flag word) rest_is
word_true form.other word words valued rest value_is rest_is = tt

value_true : (f : Form) (name word : List ℕ) (rest : Option (List Choice)) → takes_value name ≡ true → HaveTrueFlags rest → HaveTrueFlags (choices_with f name word rest)
value_true form.plain name word rest takes rest_is = with_true_flags (record { name = name; value = word }) rest (option_is_no_flag name word takes) rest_is
value_true form.end name word rest takes rest_is = tt
value_true (form.option other value) name word rest takes rest_is = tt
value_true form.other name word rest takes rest_is = tt

all_true : (words : List (List ℕ)) → HaveTrueFlags (choices_after None words) × ((name : List ℕ) → takes_value name ≡ true → HaveTrueFlags (choices_after (Some name) words))
all_true [] = (tt, λ name takes. tt)
all_true (word ∷ words) =
    let rest = all_true words in (
      word_true (form_of word) word words (λ name. choices_after (Some name) words) (choices_after None words) rest.1 rest.0,
      λ name takes. value_true (form_of word) name word (choices_after None words) takes rest.0,
    )

-- the choices of words
pub flags_are_true : (words : List (List ℕ)) (choices : List Choice) → choices_after None words ≡ Some choices → AreTrueFlags choices
flags_are_true words choices is = subst HaveTrueFlags is (all_true words).0

-- the choice of this name, where there is one
pub found_true : (name : List ℕ) (choices : List Choice) (choice : Choice) → takes_none name ≡ true → AreTrueFlags choices → find (λ (c : Choice). bytes_eq c.name name) choices ≡ Some choice
    → choice.value ≡ codes "true"
found_true name [] choice takes are found = absurd (cc)
found_true name (first ∷ rest) choice takes are found =
    elim (bytes_eq first.name name) as (λ b. bytes_eq first.name name ≡ b → cond b (Some first) (find (λ (c : Choice). bytes_eq c.name name) rest) ≡ Some choice → choice.value ≡ codes "true") [
      | true ↦ λ same here.
          let is : first ≡ choice = cc in
          ap (λ (c : Choice). c.value) (sym is) ∙ are.0 (ap takes_none ((bytes_eq-Decides first.name name).0 same) ∙ takes)
      | false ↦ λ other later. found_true name rest choice takes are.1 later
    ] refl found
