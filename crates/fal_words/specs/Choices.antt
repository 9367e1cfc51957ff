-- What the words of a command line choose: a mode, and options by their names.
use Rattle.std.specs.Prelude.{ℕ, Bool, true, not, ◌&&◌, ◌==◌, List, [], ◌∷◌, map, codes, if◌then◌else◌, Option, Some, None, option_map, option_and_then, find}
use Rattle.std.specs.List.{list_any, before_first, after_first}
use Rattle.std.specs.Str.{bytes_eq}

-- ---- one word

-- what a word is by itself: `--`; an option, by its name and what follows its `=`; a plain word, which does not begin with a hyphen (45) or is
-- one; or another one, as `-x`
pub data Form : Type 0 where
  end : Form
  option : List ℕ → Option (List ℕ) → Form
  plain : Form
  other : Form

-- `NAME` or `NAME=VALUE`, where an equals sign is 61
abbrev pub named : List ℕ → Form
named text = option (before_first (λ b. b == 61) text) (if list_any (λ b. b == 61) text then Some (after_first (λ b. b == 61) text) else None)

-- what a word is, by what follows its two hyphens, or its first one
abbrev pub after_two : List ℕ → Form
after_two [] = end
after_two (b ∷ bs) = named (b ∷ bs)

abbrev pub after_one : List ℕ → Form
after_one [] = plain
after_one (b ∷ bs) = if b == 45 then after_two bs else other

abbrev pub form_of : List ℕ → Form
form_of [] = plain
form_of (b ∷ bs) = if b == 45 then after_one bs else plain

-- ---- the choices

-- what is chosen by a name. The mode has the name `mode`, and an option that takes no value is `true`
pub record Choice : Type 0 where
  pub name : List ℕ
  pub value : List ℕ

abbrev pub mode_choice : List ℕ → Choice
mode_choice word = record { name = codes "mode"; value = word }

abbrev pub true_choice : List ℕ → Choice
true_choice name = record { name = name; value = codes "true" }

-- the options that take a value, and those that take none
abbrev pub takes_value : List ℕ → Bool
takes_value name = list_any (λ option. bytes_eq option name) (codes "batch" ∷ codes "seed" ∷ codes "size" ∷ [])

abbrev pub takes_none : List ℕ → Bool
takes_none name = list_any (λ option. bytes_eq option name) (codes "chaos" ∷ codes "verify" ∷ [])

abbrev pub with_choice : Choice → Option (List Choice) → Option (List Choice)
with_choice choice rest = option_map (λ choices. choice ∷ choices) rest

-- an option alone: its value is the next word, or it takes none
abbrev pub alone : List ℕ → Option (List Choice) → Option (List Choice) → Option (List Choice)
alone name valued rest = if takes_value name then valued else (if takes_none name then with_choice (true_choice name) rest else None)

-- the choices of a word of this form and of the words after it. After `--` each word is a mode
abbrev pub choices_by : Form → List ℕ → List (List ℕ) → (List ℕ → Option (List Choice)) → Option (List Choice) → Option (List Choice)
choices_by end word words valued rest = Some (map mode_choice words)
choices_by (option name None) word words valued rest = alone name (valued name) rest
choices_by (option name (Some value)) word words valued rest = if takes_value name then with_choice (record { name = name; value = value }) rest else None
choices_by plain word words valued rest = with_choice (mode_choice word) rest
choices_by other word words valued rest = None

-- the choices of an option whose value is this word, and of the words after it. No option is a value
abbrev pub choices_with : Form → List ℕ → List ℕ → Option (List Choice) → Option (List Choice)
choices_with plain name value rest = with_choice (record { name = name; value = value }) rest
choices_with other_form name value rest = None

-- the choices of words, after an option that has no value yet where there is one
abbrev pub choices_after : Option (List ℕ) → List (List ℕ) → Option (List Choice)
choices_after None [] = Some []
choices_after (Some name) [] = None
choices_after None (word ∷ words) = choices_by (form_of word) word words (λ name. choices_after (Some name) words) (choices_after None words)
choices_after (Some name) (word ∷ words) = choices_with (form_of word) name word (choices_after None words)

-- ---- by their names

abbrev pub is_chosen : List ℕ → List Choice → Bool
is_chosen name choices = list_any (λ choice. bytes_eq choice.name name) choices

-- nothing is chosen twice
abbrev pub are_distinct : List Choice → Bool
are_distinct [] = true
are_distinct (choice ∷ choices) = not (is_chosen choice.name choices) && are_distinct choices

-- what the words choose, where they choose nothing twice
abbrev pub choices_of : List (List ℕ) → Option (List Choice)
choices_of words = option_and_then (λ choices. if are_distinct choices then Some choices else None) (choices_after None words)

abbrev pub chosen : List ℕ → List Choice → Option (List ℕ)
chosen name choices = option_map (λ choice. choice.value) (find (λ choice. bytes_eq choice.name name) choices)
