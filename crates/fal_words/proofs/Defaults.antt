-- What the defaults of the options change.
use Rattle.std.proofs.Common.{◌≡◌, Bool, true, false, cond, List, [], ◌∷◌, ◌++◌, map, Option, Some, None, refl, sym, ap, ◌∙◌}
use Rattle.std.specs.Prelude.{codes, find, fold, is_some, option_map, option_and_then, slice_get, take, ◌||◌}
use Rattle.std.specs.Option.{option_or}
use Rattle.std.specs.Str.{bytes_eq}
use Rattle.std.proofs.lemmas.Bool.{true≢false}
use Rattle.std.proofs.lemmas.List.Folds.{find-append}
use Rattle.clap.specs.Faults.{default_fault, defaults_fault, given_default_fault}
use Rattle.clap.specs.Walk.{Row, Rule, Text, default_rows, first_of, has_row, is_empty, more_values, one_of, reading_by, with_default, row_text}
use Rattle.clap.specs.Values.{bool_text}
use Rattle.clap.specs.declared.builder.value_parser.Reading.TheVariants.{AsWritten}
use Rattle.clap.specs.declared.parser.matches.ValueSource.TheVariants.{DefaultValue}
use Rattle.fal_words.specs.Choices.{Choice, chosen, is_chosen, takes_none}
use Rattle.fal_words.specs.Matches.{flag_rule}
use Rattle.fal_words.proofs.Falcon.{line_shape}
use Rattle.fal_words.proofs.Flags.{AreTrueFlags, found_true}
use Rattle.fal_words.proofs.Rows.{at_row_none, itself, row_found, row_of}
use Rattle.clap.specs.Simple.{filled}

-- ---- no default has a fault

abbrev pub HaveGoodDefaults : List Rule → Type 0
HaveGoodDefaults [] = Unit {0}
HaveGoodDefaults (a ∷ rules) = (given_default_fault a a.defaults ≡ []) × HaveGoodDefaults rules

good_default : (rows : List Row) (a : Rule) → given_default_fault a a.defaults ≡ [] → default_fault rows a ≡ []
good_default rows a is = elim (has_row a.id rows || is_empty a.defaults) as (λ b. cond b [] (given_default_fault a a.defaults) ≡ []) [ true ↦ refl | false ↦ is ]

pub good_defaults : (rows : List Row) (rules : List Rule) → HaveGoodDefaults rules → defaults_fault rows rules ≡ []
unfolding defaults_fault
good_defaults rows [] are = refl
good_defaults rows (a ∷ rules) are = rw (good_default rows a are.0) (good_defaults (with_default rows a) rules are.1)

-- ---- the rows with the defaults

abbrev is_of : Text → Row → Bool
is_of name r = bytes_eq r.id name

no_default : (rows : List Row) (a : Rule) → a.defaults ≡ [] → with_default rows a ≡ rows
no_default rows a none = elim (has_row a.id rows) as (λ b. cond b rows (default_rows a.id (reading_by a) a.defaults rows) ≡ rows) [ true ↦ refl | false ↦ rw none refl ]

-- the row of a flag that was not given
abbrev false_row : Text → Row
false_row name = record { id = name; values = codes "false" ∷ []; count = None; source = Some DefaultValue; reading = AsWritten }

abbrev built_flag : Text → Rule
built_flag name = filled (flag_rule name)

not_given : (rows : List Row) (name : Text) → has_row name rows ≡ false → with_default rows (built_flag name) ≡ rows ++ false_row name ∷ []
not_given rows name none = rw none (at_row_none name (more_values DefaultValue (codes "false" ∷ [])) (false_row name ∷ []) rows none)

or_none : (o : Option Row) → option_or o None ≡ o
or_none None = refl
or_none (Some r) = refl

-- the default of a flag changes no other row
other_row : (rows : List Row) (flag name : Text) → bytes_eq flag name ≡ false → find (is_of name) (with_default rows (built_flag flag)) ≡ find (is_of name) rows
other_row rows flag name other =
    elim (has_row flag rows) as (λ b. has_row flag rows ≡ b → find (is_of name) (with_default rows (built_flag flag)) ≡ find (is_of name) rows) [
      | true ↦ λ has. rw has refl
      | false ↦ λ none.
          ap (find (is_of name)) (not_given rows flag none) ∙ find-append (is_of name) rows (false_row flag ∷ []) ∙ ap (λ b. option_or (find (is_of name) rows) (cond b (Some (false_row flag)) None)) other
          ∙ or_none (find (is_of name) rows)
    ] refl

found_row : (name : Text) (rows : List Row) (fallback : Option Row) → has_row name rows ≡ true → option_or (find (is_of name) rows) fallback ≡ find (is_of name) rows
found_row name [] fallback has = absurd (true≢false (sym has))
found_row name (r ∷ rows) fallback has =
    elim (bytes_eq r.id name) as (λ b. (b || has_row name rows) ≡ true → option_or (cond b (Some r) (find (is_of name) rows)) fallback ≡ cond b (Some r) (find (is_of name) rows)) [
      | true ↦ λ here. refl
      | false ↦ λ later. found_row name rows fallback later
    ] has

-- the default of a flag is its row, where it has none
own_row : (rows : List Row) (flag : Text) → find (is_of flag) (with_default rows (built_flag flag)) ≡ option_or (find (is_of flag) rows) (Some (false_row flag))
own_row rows flag =
    elim (has_row flag rows) as (λ b. has_row flag rows ≡ b → find (is_of flag) (with_default rows (built_flag flag)) ≡ option_or (find (is_of flag) rows) (Some (false_row flag))) [
      | true ↦ λ has. rw has (sym (found_row flag rows (Some (false_row flag)) has))
      | false ↦ λ none.
          ap (find (is_of flag)) (not_given rows flag none) ∙ find-append (is_of flag) rows (false_row flag ∷ []) ∙ ap (λ b. option_or (find (is_of flag) rows) (cond b (Some (false_row flag)) None)) (itself flag)
    ] refl

abbrev pub HaveNoDefaults : List Rule → Type 0
HaveNoDefaults [] = Unit {0}
HaveNoDefaults (a ∷ rules) = (a.defaults ≡ []) × HaveNoDefaults rules

no_defaults : (rows : List Row) (rules : List Rule) → HaveNoDefaults rules → fold with_default rows rules ≡ rows
no_defaults rows [] none = refl
no_defaults rows (a ∷ rules) none = ap (λ (rs : List Row). fold with_default rs rules) (no_default rows a none.0) ∙ no_defaults rows rules none.1

-- the rows of choices, with the defaults
abbrev pub finished_rows : List Choice → List Row
finished_rows choices = fold with_default (map row_of choices) line_shape.rules

-- only the two flags have defaults
two_defaults : (choices : List Choice) → finished_rows choices ≡ with_default (with_default (map row_of choices) (built_flag (codes "chaos"))) (built_flag (codes "verify"))
two_defaults choices =
    ap (λ (rows : List Row). with_default (with_default rows (built_flag (codes "chaos"))) (built_flag (codes "verify")))
    (no_defaults (map row_of choices) (take 4 line_shape.rules) (refl, (refl, (refl, (refl, tt)))))

-- ---- what is looked up

abbrev is_named : Text → Choice → Bool
is_named name choice = bytes_eq choice.name name

value_of_row : (o : Option Choice) → option_and_then (λ (r : Row). slice_get r.values 0) (option_map row_of o) ≡ option_map (λ (choice : Choice). choice.value) o
value_of_row None = refl
value_of_row (Some choice) = refl

-- the first value of an argument that is no flag
pub value_found : (name : Text) (choices : List Choice) → bytes_eq (codes "chaos") name ≡ false → bytes_eq (codes "verify") name ≡ false → first_of name (finished_rows choices) ≡ chosen name choices
value_found name choices no_chaos no_verify =
    let rows = map row_of choices in
    ap (option_and_then (λ (r : Row). slice_get r.values 0))
    (ap (find (is_of name)) (two_defaults choices) ∙ other_row (with_default rows (built_flag (codes "chaos"))) (codes "verify") name no_verify ∙ other_row rows (codes "chaos") name no_chaos ∙ row_found name choices)
    ∙ value_of_row (find (is_named name) choices)

is_chosen_found : (name : Text) (choices : List Choice) → is_chosen name choices ≡ is_some (find (is_named name) choices)
is_chosen_found name [] = refl
is_chosen_found name (choice ∷ choices) =
    elim (bytes_eq choice.name name) as (λ b. (b || is_chosen name choices) ≡ is_some (cond b (Some choice) (find (is_named name) choices))) [ true ↦ refl | false ↦ is_chosen_found name choices ]

text_of_flag : (flag : Text) (choices : List Choice) → takes_none flag ≡ true → AreTrueFlags choices
    → option_and_then row_text (option_or (option_map row_of (find (is_named flag) choices)) (Some (false_row flag))) ≡ Some (bool_text (is_chosen flag choices))
text_of_flag flag choices takes are =
    go (find (is_named flag) choices) refl ∙ ap (λ b. Some (bool_text b)) (sym (is_chosen_found flag choices))
  where
    go : (o : Option Choice) → find (is_named flag) choices ≡ o → option_and_then row_text (option_or (option_map row_of o) (Some (false_row flag))) ≡ Some (bool_text (is_some o))
    go None found = refl
    go (Some choice) found = ap Some (found_true flag choices choice takes are found)

-- the text of each flag
pub chaos_found : (choices : List Choice) → AreTrueFlags choices → one_of (codes "chaos") (finished_rows choices) ≡ Some (bool_text (is_chosen (codes "chaos") choices))
chaos_found choices are =
    let rows = map row_of choices in
    ap (option_and_then row_text)
    (ap (find (is_of (codes "chaos"))) (two_defaults choices) ∙ other_row (with_default rows (built_flag (codes "chaos"))) (codes "verify") (codes "chaos") refl ∙ own_row rows (codes "chaos")
    ∙ ap (λ (o : Option Row). option_or o (Some (false_row (codes "chaos")))) (row_found (codes "chaos") choices))
    ∙ text_of_flag (codes "chaos") choices refl are

pub verify_found : (choices : List Choice) → AreTrueFlags choices → one_of (codes "verify") (finished_rows choices) ≡ Some (bool_text (is_chosen (codes "verify") choices))
verify_found choices are =
    let rows = map row_of choices in
    ap (option_and_then row_text)
    (ap (find (is_of (codes "verify"))) (two_defaults choices) ∙ own_row (with_default rows (built_flag (codes "chaos"))) (codes "verify")
    ∙ ap (λ (o : Option Row). option_or o (Some (false_row (codes "verify")))) (other_row rows (codes "chaos") (codes "verify") refl ∙ row_found (codes "verify") choices))
    ∙ text_of_flag (codes "verify") choices refl are
