-- The command line as `clap` reads it, and what it finds.
use Rattle.std.specs.Prelude.{◌≡◌, List, ℕ, [], ◌∷◌, Some, codes, fold, true}
use Rattle.clap.specs.Matches.{first_value, one_text}
use Rattle.clap.specs.Simple.{App, new_app, new_rule, on_top, with_rule}
use Rattle.clap.specs.Values.{bool_text}
use Rattle.clap.specs.Walk.{Rule}
use Rattle.clap.specs.declared.builder.action.ArgAction.TheVariants.{SetTrue}
use Rattle.clap.specs.declared.parser.matches.Found.{Found}
use Rattle.fal_words.specs.Choices.{Choice, choices_of, chosen, is_chosen}

-- an option that takes a text, and one that takes none
abbrev pub option_rule : List ℕ → Rule
option_rule name = record (new_rule name) { long = Some name }

abbrev pub flag_rule : List ℕ → Rule
flag_rule name = record (new_rule name) { long = Some name; action = Some SetTrue }

-- the words begin after the name of the program, and no option asks for help
abbrev pub bare_app : App
bare_app = on_top (λ shape. record shape { no_binary_name = true; disable_help_flag = true }) (new_app (codes "falcon"))

-- the command line: the mode is the one word that is no option
abbrev pub falcon_app : App
falcon_app = fold with_rule bare_app (new_rule (codes "mode") ∷ option_rule (codes "batch") ∷ option_rule (codes "seed") ∷ option_rule (codes "size")
    ∷ flag_rule (codes "chaos") ∷ flag_rule (codes "verify") ∷ [])

-- what was found by the name of an option that takes none
abbrev pub IsFlagFound : Found → List ℕ → List Choice → Type 0
IsFlagFound found name choices = one_text found name ≡ Some (bool_text (is_chosen name choices))

-- what was found is what these choices are
pub record HasFound (found : Found) (choices : List Choice) : Type 0 where
  pub mode : first_value found (codes "mode") ≡ chosen (codes "mode") choices
  pub batch : first_value found (codes "batch") ≡ chosen (codes "batch") choices
  pub seed : first_value found (codes "seed") ≡ chosen (codes "seed") choices
  pub size : first_value found (codes "size") ≡ chosen (codes "size") choices
  pub chaos : IsFlagFound found (codes "chaos") choices
  pub verify : IsFlagFound found (codes "verify") choices

-- what was found is what these words choose
abbrev pub AreFound : Found → List (List ℕ) → Type 0
AreFound found words = (choices : List Choice) × ((choices_of words ≡ Some choices) × HasFound found choices)
