-- What a command line asks for, by what its words choose.
use Rattle.std.specs.Prelude.{ℕ, Bool, true, false, not, ◌&&◌, ◌||◌, ◌==◌, List, codes, if◌then◌else◌, nat_le, Option, Some, None, is_some, option_map, option_and_then}
use Rattle.std.specs.Str.{bytes_eq}
use Rattle.fal_script.specs.Numbers.{number_up_to}
use Rattle.fal_words.specs.declared.asked.Asked.{Asked}
use Rattle.fal_words.specs.declared.asked.Mode.{Mode}
use Rattle.fal_words.specs.declared.asked.Mode.TheVariants.{Run, Serial, Generate, GenerateSerial}
use Rattle.fal_words.specs.declared.chosen.Chosen.{Chosen}
use Rattle.fal_words.specs.Choices.{Choice, choices_of, chosen, is_chosen}

-- ---- the texts that are chosen

-- what is chosen by each name
pub record Texts : Type 0 where
  pub mode : Option (List ℕ)
  pub batch : Option (List ℕ)
  pub seed : Option (List ℕ)
  pub size : Option (List ℕ)
  pub chaos : Bool
  pub verify : Bool

abbrev pub texts_of : List Choice → Texts
texts_of choices = record {
  mode = chosen (codes "mode") choices;
  batch = chosen (codes "batch") choices;
  seed = chosen (codes "seed") choices;
  size = chosen (codes "size") choices;
  chaos = is_chosen (codes "chaos") choices;
  verify = is_chosen (codes "verify") choices;
}

-- what words choose, by name
abbrev pub texts_chosen : List (List ℕ) → Option Texts
texts_chosen words = option_map texts_of (choices_of words)

abbrev pub texts_in : Chosen → Texts
texts_in c = record {
  mode = option_map (λ s. s.now) c.mode;
  batch = option_map (λ s. s.now) c.batch;
  seed = option_map (λ s. s.now) c.seed;
  size = option_map (λ s. s.now) c.size;
  chaos = c.chaos;
  verify = c.verify;
}

-- ---- what they ask for

abbrev pub mode_named : List ℕ → Option Mode
mode_named word =
    if bytes_eq word (codes "run") then Some Run
    else (if bytes_eq word (codes "serial") then Some Serial
    else (if bytes_eq word (codes "gen") then Some Generate
    else (if bytes_eq word (codes "gen-serial") then Some GenerateSerial else None)))

-- a number from `least` to `most`, of 1 to 20 decimal digits, or what stands for it where it is not chosen
abbrev pub number_chosen : ℕ → ℕ → ℕ → Option (List ℕ) → Option ℕ
number_chosen least most default None = Some default
number_chosen least most default (Some word) = option_and_then (λ n. if nat_le least n then Some n else None) (number_up_to most word)

-- the mode makes its script, by a seed and a size
abbrev pub makes_script : Mode → Bool
makes_script Generate = true
makes_script GenerateSerial = true
makes_script other = false

abbrev pub is_serial_mode : Mode → Bool
is_serial_mode Serial = true
is_serial_mode GenerateSerial = true
is_serial_mode other = false

-- a size is for a script that is made, chaos for a serial mode, and a seed for a script that is made or for chaos
abbrev pub go_together : Mode → Texts → Bool
go_together mode texts = (not (is_some texts.size) || makes_script mode)
    && (not texts.chaos || is_serial_mode mode)
    && (not (is_some texts.seed) || makes_script mode || texts.chaos)

abbrev pub asked_with : Texts → Mode → ℕ → ℕ → ℕ → Option Asked
asked_with texts mode batch seed size = if go_together mode texts then Some (record {
  mode = mode;
  batch = batch;
  seed = seed;
  size = size;
  chaos = texts.chaos;
  verify = texts.verify;
}) else None

-- a batch takes 1 call where none is chosen
abbrev pub asked_by : Texts → Option Asked
asked_by texts =
    option_and_then (λ mode. option_and_then (λ batch. option_and_then (λ seed. option_and_then (λ size. asked_with texts mode batch seed size)
    (number_chosen 1 9996 1000 texts.size))
    (number_chosen 0 18446744073709551615 1 texts.seed))
    (number_chosen 1 64 1 texts.batch))
    (option_and_then mode_named texts.mode)

-- ---- what is served so far

-- the serial mode, with batches of one call
abbrev pub is_served_mode : Mode → Bool
is_served_mode Serial = true
is_served_mode other = false

abbrev pub can_serve : Asked → Bool
can_serve asked = is_served_mode asked.mode && asked.batch == 1 && not asked.chaos && not asked.verify

-- what these words ask for, where they are in the grammar and that is served
abbrev pub asked_of : List (List ℕ) → Option Asked
asked_of words = option_and_then (λ asked. if can_serve asked then Some asked else None) (option_and_then asked_by (texts_chosen words))
