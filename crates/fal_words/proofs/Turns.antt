-- One word of the walk.
use Rattle.std.proofs.Common.{◌≡◌, ℕ, Bool, true, false, cond, List, [], ◌∷◌, Option, Some, None, refl, ap, ◌∙◌}
use Rattle.std.specs.Prelude.{◌&&◌, not, codes, fold, if◌then◌else◌}
use Rattle.std.proofs.Math.Bool.{and-false, and-true, and_assoc}
use Rattle.clap.specs.Faults.{bundle_fault, flags_fault, long_fault, react_fault, settle_fault, step_fault, turn_fault, use_fault, walk_fault, word_fault}
use Rattle.clap.specs.Kinds.{or_else}
use Rattle.clap.specs.Simple.{Shape}
use Rattle.clap.specs.Walk.{Held, Row, Rule, Text, Waiting, Walk, arg_by_long, has_row, idle, option, positional, reacted, settled, subcommand_met, takes_values, walked, word_met}
use Rattle.clap.specs.declared.error.kind.ErrorKind.TheVariants as kind
use Rattle.fal_words.specs.Choices as choices
use Rattle.fal_words.specs.Choices.{takes_none, takes_value}
use Rattle.fal_words.proofs.Forms.{HasFlags, IsRead}
use Rattle.fal_words.proofs.Line.{HasFlag, HasValued, IsLine}
use Rattle.fal_words.proofs.Rows.{itself}
use Rattle.fal_words.proofs.Uses.{clean-or_else, flag_clean, flag_takes, is_clean, valued_clean, valued_once, valued_takes}

-- what is held between two words
abbrev pub holding : List Row → Option (Text × List Text) → Held
holding rows pending = record { rows = rows; pending = pending; skip = 0 }

-- where the walk stands between two words
abbrev pub standing : Held → Waiting → ℕ → Bool → Walk
standing h waiting position is_trailing = record { held = h; waiting = waiting; position = position; is_trailing = is_trailing; stopped = None }

-- the next position of a mode
abbrev pub place : Bool → ℕ
place seen = cond seen 2 1

module _ (s : Shape) where
  -- the use of what is pending has no fault
  abbrev pub is_settled : Held → Bool
  is_settled h = is_clean (settle_fault s.rules s.args_override_self h)

  -- the rest of the walk has no fault
  abbrev pub is_clean_from : Walk → List Text → Bool
  is_clean_from w words = is_clean (walk_fault s [] w words) && is_settled (fold (walked s.rules []) w words).held

  -- the rows in the end
  abbrev pub rows_from : Walk → List Text → List Row
  rows_from w words = (settled s.rules (fold (walked s.rules []) w words).held).rows

  abbrev pub is_clean_turn : Walk → Text → Bool
  is_clean_turn w word = is_clean (turn_fault s [] w word)

  pub clean_in_turn : (w : Walk) (word : Text) (words : List Text) → is_clean_from w (word ∷ words) ≡ (is_clean_turn w word && is_clean_from (walked s.rules [] w word) words)
  unfolding walk_fault
  clean_in_turn w word words =
      let next = walked s.rules [] w word in
      ap (λ b. b && is_settled (fold (walked s.rules []) next words).held) (clean-or_else (turn_fault s [] w word) (walk_fault s [] next words))
      ∙ and_assoc (is_clean_turn w word) (is_clean (walk_fault s [] next words)) (is_settled (fold (walked s.rules []) next words).held)

  -- a word comes to this
  pub record IsTurn (w : Walk) (word : Text) (clean : Bool) (after : Walk) : Type 0 where
    pub fault : is_clean_turn w word ≡ clean
    pub next : walked s.rules [] w word ≡ after

module _ (s : Shape) (mode : Rule) (line : IsLine s mode) where
  -- ---- what is used

  valued_use : (name value : Text) (has : HasValued s.rules name) (rows : List Row) → is_clean (use_fault s.args_override_self has.rule (value ∷ []) rows) ≡ not (has_row name rows)
  valued_use name value has rows =
      ap (λ again. is_clean (use_fault again has.rule (value ∷ []) rows)) line.once ∙ valued_clean has.rule has.is value rows ∙ ap (λ id. not (has_row id rows)) has.id

  flag_use : (name : Text) (has : HasFlag s.rules name) (rows : List Row) → is_clean (use_fault s.args_override_self has.rule [] rows) ≡ not (has_row name rows)
  flag_use name has rows = ap (λ again. is_clean (use_fault again has.rule [] rows)) line.once ∙ flag_clean has.rule has.is rows ∙ ap (λ id. not (has_row id rows)) has.id

  -- what is pending is used, and then an argument
  reacts : (a : Rule) (values : List Text) (h : Held) (b : Bool) → is_clean (use_fault s.args_override_self a values (settled s.rules h).rows) ≡ b
      → is_clean (or_else (react_fault s.rules s.args_override_self a values h) []) ≡ (is_settled s h && b)
  reacts a values h b uses =
      clean-or_else (react_fault s.rules s.args_override_self a values h) []
      ∙ and-true (is_clean (react_fault s.rules s.args_override_self a values h))
      ∙ clean-or_else (settle_fault s.rules s.args_override_self h) (use_fault s.args_override_self a values (settled s.rules h).rows)
      ∙ ap (λ c. is_settled s h && c) uses

  -- what is pending is used
  settles : (h : Held) → is_clean (or_else (settle_fault s.rules s.args_override_self h) []) ≡ is_settled s h
  settles h = clean-or_else (settle_fault s.rules s.args_override_self h) [] ∙ and-true (is_settled s h)

  -- ---- options

  -- `--NAME=VALUE`
  pub joined_turn : (h : Held) (position : ℕ) (word name value : Text) (has : HasValued s.rules name) → IsRead (choices.option name (Some value)) word
      → IsTurn s (standing h idle position false) word (is_settled s h && not (has_row name (settled s.rules h).rows)) (standing (reacted s.rules has.rule (value ∷ []) h) idle position false)
  unfolding walked
  joined_turn h position word name value has read = record {
    fault = rw (read.0, read.1, has.by_long, valued_takes has.rule has.is) (reacts has.rule (value ∷ []) h (not (has_row name (settled s.rules h).rows)) (valued_use name value has (settled s.rules h).rows));
    next = rw (read.0, read.1, has.by_long, valued_takes has.rule has.is) refl;
  }

  -- `--NAME`, which waits for its value
  pub waiting_turn : (h : Held) (position : ℕ) (word name : Text) (has : HasValued s.rules name) → h.skip ≡ 0 → IsRead (choices.option name None) word
      → IsTurn s (standing h idle position false) word (is_settled s h) (standing (holding (settled s.rules h).rows (Some (name, []))) (option name) position false)
  unfolding walked
  waiting_turn h position word name has skips read = record {
    fault = rw (read.0, read.1, has.by_long, valued_takes has.rule has.is) (settles h);
    next = rw (read.0, read.1, has.by_long, valued_takes has.rule has.is, skips, has.id) refl;
  }

  -- `--NAME`, which takes no value
  pub flag_turn : (h : Held) (position : ℕ) (word name : Text) (has : HasFlag s.rules name) → IsRead (choices.option name None) word
      → IsTurn s (standing h idle position false) word (is_settled s h && not (has_row name (settled s.rules h).rows)) (standing (reacted s.rules has.rule [] h) idle position false)
  unfolding walked
  flag_turn h position word name has read = record {
    fault = rw (read.0, read.1, has.by_long, flag_takes has.rule has.is) (reacts has.rule [] h (not (has_row name (settled s.rules h).rows)) (flag_use name has (settled s.rules h).rows));
    next = rw (read.0, read.1, has.by_long, flag_takes has.rule has.is) refl;
  }

  -- ---- words that are refused

  -- no word names a subcommand
  no_subcommand : (waiting : Waiting) (word : Text) → subcommand_met [] waiting word ≡ None
  no_subcommand idle word = refl
  no_subcommand (option id) word = refl
  no_subcommand positional word = refl

  refused_word : (h : Held) (waiting : Waiting) (position : ℕ) (word : Text) → is_clean (word_fault s [] false waiting word h) ≡ false → is_clean_turn s (standing h waiting position false) word ≡ false
  refused_word h waiting position word is =
      let met = word_met s.rules [] false waiting position word h in
      clean-or_else (word_fault s [] false waiting word h) (step_fault s position met.0 met.1) ∙ ap (λ b. b && is_clean (step_fault s position met.0 met.1)) is

  -- an option that there is not
  pub unknown_turn : (h : Held) (waiting : Waiting) (position : ℕ) (word name : Text) (value : Option Text) → takes_value name ≡ false → takes_none name ≡ false → IsRead (choices.option name value) word
      → is_clean_turn s (standing h waiting position false) word ≡ false
  unknown_turn h waiting position word name value none none_either read =
      refused_word h waiting position word (rw (no_subcommand waiting word, read.0, read.1, line.unknown name none none_either) refl)

  -- `--NAME=VALUE` of an option that takes no value
  pub unneeded_turn : (h : Held) (waiting : Waiting) (position : ℕ) (word name value : Text) → HasFlag s.rules name → IsRead (choices.option name (Some value)) word
      → is_clean_turn s (standing h waiting position false) word ≡ false
  unneeded_turn h waiting position word name value has read =
      refused_word h waiting position word (rw (no_subcommand waiting word, read.0, read.1, has.by_long, flag_takes has.rule has.is) refl)

  bundle_refused : (h : Held) (word : Text) (flags : HasFlags word) → h.skip ≡ 0 → is_clean (bundle_fault s.rules s.args_override_self (flags.first ∷ flags.rest) h) ≡ false
  unfolding flags_fault
  bundle_refused h word flags skips = rw (skips, flags.begins, line.no_short flags.character) refl

  -- `-x`
  pub short_turn : (h : Held) (waiting : Waiting) (position : ℕ) (word : Text) → h.skip ≡ 0 → IsRead choices.other word → is_clean_turn s (standing h waiting position false) word ≡ false
  short_turn h waiting position word skips read =
      refused_word h waiting position word (rw (no_subcommand waiting word, read.0, read.1, read.2.flags) (bundle_refused h word read.2 skips))

  react_faulty : (h : Held) (a : Rule) (values : List Text) → is_settled s h ≡ false → is_clean (react_fault s.rules s.args_override_self a values h) ≡ false
  react_faulty h a values fault =
      clean-or_else (settle_fault s.rules s.args_override_self h) (use_fault s.args_override_self a values (settled s.rules h).rows)
      ∙ ap (λ b. b && is_clean (use_fault s.args_override_self a values (settled s.rules h).rows)) fault

  long_faulty : (h : Held) (found : Option Rule) (value : Option Text) → is_settled s h ≡ false → is_clean (long_fault s.rules s.args_override_self found value h) ≡ false
  long_faulty h None value fault = refl
  long_faulty h (Some a) None fault =
      elim (takes_values a) as (λ b. is_clean (cond b (settle_fault s.rules s.args_override_self h) (react_fault s.rules s.args_override_self a [] h)) ≡ false) [
        | true ↦ fault
        | false ↦ react_faulty h a [] fault
      ]
  long_faulty h (Some a) (Some value) fault =
      elim (takes_values a) as (λ b. is_clean (cond b (react_fault s.rules s.args_override_self a (value ∷ []) h) (kind.TooManyValues ∷ [])) ≡ false) [
        | true ↦ react_faulty h a (value ∷ []) fault
        | false ↦ refl
      ]

  -- an option, where what is pending has a fault
  pub faulty_turn : (h : Held) (waiting : Waiting) (position : ℕ) (word name : Text) (value : Option Text) → is_settled s h ≡ false → IsRead (choices.option name value) word
      → is_clean_turn s (standing h waiting position false) word ≡ false
  faulty_turn h waiting position word name value fault read =
      refused_word h waiting position word (rw (no_subcommand waiting word, read.0, read.1) (long_faulty h (arg_by_long s.rules name) value fault))

  -- ---- other words

  -- `--`
  pub end_turn : (h : Held) (waiting : Waiting) (position : ℕ) (word : Text) → IsRead choices.end word → IsTurn s (standing h waiting position false) word true (standing h waiting position true)
  unfolding walked
  end_turn h waiting position word read = record {
    fault = rw (no_subcommand waiting word, read) refl;
    next = rw (no_subcommand waiting word, read) refl;
  }

  -- the value of the option that waits
  pub value_turn : (rows : List Row) (position : ℕ) (word name : Text) (has : HasValued s.rules name) → IsRead choices.plain word
      → IsTurn s (standing (holding rows (Some (name, []))) (option name) position false) word true (standing (holding rows (Some (name, word ∷ []))) idle position false)
  unfolding walked
  value_turn rows position word name has read = record {
    fault = rw (read.0, read.1, read.2) refl;
    next = rw (read.0, read.1, read.2, has.by_id, has.id, itself name, has.is.range) refl;
  }

  -- the mode
  pub mode_turn : (h : Held) (word : Text) → h.skip ≡ 0 → IsRead choices.plain word
      → IsTurn s (standing h idle 1 false) word (is_settled s h) (standing (holding (settled s.rules h).rows (Some (codes "mode", word ∷ []))) idle 2 false)
  unfolding walked
  mode_turn h word skips read = record {
    fault = rw (read.0, read.1, read.2, line.first, valued_once mode line.mode_valued, and-false) refl;
    next = rw (read.0, read.1, read.2, line.first, valued_once mode line.mode_valued, line.mode_valued.action, line.mode_valued.alone, and-false, skips, line.mode_id) refl;
  }

  -- a mode after `--`
  pub mode_turn_after : (h : Held) (waiting : Waiting) (word : Text) → h.skip ≡ 0
      → IsTurn s (standing h waiting 1 true) word (is_settled s h) (standing (holding (settled s.rules h).rows (Some (codes "mode", word ∷ []))) idle 2 true)
  unfolding walked
  mode_turn_after h waiting word skips = record {
    fault = rw (line.first, valued_once mode line.mode_valued, and-false) refl;
    next = rw (line.first, valued_once mode line.mode_valued, line.mode_valued.action, and-false, skips, line.mode_id) refl;
  }

  stray_refused : (is_leaf : Bool) → is_clean (if is_leaf then kind.UnknownArgument ∷ [] else kind.UnknownArgument ∷ kind.InvalidSubcommand ∷ []) ≡ false
  stray_refused true = refl
  stray_refused false = refl

  -- a second mode
  pub second_turn : (h : Held) (word : Text) → IsRead choices.plain word → is_clean_turn s (standing h idle 2 false) word ≡ false
  second_turn h word read = rw (read.0, read.1, read.2, line.second) (stray_refused s.is_leaf)

  pub second_turn_after : (h : Held) (waiting : Waiting) (word : Text) → is_clean_turn s (standing h waiting 2 true) word ≡ false
  second_turn_after h waiting word = rw line.second (stray_refused s.is_leaf)
