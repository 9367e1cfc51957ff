-- The walk over all words.
use Rattle.std.proofs.Common.{◌≡◌, ℕ, Bool, true, false, cond, List, [], ◌∷◌, ◌++◌, map, Option, Some, None, refl, sym, ap, ap₂, ◌∙◌, subst, append-nil}
use Rattle.std.specs.Prelude.{◌&&◌, ◌||◌, not, codes}
use Rattle.std.specs.Option.{option_map_or}
use Rattle.std.specs.Str.{IsUtf8, bytes_eq}
use Rattle.std.proofs.Math.Bool.{and-false, and-true, or-false, or-true}
use Rattle.std.proofs.lemmas.Bool.{true≢false, not-true, false_from_ne_true}
use Rattle.std.proofs.lemmas.Slice.Eq.{bytes_eq-Decides}
use Rattle.clap.specs.Faults.{use_fault, walk_fault}
use Rattle.clap.specs.Simple.{Shape}
use Rattle.clap.specs.Walk.{Held, Row, Rule, Text, Waiting, Walk, arg_by_id, has_row, idle, option, reacted, settled, used, used_by_id, walked, with_values, without}
use Rattle.clap.specs.declared.builder.value_parser.Reading.TheVariants.{AsWritten}
use Rattle.clap.specs.declared.parser.matches.ValueSource.TheVariants.{CommandLine}
use Rattle.fal_words.specs.Choices as form
use Rattle.fal_words.specs.Choices.{Choice, Form, alone, choices_after, choices_by, choices_with, form_of, mode_choice, takes_none, takes_value, true_choice, with_choice}
use Rattle.fal_words.proofs.Forms.{IsRead, word_read}
use Rattle.fal_words.proofs.Line.{IsLine}
use Rattle.fal_words.proofs.Rows.{has_row-added, row_added, row_of}
use Rattle.fal_words.proofs.Runs.{ComesTo, after_choice, after_turn, comes_faulty}
use Rattle.fal_words.proofs.Turns.{IsTurn, clean_in_turn, end_turn, faulty_turn, flag_turn, holding, is_clean_from, is_clean_turn, is_settled, joined_turn, mode_turn, mode_turn_after, place, rows_from, second_turn, second_turn_after, short_turn, standing, unknown_turn, unneeded_turn, value_turn, waiting_turn}
use Rattle.fal_words.proofs.Uses.{IsValued, flag_used, is_clean, valued_clean, valued_used, valued_wants}

abbrev pub AreUtf8 : List Text → Type 0
AreUtf8 [] = Unit {0}
AreUtf8 (word ∷ words) = IsUtf8 word × AreUtf8 words

abbrev choice : Text → Text → Choice
choice name value = record { name = name; value = value }

-- no option has the mode's name
option_is_no_mode : (name : Text) → takes_value name ≡ true → bytes_eq name (codes "mode") ≡ false
option_is_no_mode name takes =
    false_from_ne_true (bytes_eq name (codes "mode")) (λ is. true≢false (sym takes ∙ ap takes_value ((bytes_eq-Decides name (codes "mode")).0 is)))

flag_is_no_mode : (name : Text) → takes_none name ≡ true → bytes_eq name (codes "mode") ≡ false
flag_is_no_mode name takes =
    false_from_ne_true (bytes_eq name (codes "mode")) (λ is. true≢false (sym takes ∙ ap takes_none ((bytes_eq-Decides name (codes "mode")).0 is)))

module _ (s : Shape) (mode : Rule) (line : IsLine s mode) where
  -- what is held has a mode, or none, where it has no fault
  abbrev HasMode : Held → Bool → Type 0
  HasMode h seen = is_settled s h ≡ true → has_row (codes "mode") (settled s.rules h).rows ≡ seen

  -- the walk over these words comes to these choices, from what is held
  abbrev Comes : Held → Option (List Choice) → Walk → List Text → Type 0
  Comes h choices w words = ComesTo (is_settled s h) (settled s.rules h).rows choices (is_clean_from s w words) (rows_from s w words)

  -- ---- what is pending

  pending_settled : (a : Rule) (name value : Text) (rows : List Row) → arg_by_id s.rules name ≡ Some a → a.id ≡ name → IsValued a
      → is_settled s (holding rows (Some (name, value ∷ []))) ≡ not (has_row name rows)
  pending_settled a name value rows by_id id is =
      ap (λ (o : Option Rule). is_clean (option_map_or (λ (b : Rule). use_fault s.args_override_self b (value ∷ []) rows) o [])) by_id
      ∙ ap (λ again. is_clean (use_fault again a (value ∷ []) rows)) line.once ∙ valued_clean a is value rows ∙ ap (λ i. not (has_row i rows)) id

  pending_rows : (a : Rule) (name value : Text) (rows : List Row) → arg_by_id s.rules name ≡ Some a → a.id ≡ name → IsValued a → has_row name rows ≡ false
      → (settled s.rules (holding rows (Some (name, value ∷ [])))).rows ≡ rows ++ row_of (choice name value) ∷ []
  pending_rows a name value rows by_id id is none =
      ap (λ (o : Option Rule). used_by_id o (value ∷ []) rows) by_id ∙ valued_used a is value rows
      ∙ ap (λ i. with_values i AsWritten CommandLine (value ∷ []) (without i rows)) id ∙ row_added name value rows none

  pending_keeps : (a : Rule) (name value : Text) (rows : List Row) (seen : Bool) → arg_by_id s.rules name ≡ Some a → a.id ≡ name → IsValued a
      → (has_row (codes "mode") rows || bytes_eq name (codes "mode")) ≡ seen → HasMode (holding rows (Some (name, value ∷ []))) seen
  pending_keeps a name value rows seen by_id id is keeps clean =
      let none : has_row name rows ≡ false = not-true (has_row name rows) (sym (pending_settled a name value rows by_id id is) ∙ clean) in
      ap (has_row (codes "mode")) (pending_rows a name value rows by_id id is none) ∙ has_row-added (codes "mode") rows (choice name value) ∙ keeps

  -- the choice that is pending is one more
  pending_walk : (a : Rule) (name value : Text) (rows : List Row) (rest : Option (List Choice)) (w : Walk) (words : List Text) → arg_by_id s.rules name ≡ Some a → a.id ≡ name → IsValued a
      → Comes (holding rows (Some (name, value ∷ []))) rest w words
      → ComesTo true rows (with_choice (choice name value) rest) (is_clean_from s w words) (rows_from s w words)
  pending_walk a name value rows rest w words by_id id is comes =
      let h = holding rows (Some (name, value ∷ [])) in
      let clean = is_clean_from s w words in
      let left = rows_from s w words in
      let settled_is = pending_settled a name value rows by_id id is in
      after_choice true true clean rows left (choice name value) rest
      (λ so_far none. (
        refl,
        subst (λ b. ComesTo b (rows ++ row_of (choice name value) ∷ []) rest clean left) (settled_is ∙ ap not none)
            (subst (λ (rs : List Row). ComesTo (is_settled s h) rs rest clean left) (pending_rows a name value rows by_id id is none) comes),
      ))
      (λ never. never)
      (λ has. comes_faulty (is_settled s h) clean (settled s.rules h).rows left rest (settled_is ∙ ap not has) comes)

  -- ---- one word

  turned : (so_far : Bool) (rows : List Row) (choices : Option (List Choice)) (w : Walk) (word : Text) (words : List Text)
      → ComesTo so_far rows choices (is_clean_turn s w word && is_clean_from s (walked s.rules [] w word) words) (rows_from s (walked s.rules [] w word) words)
      → ComesTo so_far rows choices (is_clean_from s w (word ∷ words)) (rows_from s w (word ∷ words))
  turned so_far rows choices w word words comes =
      subst (λ b. ComesTo so_far rows choices b (rows_from s w (word ∷ words))) (sym (clean_in_turn s w word words)) comes

  refused : (w : Walk) (word : Text) (words : List Text) → is_clean_turn s w word ≡ false → is_clean_from s w (word ∷ words) ≡ false
  refused w word words is = clean_in_turn s w word words ∙ ap (λ b. b && is_clean_from s (walked s.rules [] w word) words) is

  at_end : (h : Held) (waiting : Waiting) (position : ℕ) (is_trailing : Bool) → Comes h (Some []) (standing h waiting position is_trailing) []
  unfolding walk_fault
  at_end h waiting position is_trailing = (sym (and-true (is_settled s h)), λ clean. sym (append-nil (settled s.rules h).rows))

  -- a turn that leaves these words to a walk from a state of its own
  left_to : (so_far clean : Bool) (rows : List Row) (choices : Option (List Choice)) (w after : Walk) (word : Text) (words : List Text) → IsTurn s w word clean after → clean ≡ so_far
      → (so_far ≡ true → ComesTo true rows choices (is_clean_from s after words) (rows_from s after words))
      → ComesTo so_far rows choices (is_clean_from s w (word ∷ words)) (rows_from s w (word ∷ words))
  left_to so_far clean rows choices w after word words turn is rest =
      let next = walked s.rules [] w word in
      turned so_far rows choices w word words
      (after_turn so_far (is_clean_turn s w word) (is_clean_from s next words) rows (rows_from s next words) choices (turn.fault ∙ is)
      (λ so. subst (λ (v : Walk). ComesTo true rows choices (is_clean_from s v words) (rows_from s v words)) (sym turn.next) (rest so)))

  -- a turn without a fault
  turned_to : (so_far : Bool) (rows : List Row) (choices : Option (List Choice)) (w after : Walk) (word : Text) (words : List Text) → IsTurn s w word true after
      → ComesTo so_far rows choices (is_clean_from s after words) (rows_from s after words) → ComesTo so_far rows choices (is_clean_from s w (word ∷ words)) (rows_from s w (word ∷ words))
  turned_to so_far rows choices w after word words turn comes =
      let next = walked s.rules [] w word in
      turned so_far rows choices w word words
      (subst (λ b. ComesTo so_far rows choices (b && is_clean_from s next words) (rows_from s next words)) (sym turn.fault)
      (subst (λ (v : Walk). ComesTo so_far rows choices (is_clean_from s v words) (rows_from s v words)) (sym turn.next) comes))

  -- ---- the mode

  mode_is_pending : (rows : List Row) (word : Text) → HasMode (holding rows (Some (codes "mode", word ∷ []))) true
  mode_is_pending rows word = pending_keeps mode (codes "mode") word rows true line.mode_by_id line.mode_id line.mode_valued (or-true (has_row (codes "mode") rows))

  mode_walk : (h : Held) (waiting : Waiting) (seen is_trailing : Bool) (word : Text) (words : List Text) (rest : Option (List Choice)) → HasMode h seen
      → IsTurn s (standing h waiting 1 is_trailing) word (is_settled s h) (standing (holding (settled s.rules h).rows (Some (codes "mode", word ∷ []))) idle 2 is_trailing)
      → is_clean_turn s (standing h waiting 2 is_trailing) word ≡ false
      → Comes (holding (settled s.rules h).rows (Some (codes "mode", word ∷ []))) rest (standing (holding (settled s.rules h).rows (Some (codes "mode", word ∷ []))) idle 2 is_trailing) words
      → Comes h (with_choice (mode_choice word) rest) (standing h waiting (place seen) is_trailing) (word ∷ words)
  mode_walk h waiting false is_trailing word words rest has first second comes =
      let rows = (settled s.rules h).rows in
      let after = standing (holding rows (Some (codes "mode", word ∷ []))) idle 2 is_trailing in
      left_to (is_settled s h) (is_settled s h) rows (with_choice (mode_choice word) rest) (standing h waiting 1 is_trailing) after word words first refl
      (λ so. pending_walk mode (codes "mode") word rows rest after words line.mode_by_id line.mode_id line.mode_valued comes)
  mode_walk h waiting true is_trailing word words rest has first second comes =
      let rows = (settled s.rules h).rows in
      let w = standing h waiting 2 is_trailing in
      let next = walked s.rules [] w word in
      turned (is_settled s h) rows (with_choice (mode_choice word) rest) w word words
      (after_choice (is_settled s h) (is_clean_turn s w word) (is_clean_from s next words) rows (rows_from s next words) (mode_choice word) rest
      (λ so none. absurd (true≢false (sym (has so) ∙ none)))
      (λ so. second)
      (λ again. ap (λ b. b && is_clean_from s next words) second))

  -- after `--`
  trailing : (words : List Text) (rows : List Row) (pending : Option (Text × List Text)) (waiting : Waiting) (seen : Bool) → HasMode (holding rows pending) seen
      → Comes (holding rows pending) (Some (map mode_choice words)) (standing (holding rows pending) waiting (place seen) true) words
  trailing [] rows pending waiting seen has = at_end (holding rows pending) waiting (place seen) true
  trailing (word ∷ words) rows pending waiting seen has =
      let h = holding rows pending in
      let held = (settled s.rules h).rows in
      mode_walk h waiting seen true word words (Some (map mode_choice words)) has (mode_turn_after s mode line h waiting word refl) (second_turn_after s mode line h waiting word)
      (trailing words held (Some (codes "mode", word ∷ [])) idle true (mode_is_pending held word))

  -- ---- an option that is used at once

  used_walk : (rows : List Row) (pending : Option (Text × List Text)) (seen : Bool) (name value word : Text) (a : Rule) (values : List Text) (words : List Text) (rest : Option (List Choice))
      → HasMode (holding rows pending) seen → bytes_eq name (codes "mode") ≡ false
      → (has_row name (settled s.rules (holding rows pending)).rows ≡ false → used a values (settled s.rules (holding rows pending)).rows ≡ (settled s.rules (holding rows pending)).rows ++ row_of (choice name value) ∷ [])
      → IsTurn s (standing (holding rows pending) idle (place seen) false) word (is_settled s (holding rows pending) && not (has_row name (settled s.rules (holding rows pending)).rows))
      (standing (reacted s.rules a values (holding rows pending)) idle (place seen) false)
      → ((held : List Row) → HasMode (holding held None) seen → Comes (holding held None) rest (standing (holding held None) idle (place seen) false) words)
      → Comes (holding rows pending) (with_choice (choice name value) rest) (standing (holding rows pending) idle (place seen) false) (word ∷ words)
  used_walk rows pending seen name value word a values words rest has other uses turn comes =
      let h = holding rows pending in
      let held = (settled s.rules h).rows in
      let w = standing h idle (place seen) false in
      let next = walked s.rules [] w word in
      let more = held ++ row_of (choice name value) ∷ [] in
      let keeps : is_settled s h ≡ true → has_row (codes "mode") more ≡ seen = λ so.
      has_row-added (codes "mode") held (choice name value) ∙ ap₂ (λ (x y : Bool). x || y) (has so) other ∙ or-false seen in
      turned (is_settled s h) held (with_choice (choice name value) rest) w word words
      (after_choice (is_settled s h) (is_clean_turn s w word) (is_clean_from s next words) held (rows_from s next words) (choice name value) rest
      (λ so none. (
        turn.fault ∙ ap₂ (λ (x y : Bool). x && not y) so none,
        subst (λ (v : Walk). ComesTo true more rest (is_clean_from s v words) (rows_from s v words))
            (sym (turn.next ∙ ap (λ (rs : List Row). standing (holding rs None) idle (place seen) false) (uses none))) (comes more (λ clean. keeps so)),
      ))
      (λ so. turn.fault ∙ ap (λ b. b && not (has_row name held)) so)
      (λ again. ap (λ b. b && is_clean_from s next words) (turn.fault ∙ ap (λ b. is_settled s h && not b) again ∙ and-false (is_settled s h))))

  -- ---- all words

  -- where no option waits, and where this one does
  abbrev IdleWalk : List Text → Type 0
  IdleWalk words = (rows : List Row) (pending : Option (Text × List Text)) (seen : Bool) → HasMode (holding rows pending) seen
      → Comes (holding rows pending) (choices_after None words) (standing (holding rows pending) idle (place seen) false) words

  abbrev waiting_for : Text → List Row → Bool → Walk
  waiting_for name rows seen = standing (holding rows (Some (name, []))) (option name) (place seen) false

  abbrev ValueWalk : List Text → Type 0
  ValueWalk words = (name : Text) (rows : List Row) (seen : Bool) → takes_value name ≡ true → has_row (codes "mode") rows ≡ seen
      → ComesTo true rows (choices_after (Some name) words) (is_clean_from s (waiting_for name rows seen) words) (rows_from s (waiting_for name rows seen) words)

  flag_walk : (rows : List Row) (pending : Option (Text × List Text)) (seen : Bool) (name word : Text) (words : List Text) → HasMode (holding rows pending) seen → IsRead (form.option name None) word
      → takes_value name ≡ false → takes_none name ≡ true → IdleWalk words
      → Comes (holding rows pending) (with_choice (true_choice name) (choices_after None words)) (standing (holding rows pending) idle (place seen) false) (word ∷ words)
  flag_walk rows pending seen name word words has read none takes rest =
      let flag = line.flags name none takes in
      let held = (settled s.rules (holding rows pending)).rows in
      used_walk rows pending seen name (codes "true") word flag.rule [] words (choices_after None words) has (flag_is_no_mode name takes)
      (λ fresh. flag_used flag.rule flag.is held ∙ ap (λ i. with_values i AsWritten CommandLine (codes "true" ∷ []) (without i held)) flag.id ∙ row_added name (codes "true") held fresh)
      (flag_turn s mode line (holding rows pending) (place seen) word name flag read)
      (λ more now. rest more None seen now)

  joined_walk : (rows : List Row) (pending : Option (Text × List Text)) (seen : Bool) (name value word : Text) (words : List Text) → HasMode (holding rows pending) seen
      → IsRead (form.option name (Some value)) word → takes_value name ≡ true → IdleWalk words
      → Comes (holding rows pending) (with_choice (choice name value) (choices_after None words)) (standing (holding rows pending) idle (place seen) false) (word ∷ words)
  joined_walk rows pending seen name value word words has read takes rest =
      let valued = line.valued name takes in
      let held = (settled s.rules (holding rows pending)).rows in
      used_walk rows pending seen name value word valued.rule (value ∷ []) words (choices_after None words) has (option_is_no_mode name takes)
      (λ fresh. valued_used valued.rule valued.is value held ∙ ap (λ i. with_values i AsWritten CommandLine (value ∷ []) (without i held)) valued.id ∙ row_added name value held fresh)
      (joined_turn s mode line (holding rows pending) (place seen) word name value valued read)
      (λ more now. rest more None seen now)

  alone_walk : (rows : List Row) (pending : Option (Text × List Text)) (seen : Bool) (name word : Text) (words : List Text) → HasMode (holding rows pending) seen → IsRead (form.option name None) word
      → IdleWalk words → ValueWalk words
      → Comes (holding rows pending) (alone name (choices_after (Some name) words) (choices_after None words)) (standing (holding rows pending) idle (place seen) false) (word ∷ words)
  alone_walk rows pending seen name word words has read rest valued_rest =
      let h = holding rows pending in
      let w = standing h idle (place seen) false in
      let held = (settled s.rules h).rows in
      elim (takes_value name) as (λ b. takes_value name ≡ b → Comes h (cond b (choices_after (Some name) words) (cond (takes_none name) (with_choice (true_choice name) (choices_after None words)) None)) w (word ∷ words)) [
        | true ↦ λ takes.
            left_to (is_settled s h) (is_settled s h) held (choices_after (Some name) words) w (waiting_for name held seen) word words
            (waiting_turn s mode line h (place seen) word name (line.valued name takes) refl read) refl
            (λ so. valued_rest name held seen takes (has so))
        | false ↦ λ none.
            elim (takes_none name) as (λ b. takes_none name ≡ b → Comes h (cond b (with_choice (true_choice name) (choices_after None words)) None) w (word ∷ words)) [
              | true ↦ λ takes. flag_walk rows pending seen name word words has read none takes rest
              | false ↦ λ none_either. refused w word words (unknown_turn s mode line h idle (place seen) word name None none none_either read)
            ] refl
      ] refl

  valued_walk : (rows : List Row) (pending : Option (Text × List Text)) (seen : Bool) (name value word : Text) (words : List Text) → HasMode (holding rows pending) seen
      → IsRead (form.option name (Some value)) word → IdleWalk words
      → Comes (holding rows pending) (cond (takes_value name) (with_choice (choice name value) (choices_after None words)) None) (standing (holding rows pending) idle (place seen) false) (word ∷ words)
  valued_walk rows pending seen name value word words has read rest =
      let h = holding rows pending in
      let w = standing h idle (place seen) false in
      elim (takes_value name) as (λ b. takes_value name ≡ b → Comes h (cond b (with_choice (choice name value) (choices_after None words)) None) w (word ∷ words)) [
        | true ↦ λ takes. joined_walk rows pending seen name value word words has read takes rest
        | false ↦ λ none. refused w word words (unneeded h (place seen) word name value none read)
      ] refl
    where
      unneeded : (h : Held) (position : ℕ) (word name value : Text) → takes_value name ≡ false → IsRead (form.option name (Some value)) word → is_clean_turn s (standing h idle position false) word ≡ false
      unneeded h position word name value none read =
          elim (takes_none name) as (λ b. takes_none name ≡ b → is_clean_turn s (standing h idle position false) word ≡ false) [
            | true ↦ λ takes. unneeded_turn s mode line h idle position word name value (line.flags name none takes) read
            | false ↦ λ none_either. unknown_turn s mode line h idle position word name (Some value) none none_either read
          ] refl

  idle_by : (f : Form) (rows : List Row) (pending : Option (Text × List Text)) (seen : Bool) (word : Text) (words : List Text) → HasMode (holding rows pending) seen → IsRead f word
      → IdleWalk words → ValueWalk words
      → Comes (holding rows pending) (choices_by f word words (λ name. choices_after (Some name) words) (choices_after None words)) (standing (holding rows pending) idle (place seen) false) (word ∷ words)
  idle_by form.end rows pending seen word words has read rest valued_rest =
      let h = holding rows pending in
      turned_to (is_settled s h) (settled s.rules h).rows (Some (map mode_choice words)) (standing h idle (place seen) false) (standing h idle (place seen) true) word words
      (end_turn s mode line h idle (place seen) word read) (trailing words rows pending idle seen has)
  idle_by (form.option name None) rows pending seen word words has read rest valued_rest = alone_walk rows pending seen name word words has read rest valued_rest
  idle_by (form.option name (Some value)) rows pending seen word words has read rest valued_rest = valued_walk rows pending seen name value word words has read rest
  idle_by form.plain rows pending seen word words has read rest valued_rest =
      let h = holding rows pending in
      let held = (settled s.rules h).rows in
      mode_walk h idle seen false word words (choices_after None words) has (mode_turn s mode line h word refl read) (second_turn s mode line h word read)
      (rest held (Some (codes "mode", word ∷ [])) true (mode_is_pending held word))
  idle_by form.other rows pending seen word words has read rest valued_rest =
      refused (standing (holding rows pending) idle (place seen) false) word words (short_turn s mode line (holding rows pending) idle (place seen) word refl read)

  -- an option that has no value yet has a fault
  wanting : (name : Text) (rows : List Row) → takes_value name ≡ true → is_settled s (holding rows (Some (name, []))) ≡ false
  wanting name rows takes =
      let valued = line.valued name takes in
      ap (λ (o : Option Rule). is_clean (option_map_or (λ (b : Rule). use_fault s.args_override_self b [] rows) o [])) valued.by_id ∙ valued_wants valued.rule valued.is s.args_override_self rows

  value_by : (f : Form) (name : Text) (rows : List Row) (seen : Bool) (word : Text) (words : List Text) → takes_value name ≡ true → has_row (codes "mode") rows ≡ seen → IsRead f word → IdleWalk words
      → ComesTo true rows (choices_with f name word (choices_after None words)) (is_clean_from s (waiting_for name rows seen) (word ∷ words)) (rows_from s (waiting_for name rows seen) (word ∷ words))
  value_by form.plain name rows seen word words takes has read rest =
      let valued = line.valued name takes in
      let after = standing (holding rows (Some (name, word ∷ []))) idle (place seen) false in
      left_to true true rows (with_choice (choice name word) (choices_after None words)) (waiting_for name rows seen) after word words (value_turn s mode line rows (place seen) word name valued read) refl
      (λ so. pending_walk valued.rule name word rows (choices_after None words) after words valued.by_id valued.id valued.is (rest rows (Some (name, word ∷ [])) seen
      (pending_keeps valued.rule name word rows seen valued.by_id valued.id valued.is (ap₂ (λ (x y : Bool). x || y) has (option_is_no_mode name takes) ∙ or-false seen))))
  value_by form.end name rows seen word words takes has read rest =
      let h = holding rows (Some (name, [])) in
      let w = waiting_for name rows seen in
      let after = standing h (option name) (place seen) true in
      let turn = end_turn s mode line h (option name) (place seen) word read in
      let fault = wanting name rows takes in
      clean_in_turn s w word words
      ∙ ap (λ b. b && is_clean_from s (walked s.rules [] w word) words) turn.fault
      ∙ ap (λ (v : Walk). is_clean_from s v words) turn.next
      ∙ comes_faulty (is_settled s h) (is_clean_from s after words) (settled s.rules h).rows (rows_from s after words) (Some (map mode_choice words)) fault
      (trailing words rows (Some (name, [])) (option name) seen (λ clean. absurd (true≢false (sym clean ∙ fault))))
  value_by (form.option other value) name rows seen word words takes has read rest =
      refused (waiting_for name rows seen) word words (faulty_turn s mode line (holding rows (Some (name, []))) (option name) (place seen) word other value (wanting name rows takes) read)
  value_by form.other name rows seen word words takes has read rest =
      refused (waiting_for name rows seen) word words (short_turn s mode line (holding rows (Some (name, []))) (option name) (place seen) word refl read)

  -- the walk over the words comes to their choices
  walks : (words : List Text) → AreUtf8 words → IdleWalk words × ValueWalk words
  walks [] utf8 = (
    (λ rows pending seen has. at_end (holding rows pending) idle (place seen) false),
    (λ name rows seen takes has. (at_end (holding rows (Some (name, []))) (option name) (place seen) false).0 ∙ ap (λ b. b && true) (wanting name rows takes)),
  )
  walks (word ∷ words) utf8 =
      let rest = walks words utf8.1 in
      let read = word_read word utf8.0 in (
        (λ rows pending seen has. idle_by (form_of word) rows pending seen word words has read rest.0 rest.1),
        (λ name rows seen takes has. value_by (form_of word) name rows seen word words takes has read rest.0),
      )

  pub walk_comes : (words : List Text) → AreUtf8 words
      → ComesTo true [] (choices_after None words) (is_clean_from s (standing (holding [] None) idle 1 false) words) (rows_from s (standing (holding [] None) idle 1 false) words)
  walk_comes words utf8 = (walks words utf8).0 [] None false (λ clean. refl)
