-- What `clap` reads is what the grammar says.
use Rattle.std.proofs.Common.{◌≡◌, true, false, cond, List, [], ◌∷◌, map, Option, Some, None, inl, inr, refl, sym, ap, ap₂, ◌∙◌, subst}
use Rattle.std.specs.Prelude.{◌&&◌, codes, is_some, fold, option_and_then, string_bytes, Ok, Err}
use Rattle.std.specs.declared.string.String.{String}
use Rattle.std.proofs.lemmas.Str.{IsUtf8-string_bytes}
use Rattle.clap.proofs.WalkLemmas.{first_value-rows, one_text-rows}
use Rattle.clap.specs.Matches.{found_of}
use Rattle.clap.specs.Values.{kind_of}
use Rattle.clap.specs.declared.error.Error.{Error}
use Rattle.clap.specs.declared.error.kind.ErrorKind.{ErrorKind}
use Rattle.clap.specs.declared.error.kind.ErrorKind.TheVariants as kind
use Rattle.clap.specs.declared.parser.matches.ArgMatches.{ArgMatches}
use Rattle.clap.specs.declared.parser.matches.Found.{Found}
use Rattle.std.proofs.Math.Bool.{and-true}
use Rattle.std.proofs.lemmas.Bool.{true≢false}
use Rattle.clap.specs.Faults.{defaults_fault, entered_fault, fault_of, is_simple_and_free, level_fault, settle_fault, walk_fault}
use Rattle.clap.specs.Kinds.{FailsBy, HasKind, IsAmong, Kinds, or_else}
use Rattle.clap.specs.Simple.{App, HasMatchesOf, built, entered, is_simple, matches_of}
use Rattle.clap.specs.Walk.{Row, Text, Walk, first_of, idle, nothing_held, one_of, rows_of, settled, walk, with_default}
use Rattle.fal_words.specs.Choices.{Choice, are_distinct, choices_after, choices_of}
use Rattle.fal_words.proofs.Defaults.{chaos_found, finished_rows, good_defaults, value_found, verify_found}
use Rattle.fal_words.specs.Matches.{AreFound, HasFound, falcon_app}
use Rattle.fal_words.proofs.Falcon.{falcon_line, line_shape, mode_rule}
use Rattle.fal_words.proofs.Flags.{AreTrueFlags, flags_are_true}
use Rattle.fal_words.proofs.Rows.{fresh_at_first}
use Rattle.fal_words.proofs.Runs.{ComesTo}
use Rattle.fal_words.proofs.Turns.{holding, is_clean_from, rows_from, standing}
use Rattle.fal_words.proofs.Uses.{clean-or_else, is_clean}
use Rattle.fal_words.proofs.Walks.{AreUtf8, walk_comes}

abbrev start : Walk
start = standing (holding [] None) idle 1 false

-- the command has no subcommands
no_entry : (stop : Option (Text × List Text)) → entered (built falcon_app) stop ≡ None
no_entry None = refl
no_entry (Some p) = refl

no_entry_fault : (stop : Option (Text × List Text)) → entered_fault (built falcon_app) stop ≡ []
no_entry_fault None = refl
no_entry_fault (Some p) = refl

level_clean : (walk_kinds settle_kinds default_kinds : Kinds) → default_kinds ≡ []
    → is_clean (or_else walk_kinds (or_else [] (or_else settle_kinds (or_else default_kinds [])))) ≡ (is_clean walk_kinds && is_clean settle_kinds)
level_clean walk_kinds settle_kinds default_kinds none =
    clean-or_else walk_kinds (or_else settle_kinds (or_else default_kinds []))
    ∙ ap (λ b. is_clean walk_kinds && b) (clean-or_else settle_kinds (or_else default_kinds []) ∙ ap (λ (k : Kinds). is_clean settle_kinds && is_clean (or_else k [])) none ∙ and-true (is_clean settle_kinds))

-- a parse has a fault exactly where the walk has one
fault_is : (words : List Text) → is_clean (fault_of falcon_app words) ≡ is_clean_from line_shape start words
fault_is words =
    let stop = (walk line_shape.rules [] nothing_held words).stopped in
    let end = (walk line_shape.rules [] nothing_held words).held in
    ap₂ (λ (entry : Option (Text × List Row)) (below : Kinds). is_clean (level_fault line_shape [] nothing_held words (is_some entry) below)) (no_entry stop) (no_entry_fault stop)
    ∙ level_clean (walk_fault line_shape [] start words) (settle_fault line_shape.rules false end) (defaults_fault (settled line_shape.rules end).rows line_shape.rules)
    (good_defaults (settled line_shape.rules end).rows line_shape.rules (refl, (refl, (refl, (refl, (refl, (refl, tt)))))))

-- the words are read as these choices
pub record IsReadAs (words : List Text) (choices : List Choice) : Type 0 where
  pub read : choices_of words ≡ Some choices
  pub rows : matches_of falcon_app words ≡ finished_rows choices
  pub flags : AreTrueFlags choices

abbrev chosen_once : List Choice → Option (List Choice)
chosen_once choices = cond (are_distinct choices) (Some choices) None

read_choices : (words : List Text) (o : Option (List Choice)) → choices_after None words ≡ o → is_clean_from line_shape start words ≡ true
    → ComesTo true [] o (is_clean_from line_shape start words) (rows_from line_shape start words) → (choices : List Choice) × IsReadAs words choices
read_choices words None is clean comes = absurd (true≢false (sym clean ∙ comes))
read_choices words (Some choices) is clean comes =
    let distinct : are_distinct choices ≡ true = sym (fresh_at_first choices) ∙ sym comes.0 ∙ clean in (
      choices,
      record {
        read = ap (option_and_then chosen_once) is ∙ ap (λ b. cond b (Some choices) None) distinct;
        rows = ap (λ (rows : List Row). fold with_default rows line_shape.rules) (comes.1 clean);
        flags = flags_are_true words choices is;
      },
    )

-- without a fault the words are choices, and the matches are their rows
pub choices_read : (words : List Text) → AreUtf8 words → fault_of falcon_app words ≡ [] → (choices : List Choice) × IsReadAs words choices
choices_read words utf8 none =
    read_choices words (choices_after None words) refl (sym (fault_is words) ∙ ap is_clean none) (walk_comes line_shape mode_rule falcon_line words utf8)

refused_choices : (words : List Text) (o : Option (List Choice)) → choices_after None words ≡ o → is_clean_from line_shape start words ≡ false
    → ComesTo true [] o (is_clean_from line_shape start words) (rows_from line_shape start words) → choices_of words ≡ None
refused_choices words None is fault comes = ap (option_and_then chosen_once) is
refused_choices words (Some choices) is fault comes =
    ap (option_and_then chosen_once) is ∙ ap (λ b. cond b (Some choices) None) (sym (fresh_at_first choices) ∙ sym comes.0 ∙ fault)

-- with a fault they are not
pub choices_refused : (words : List Text) → AreUtf8 words → is_clean (fault_of falcon_app words) ≡ false → choices_of words ≡ None
choices_refused words utf8 fault =
    refused_choices words (choices_after None words) refl (sym (fault_is words) ∙ fault) (walk_comes line_shape mode_rule falcon_line words utf8)

-- ---- what a parse tells

among_faulty : (kind : ErrorKind) (kinds : Kinds) → IsAmong kind kinds → is_clean kinds ≡ false
among_faulty kind [] among = absurd among
among_faulty kind (first ∷ rest) among = refl

pub strings_are_utf8 : {Z : Type 0} (words : List (String Z)) → AreUtf8 (map string_bytes words)
strings_are_utf8 [] = tt
strings_are_utf8 (word ∷ words) = (IsUtf8-string_bytes word, strings_are_utf8 words)

-- a parse that fails, but not for want of memory, has words that are no choices
pub refused_read : (app : App) (words : List Text) (e : Error) → app ≡ falcon_app → AreUtf8 words
    → (is_simple_and_free app ≡ true → FailsBy {T = ArgMatches} (fault_of app words) (Err e)) → (kind_of e ≡ kind.OutOfMemory → ⊥) → choices_of words ≡ None
refused_read app words e is utf8 fails lasting =
    let has : HasKind (fault_of falcon_app words) e = subst (λ (a : App). HasKind (fault_of a words) e) is (fails (ap is_simple_and_free is)) in
    elim has [
      | inl memory ↦ absurd (lasting memory)
      | inr among ↦ choices_refused words utf8 (among_faulty (kind_of e) (fault_of falcon_app words) among)
    ]

has_found : (found : Found) (words : List Text) (choices : List Choice) → IsReadAs words choices → rows_of found ≡ matches_of falcon_app words → HasFound found choices
has_found found words choices is rows =
    let same = rows ∙ is.rows in
    record {
      mode = first_value-rows found (codes "mode") ∙ ap (first_of (codes "mode")) same ∙ value_found (codes "mode") choices refl refl;
      batch = first_value-rows found (codes "batch") ∙ ap (first_of (codes "batch")) same ∙ value_found (codes "batch") choices refl refl;
      seed = first_value-rows found (codes "seed") ∙ ap (first_of (codes "seed")) same ∙ value_found (codes "seed") choices refl refl;
      size = first_value-rows found (codes "size") ∙ ap (first_of (codes "size")) same ∙ value_found (codes "size") choices refl refl;
      chaos = one_text-rows found (codes "chaos") ∙ ap (one_of (codes "chaos")) same ∙ chaos_found choices is.flags;
      verify = one_text-rows found (codes "verify") ∙ ap (one_of (codes "verify")) same ∙ verify_found choices is.flags;
    }

-- one that succeeds finds what the words choose
pub found_read : (app : App) (words : List Text) (m : ArgMatches) → app ≡ falcon_app → AreUtf8 words
    → (is_simple_and_free app ≡ true → FailsBy (fault_of app words) (Ok m)) → HasMatchesOf app words m → AreFound (found_of m) words
found_read app words m is utf8 fails matches =
    let none : fault_of falcon_app words ≡ [] = subst (λ (a : App). fault_of a words ≡ []) is (fails (ap is_simple_and_free is)) in
    let rows : rows_of (found_of m) ≡ matches_of falcon_app words = subst (λ (a : App). rows_of (found_of m) ≡ matches_of a words) is (matches (ap is_simple is)).0 in
    let read = choices_read words utf8 none in
    (read.0, (read.1.read, has_found (found_of m) words read.0 read.1 rows))
