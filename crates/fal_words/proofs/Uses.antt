-- One use of an argument: an option that takes a value, and one that takes none.
use Rattle.std.proofs.Common.{◌≡◌, Bool, true, false, cond, List, [], ◌∷◌, Some, refl}
use Rattle.std.specs.Prelude.{◌&&◌, not, codes}
use Rattle.clap.specs.Faults.{use_fault}
use Rattle.clap.specs.Kinds.{Kinds, or_else}
use Rattle.clap.specs.Walk.{Row, Rule, Text, has_row, is_multiple, takes_several, takes_values, used, with_values, without}
use Rattle.clap.specs.declared.builder.action.ArgAction.TheVariants.{Set, SetTrue}
use Rattle.clap.specs.declared.builder.value_parser.Reading.TheVariants.{AsWritten}
use Rattle.clap.specs.declared.builder.value_parser.ValueParser.TheVariants as vp
use Rattle.clap.specs.declared.error.kind.ErrorKind.TheVariants as kind
use Rattle.clap.specs.declared.parser.matches.ValueSource.TheVariants.{CommandLine}

-- there is no fault
abbrev pub is_clean : Kinds → Bool
is_clean [] = true
is_clean (kind ∷ kinds) = false

pub clean-or_else : (first next : Kinds) → is_clean (or_else first next) ≡ (is_clean first && is_clean next)
clean-or_else [] next = refl
clean-or_else (kind ∷ kinds) next = refl

-- the argument takes one value, a text
pub record IsValued (a : Rule) : Type 0 where
  pub action : a.action ≡ Some Set
  pub range : a.range ≡ Some (record { start_inclusive = 1; end_inclusive = 1 })
  pub parser : a.parser ≡ Some vp.String
  pub alone : a.trailing_var_arg ≡ false

-- the argument takes none, and is `true` where it is given
pub record IsFlag (a : Rule) : Type 0 where
  pub action : a.action ≡ Some SetTrue
  pub range : a.range ≡ Some (record { start_inclusive = 0; end_inclusive = 0 })
  pub parser : a.parser ≡ Some vp.Bool
  pub missing : a.missing ≡ codes "true" ∷ []

repeat_clean : (b : Bool) → is_clean (or_else (cond (b && true) (kind.ArgumentConflict ∷ []) []) []) ≡ not b
repeat_clean true = refl
repeat_clean false = refl

module _ (a : Rule) (is : IsValued a) where
  pub valued_takes : takes_values a ≡ true
  valued_takes = rw is.range refl

  pub valued_once : takes_several a ≡ false
  valued_once = rw is.range refl

  pub valued_single : is_multiple a ≡ false
  valued_single = rw (is.range, is.action) refl

  pub valued_used : (value : Text) (rows : List Row) → used a (value ∷ []) rows ≡ with_values a.id AsWritten CommandLine (value ∷ []) (without a.id rows)
  valued_used value rows = rw (is.action, is.parser) refl

  pub valued_clean : (value : Text) (rows : List Row) → is_clean (use_fault false a (value ∷ []) rows) ≡ not (has_row a.id rows)
  valued_clean value rows = rw (is.range, is.action, is.parser) (repeat_clean (has_row a.id rows))

  pub valued_wants : (again : Bool) (rows : List Row) → is_clean (use_fault again a [] rows) ≡ false
  valued_wants again rows = rw is.range refl

module _ (a : Rule) (is : IsFlag a) where
  pub flag_takes : takes_values a ≡ false
  flag_takes = rw is.range refl

  pub flag_used : (rows : List Row) → used a [] rows ≡ with_values a.id AsWritten CommandLine (codes "true" ∷ []) (without a.id rows)
  flag_used rows = rw (is.action, is.parser, is.missing) refl

  pub flag_clean : (rows : List Row) → is_clean (use_fault false a [] rows) ≡ not (has_row a.id rows)
  flag_clean rows = rw (is.range, is.action, is.parser, is.missing) (repeat_clean (has_row a.id rows))
