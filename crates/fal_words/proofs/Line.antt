-- What a proof on the walk over the words reads of the command.
use Rattle.std.proofs.Common.{◌≡◌, ℕ, true, false, List, Some, None}
use Rattle.std.specs.Prelude.{codes}
use Rattle.clap.specs.Simple.{Shape}
use Rattle.clap.specs.Walk.{Rule, Text, arg_by_id, arg_by_index, arg_by_long, arg_by_short}
use Rattle.fal_words.specs.Choices.{takes_none, takes_value}
use Rattle.fal_words.proofs.Uses.{IsFlag, IsValued}

-- an option of this name that takes a value
pub record HasValued (rules : List Rule) (name : Text) : Type 0 where
  pub rule : Rule
  pub by_long : arg_by_long rules name ≡ Some rule
  pub by_id : arg_by_id rules name ≡ Some rule
  pub id : rule.id ≡ name
  pub is : IsValued rule

-- one that takes none
pub record HasFlag (rules : List Rule) (name : Text) : Type 0 where
  pub rule : Rule
  pub by_long : arg_by_long rules name ≡ Some rule
  pub id : rule.id ≡ name
  pub is : IsFlag rule

-- the command has one positional, the mode, and the options of the grammar
pub record IsLine (s : Shape) (mode : Rule) : Type 0 where
  pub once : s.args_override_self ≡ false
  pub first : arg_by_index s.rules 1 ≡ Some mode
  pub second : arg_by_index s.rules 2 ≡ None
  pub mode_id : mode.id ≡ codes "mode"
  pub mode_by_id : arg_by_id s.rules (codes "mode") ≡ Some mode
  pub mode_valued : IsValued mode
  pub valued : (name : Text) → takes_value name ≡ true → HasValued s.rules name
  pub flags : (name : Text) → takes_value name ≡ false → takes_none name ≡ true → HasFlag s.rules name
  pub unknown : (name : Text) → takes_value name ≡ false → takes_none name ≡ false → arg_by_long s.rules name ≡ None
  pub no_short : (character : ℕ) → arg_by_short s.rules character ≡ None
