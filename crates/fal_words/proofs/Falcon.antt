-- The command as it is built, and what a proof on the walk reads of it.
use Rattle.std.proofs.Common.{◌≡◌, true, false, None, inl, inr, refl, sym, subst}
use Rattle.std.specs.Prelude.{codes, ◌||◌}
use Rattle.std.specs.Str.{bytes_eq}
use Rattle.std.proofs.lemmas.Bool.{or_cases, or_parts, true≢false}
use Rattle.std.proofs.lemmas.Slice.Eq.{bytes_eq-Decides}
use Rattle.clap.specs.Simple.{Shape, built, filled, new_rule, with_index}
use Rattle.clap.specs.Walk.{Rule, Text, arg_by_long}
use Rattle.fal_words.specs.Choices.{takes_none, takes_value}
use Rattle.fal_words.specs.Matches.{falcon_app, flag_rule, option_rule}
use Rattle.fal_words.proofs.Line.{HasFlag, HasValued, IsLine}

abbrev pub line_shape : Shape
line_shape = (built falcon_app).top

abbrev pub mode_rule : Rule
mode_rule = with_index 1 (filled (new_rule (codes "mode")))

-- ---- its options

has_option : (name option : Text) → bytes_eq option name ≡ true → HasValued line_shape.rules option → HasValued line_shape.rules name
has_option name option same has = subst (HasValued line_shape.rules) ((bytes_eq-Decides option name).0 same) has

has_flag : (name option : Text) → bytes_eq option name ≡ true → HasFlag line_shape.rules option → HasFlag line_shape.rules name
has_flag name option same has = subst (HasFlag line_shape.rules) ((bytes_eq-Decides option name).0 same) has

batch_option : HasValued line_shape.rules (codes "batch")
batch_option = record { rule = filled (option_rule (codes "batch")); by_long = refl; by_id = refl; id = refl; is = record { action = refl; range = refl; parser = refl; alone = refl } }

seed_option : HasValued line_shape.rules (codes "seed")
seed_option = record { rule = filled (option_rule (codes "seed")); by_long = refl; by_id = refl; id = refl; is = record { action = refl; range = refl; parser = refl; alone = refl } }

size_option : HasValued line_shape.rules (codes "size")
size_option = record { rule = filled (option_rule (codes "size")); by_long = refl; by_id = refl; id = refl; is = record { action = refl; range = refl; parser = refl; alone = refl } }

chaos_flag : HasFlag line_shape.rules (codes "chaos")
chaos_flag = record { rule = filled (flag_rule (codes "chaos")); by_long = refl; id = refl; is = record { action = refl; range = refl; parser = refl; missing = refl } }

verify_flag : HasFlag line_shape.rules (codes "verify")
verify_flag = record { rule = filled (flag_rule (codes "verify")); by_long = refl; id = refl; is = record { action = refl; range = refl; parser = refl; missing = refl } }

valued_options : (name : Text) → takes_value name ≡ true → HasValued line_shape.rules name
valued_options name takes =
    elim (or_cases (bytes_eq (codes "batch") name) (bytes_eq (codes "seed") name || (bytes_eq (codes "size") name || false)) takes) [
      | inl is ↦ has_option name (codes "batch") is batch_option
      | inr rest ↦ elim (or_cases (bytes_eq (codes "seed") name) (bytes_eq (codes "size") name || false) rest) [
        | inl is ↦ has_option name (codes "seed") is seed_option
        | inr rest ↦ elim (or_cases (bytes_eq (codes "size") name) false rest) [
          | inl is ↦ has_option name (codes "size") is size_option
          | inr never ↦ absurd (true≢false (sym never))
        ]
      ]
    ]

flag_options : (name : Text) → takes_none name ≡ true → HasFlag line_shape.rules name
flag_options name takes =
    elim (or_cases (bytes_eq (codes "chaos") name) (bytes_eq (codes "verify") name || false) takes) [
      | inl is ↦ has_flag name (codes "chaos") is chaos_flag
      | inr rest ↦ elim (or_cases (bytes_eq (codes "verify") name) false rest) [
        | inl is ↦ has_flag name (codes "verify") is verify_flag
        | inr never ↦ absurd (true≢false (sym never))
      ]
    ]

no_option : (name : Text) → takes_value name ≡ false → takes_none name ≡ false → arg_by_long line_shape.rules name ≡ None
no_option name no_value none =
    let batch = or_parts (bytes_eq (codes "batch") name) (bytes_eq (codes "seed") name || (bytes_eq (codes "size") name || false)) no_value in
    let seed = or_parts (bytes_eq (codes "seed") name) (bytes_eq (codes "size") name || false) batch.1 in
    let size = or_parts (bytes_eq (codes "size") name) false seed.1 in
    let chaos = or_parts (bytes_eq (codes "chaos") name) (bytes_eq (codes "verify") name || false) none in
    let verify = or_parts (bytes_eq (codes "verify") name) false chaos.1 in
    rw (batch.0, seed.0, size.0, chaos.0, verify.0) refl

pub falcon_line : IsLine line_shape mode_rule
falcon_line = record {
  once = refl;
  first = refl;
  second = refl;
  mode_id = refl;
  mode_by_id = refl;
  mode_valued = record { action = refl; range = refl; parser = refl; alone = refl };
  valued = valued_options;
  flags = λ name no_value takes. flag_options name takes;
  unknown = no_option;
  no_short = λ character. refl;
}
