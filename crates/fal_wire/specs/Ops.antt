-- Operations with their arguments, and calls on their way.
use Rattle.std.specs.Prelude.{ℕ, List, [], ◌∷◌}
use Rattle.fal_base.specs.declared.call.CallId.{CallId}
use Rattle.fal_base.specs.declared.call.CallRec.{CallRec}
use Rattle.fal_base.specs.declared.call.Cred.{Cred}
use Rattle.fal_base.specs.declared.op.Op.{Op}
use Rattle.fal_base.specs.declared.op.Op.TheVariants as op
use Rattle.fal_base.specs.declared.path.PathArg.{PathArg}
use Rattle.fal_base.specs.declared.rule.Rule.{Rule}
use Rattle.fal_wire.specs.Format.{Format, number, ◌⊗◌, shaped, made, Layout, layout, Branch, tagged}
use Rattle.fal_wire.specs.Numbers.{mode_field, want_field, size_field, cred_field, id_field}
use Rattle.fal_wire.specs.Names.{name_field, path_arg_field}
use Rattle.fal_wire.specs.Rows.{rule_field}

unfoldable pub path_and_mode : Format (PathArg × ℕ)
path_and_mode = path_arg_field ⊗ mode_field

unfoldable pub path_and_want : Format (PathArg × ℕ)
path_and_want = path_arg_field ⊗ want_field

unfoldable pub path_and_owner : Format (PathArg × (ℕ × ℕ))
path_and_owner = path_arg_field ⊗ number 4 ⊗ number 4

unfoldable pub path_and_size : Format (PathArg × ℕ)
path_and_size = path_arg_field ⊗ size_field

unfoldable pub two_paths : Format (PathArg × PathArg)
two_paths = path_arg_field ⊗ path_arg_field

unfoldable pub name_and_rule : Format (List ℕ × Rule)
name_and_rule = name_field ⊗ rule_field

-- 1 to 12, in this order
abbrev pub op_layout : Op → Layout
op_layout (op.Mkdir path mode) = layout 1 path_and_mode (path, mode)
op_layout (op.Create path mode) = layout 2 path_and_mode (path, mode)
op_layout (op.Stat path) = layout 3 path_arg_field path
op_layout (op.Access path want) = layout 4 path_and_want (path, want)
op_layout (op.Chmod path mode) = layout 5 path_and_mode (path, mode)
op_layout (op.Chown path uid gid) = layout 6 path_and_owner (path, (uid, gid))
op_layout (op.Truncate path size) = layout 7 path_and_size (path, size)
op_layout (op.Unlink path) = layout 8 path_arg_field path
op_layout (op.Rmdir path) = layout 9 path_arg_field path
op_layout (op.Rename old new) = layout 10 two_paths (old, new)
op_layout (op.List path) = layout 11 path_arg_field path
op_layout (op.Place name rule) = layout 12 name_and_rule (name, rule)

abbrev pub op_branches : List (Branch Op)
op_branches =
    (1, made (λ f. op.Mkdir f.0 f.1) path_and_mode)
    ∷ (2, made (λ f. op.Create f.0 f.1) path_and_mode)
    ∷ (3, made (λ path. op.Stat path) path_arg_field)
    ∷ (4, made (λ f. op.Access f.0 f.1) path_and_want)
    ∷ (5, made (λ f. op.Chmod f.0 f.1) path_and_mode)
    ∷ (6, made (λ f. op.Chown f.0 f.1.0 f.1.1) path_and_owner)
    ∷ (7, made (λ f. op.Truncate f.0 f.1) path_and_size)
    ∷ (8, made (λ path. op.Unlink path) path_arg_field)
    ∷ (9, made (λ path. op.Rmdir path) path_arg_field)
    ∷ (10, made (λ f. op.Rename f.0 f.1) two_paths)
    ∷ (11, made (λ path. op.List path) path_arg_field)
    ∷ (12, made (λ f. op.Place f.0 f.1) name_and_rule)
    ∷ []

unfoldable pub op_field : Format Op
op_field = tagged op_layout op_branches

-- a call on its way, of its parts
abbrev pub call_rec : CallId → Cred → ℕ → Op → CallRec
call_rec id cred version op = record { id = id; cred = cred; version = version; op = op }

-- id, cred, the table's version, the operation
unfoldable pub call_field : Format CallRec
call_field = shaped (λ c. (c.id, (c.cred, (c.version, c.op)))) (λ f. record { id = f.0; cred = f.1.0; version = f.1.1.0; op = f.1.1.1 })
    (id_field ⊗ cred_field ⊗ number 4 ⊗ op_field)
