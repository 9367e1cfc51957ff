-- A call as text: who calls, the operation and its arguments, one space between words.
use Rattle.std.specs.Prelude.{ℕ, List, [], ◌∷◌, ◌++◌, codes}
use Rattle.std.specs.Fmt.{decimal}
use Rattle.fal_base.specs.declared.call.Call.{Call}
use Rattle.fal_base.specs.declared.op.Op.{Op}
use Rattle.fal_base.specs.declared.op.Op.TheVariants as op
use Rattle.fal_base.specs.declared.path.PathArg.{PathArg}
use Rattle.fal_base.specs.declared.path.PathArg.TheVariants.{Good, Bad}
use Rattle.fal_base.specs.declared.rule.Rule.{Rule}
use Rattle.fal_base.specs.declared.rule.Rule.TheVariants as rule
use Rattle.fal_report.specs.Escapes.{escaped, each_after}
use Rattle.fal_report.specs.Inodes.{mode_text, owner_text}

-- each name after a slash (47), and a slash alone for the root
abbrev pub names_text : List (List ℕ) → List ℕ
names_text [] = codes "/"
names_text (name ∷ names) = each_after 47 (name ∷ names)

-- a bad path is written by the bytes that were given
abbrev pub path_text : PathArg → List ℕ
path_text (Good names) = names_text names
path_text (Bad fault raw) = escaped raw

-- an operation's name and its first path
unfoldable pub path_op : List ℕ → PathArg → List ℕ
path_op word path = word ++ codes " " ++ path_text path

-- a further argument that is a number
unfoldable pub spaced_number : ℕ → List ℕ
spaced_number n = codes " " ++ decimal n

unfoldable pub spaced_mode : ℕ → List ℕ
spaced_mode mode = codes " " ++ mode_text mode

unfoldable pub spaced_path : PathArg → List ℕ
spaced_path path = codes " " ++ path_text path

unfoldable pub rule_text : Rule → List ℕ
rule_text rule.Hash = codes "hash"
rule_text rule.ByParent = codes "parent"
rule_text (rule.Node node) = codes "node:" ++ decimal node

unfoldable pub place_op : List ℕ → Rule → List ℕ
place_op name rule = codes "place " ++ escaped name ++ codes " " ++ rule_text rule

abbrev pub op_text : Op → List ℕ
op_text (op.Mkdir path mode) = path_op (codes "mkdir") path ++ spaced_mode mode
op_text (op.Create path mode) = path_op (codes "create") path ++ spaced_mode mode
op_text (op.Stat path) = path_op (codes "stat") path
op_text (op.Access path want) = path_op (codes "access") path ++ spaced_number want
op_text (op.Chmod path mode) = path_op (codes "chmod") path ++ spaced_mode mode
op_text (op.Chown path uid gid) = path_op (codes "chown") path ++ spaced_number uid ++ spaced_number gid
op_text (op.Truncate path size) = path_op (codes "truncate") path ++ spaced_number size
op_text (op.Unlink path) = path_op (codes "unlink") path
op_text (op.Rmdir path) = path_op (codes "rmdir") path
op_text (op.Rename old new) = path_op (codes "rename") old ++ spaced_path new
op_text (op.List path) = path_op (codes "list") path
op_text (op.Place name rule) = place_op name rule

abbrev pub call_text : Call → List ℕ
call_text call = owner_text call.cred.uid call.cred.gid ++ codes " " ++ op_text call.op
