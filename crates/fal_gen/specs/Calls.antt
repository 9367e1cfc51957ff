-- The call that a word chooses for a lane. The lane works in a directory of its own, which has eight directories of sixteen files.
use Rattle.std.specs.Prelude.{ℕ, ◌/◌, ◌%◌, List, [], ◌∷◌, ◌++◌, codes, if◌then◌else◌, ◌==◌, nat_lt}
use Rattle.std.specs.Fmt.{decimal}
use Rattle.fal_base.specs.declared.op.Op.{Op}
use Rattle.fal_base.specs.declared.op.Op.TheVariants as op
use Rattle.fal_base.specs.declared.path.PathArg.{PathArg}
use Rattle.fal_base.specs.declared.path.PathArg.TheVariants.{Good}
use Rattle.fal_base.specs.declared.rule.Rule.{Rule}
use Rattle.fal_base.specs.declared.rule.Rule.TheVariants as rule

-- `l`, `d` or `f`, and a number
abbrev pub lane_name : ℕ → List ℕ
lane_name lane = codes "l" ++ decimal lane

abbrev pub dir_name : ℕ → List ℕ
dir_name dir = codes "d" ++ decimal dir

abbrev pub file_name : ℕ → List ℕ
file_name file = codes "f" ++ decimal file

-- the directory of a lane, a directory there, and a file in that
unfoldable pub lane_path : ℕ → PathArg
lane_path lane = Good (lane_name lane ∷ [])

unfoldable pub dir_path : ℕ → ℕ → PathArg
dir_path lane dir = Good (lane_name lane ∷ dir_name dir ∷ [])

unfoldable pub file_path : ℕ → ℕ → ℕ → PathArg
file_path lane dir file = Good (lane_name lane ∷ dir_name dir ∷ file_name file ∷ [])

-- the rule of placement that a word chooses
unfoldable pub rule_by : ℕ → Rule
rule_by word =
    if word / 16384 % 3 == 0 then rule.Hash
    else (if word / 16384 % 3 == 1 then rule.ByParent else rule.Node (word / 65536 % 4))

-- the operation that a word chooses by its lowest four bits. The modes are 755, 644 and 750
unfoldable pub op_by : ℕ → ℕ → Op
op_by lane word =
    let kind = word % 16 in
    let dir = word / 16 % 8 in
    let file = word / 128 % 16 in
    let other = word / 2048 % 8 in
    if nat_lt kind 3 then op.Mkdir (dir_path lane dir) 493
    else (if nat_lt kind 7 then op.Create (file_path lane dir file) 420
    else (if kind == 7 then op.Stat (file_path lane dir file)
    else (if kind == 8 then op.Stat (dir_path lane dir)
    else (if kind == 9 then op.List (dir_path lane dir)
    else (if kind == 10 then op.Unlink (file_path lane dir file)
    else (if kind == 11 then op.Rmdir (dir_path lane dir)
    else (if kind == 12 then op.Rename (file_path lane dir file) (file_path lane other file)
    else (if kind == 13 then op.Chmod (dir_path lane dir) 488
    else (if kind == 14 then op.Truncate (file_path lane dir file) (word / 16384)
    else op.Place (file_name file) (rule_by word))))))))))
