-- The operation of each word can be printed, and its text is short.
use Rattle.std.proofs.Common.{ℕ, ◌/◌, ◌%◌, ◌<◌, ◌≤◌, ◌^◌, Bool, true, false, cond, List, ◌++◌, length, arith, length-append}
use Rattle.std.specs.Prelude.{codes, ◌==◌, nat_lt}
use Rattle.std.specs.Fmt.{decimal}
use Rattle.std.proofs.lemmas.Fmt.{length-decimal-le}
use Rattle.fal_base.specs.declared.op.Op.{Op}
use Rattle.fal_base.specs.declared.op.Op.TheVariants as op
use Rattle.fal_base.specs.declared.path.PathArg.{PathArg}
use Rattle.fal_base.specs.declared.rule.Rule.{Rule}
use Rattle.fal_base.specs.declared.rule.Rule.TheVariants as rule
use Rattle.fal_report.specs.Calls.{path_text, path_op, spaced_number, spaced_mode, spaced_path, rule_text, place_op, op_text}
use Rattle.fal_report.specs.Escapes.{escaped}
use Rattle.fal_script.specs.Printed.{IsPrintablePath, IsPrintableName}
use Rattle.fal_script.specs.Ranges.{IsOpOf, IsSpelledRule}
use Rattle.fal_gen.specs.Calls.{file_name, dir_path, file_path, rule_by, op_by}
use Rattle.fal_gen.proofs.ShortNames.{IsShortName, file_is_short}
use Rattle.fal_gen.proofs.MadePaths.{IsMadePath, joined, text_short, dir_made, file_made}
use Rattle.fal_gen.proofs.Words.{IsWord}

-- ---- texts

path_op_short : (word : List ℕ) (path : PathArg) → length word ≤ 9 → IsMadePath path → length (path_op word path) ≤ 40
unfolding path_op
path_op_short word path short made = joined (word ++ codes " ") (path_text path) 10 30 (joined word (codes " ") 9 1 short (omega arith)) made.few

number_short : (n : ℕ) → n < 2 ^ 32 → length (spaced_number n) ≤ 21
unfolding spaced_number
number_short n small =
    let digits = length-decimal-le 20 n (omega arith) (omega arith) (omega arith) in
    let all = length-append (codes " ") (decimal n) in
    omega arith

rule_short : (r : Rule) → IsSpelledRule r → length (rule_text r) ≤ 25
unfolding rule_text
rule_short rule.Hash small = omega arith
rule_short rule.ByParent small = omega arith
rule_short (rule.Node node) small =
    let digits = length-decimal-le 20 node (omega arith) (omega arith) (omega arith) in
    let all = length-append (codes "node:") (decimal node) in
    omega arith

-- ---- operations

-- an operation that can be printed, with a short text
pub record IsMadeOp (o : Op) : Type 0 where
  pub is : IsOpOf IsPrintablePath IsPrintableName o
  pub few : length (op_text o) ≤ 100

pub mkdir_made : (path : PathArg) → IsMadePath path → IsMadeOp (op.Mkdir path 493)
unfolding spaced_mode
mkdir_made path made =
    let word = path_op_short (codes "mkdir") path (omega arith) made in
    let all = length-append (path_op (codes "mkdir") path) (spaced_mode 493) in
    record { is = (made.is, omega arith); few = omega arith }

create_made : (path : PathArg) → IsMadePath path → IsMadeOp (op.Create path 420)
unfolding spaced_mode
create_made path made =
    let word = path_op_short (codes "create") path (omega arith) made in
    let all = length-append (path_op (codes "create") path) (spaced_mode 420) in
    record { is = (made.is, omega arith); few = omega arith }

chmod_made : (path : PathArg) → IsMadePath path → IsMadeOp (op.Chmod path 488)
unfolding spaced_mode
chmod_made path made =
    let word = path_op_short (codes "chmod") path (omega arith) made in
    let all = length-append (path_op (codes "chmod") path) (spaced_mode 488) in
    record { is = (made.is, omega arith); few = omega arith }

stat_made : (path : PathArg) → IsMadePath path → IsMadeOp (op.Stat path)
stat_made path made = let word = path_op_short (codes "stat") path (omega arith) made in record { is = made.is; few = omega arith }

list_made : (path : PathArg) → IsMadePath path → IsMadeOp (op.List path)
list_made path made = let word = path_op_short (codes "list") path (omega arith) made in record { is = made.is; few = omega arith }

unlink_made : (path : PathArg) → IsMadePath path → IsMadeOp (op.Unlink path)
unlink_made path made = let word = path_op_short (codes "unlink") path (omega arith) made in record { is = made.is; few = omega arith }

rmdir_made : (path : PathArg) → IsMadePath path → IsMadeOp (op.Rmdir path)
rmdir_made path made = let word = path_op_short (codes "rmdir") path (omega arith) made in record { is = made.is; few = omega arith }

rename_made : (old new : PathArg) → IsMadePath old → IsMadePath new → IsMadeOp (op.Rename old new)
unfolding spaced_path
rename_made old new first second =
    let word = path_op_short (codes "rename") old (omega arith) first in
    let few = second.few in
    let tail = length-append (codes " ") (path_text new) in
    let all = length-append (path_op (codes "rename") old) (spaced_path new) in
    record { is = (first.is, second.is); few = omega arith }

truncate_made : (path : PathArg) (size : ℕ) → IsMadePath path → size < 2 ^ 32 → IsMadeOp (op.Truncate path size)
truncate_made path size made small =
    let word = path_op_short (codes "truncate") path (omega arith) made in
    let number = number_short size small in
    let all = length-append (path_op (codes "truncate") path) (spaced_number size) in
    record { is = (made.is, omega arith); few = omega arith }

name_few : (name : List ℕ) → IsShortName name → length (escaped name) ≤ 9
name_few name short = let few = short.few in let text = text_short name in omega arith

place_made : (file : ℕ) (r : Rule) → file < 16 → IsSpelledRule r → IsMadeOp (op.Place (file_name file) r)
unfolding place_op
place_made file r low spelled =
    let short = file_is_short file low in
    record {
      is = ((short.named, short.bytes), spelled);
      few =
          joined (codes "place " ++ escaped (file_name file) ++ codes " ") (rule_text r) 16 84
          (joined (codes "place " ++ escaped (file_name file)) (codes " ") 15 1 (joined (codes "place ") (escaped (file_name file)) 6 9 (omega arith) (name_few (file_name file) short)) (omega arith))
          (let few = rule_short r spelled in omega arith);
    }

rule_spelled : (word : ℕ) → IsSpelledRule (rule_by word)
unfolding rule_by
rule_spelled word = by (word / 16384 % 3 == 0) (word / 16384 % 3 == 1)
  where
    by : (a b : Bool) → IsSpelledRule (cond a rule.Hash (cond b rule.ByParent (rule.Node (word / 65536 % 4))))
    by true b = tt
    by false true = tt
    by false false = omega arith

one_of : (b : Bool) (x y : Op) → IsMadeOp x → IsMadeOp y → IsMadeOp (cond b x y)
one_of true x y first second = first
one_of false x y first second = second

pub op_made : (lane word : ℕ) → lane < 16 → IsWord word → IsMadeOp (op_by lane word)
unfolding op_by
op_made lane word low small =
    let kind = word % 16 in
    let file_low : word / 128 % 16 < 16 = omega arith in
    let dir : IsMadePath (dir_path lane (word / 16 % 8)) = dir_made lane (word / 16 % 8) low (omega arith) in
    let file : IsMadePath (file_path lane (word / 16 % 8) (word / 128 % 16)) = file_made lane (word / 16 % 8) (word / 128 % 16) low (omega arith) file_low in
    let other : IsMadePath (file_path lane (word / 2048 % 8) (word / 128 % 16)) = file_made lane (word / 2048 % 8) (word / 128 % 16) low (omega arith) file_low in
    one_of (nat_lt kind 3) _ _ (mkdir_made _ dir)
    (one_of (nat_lt kind 7) _ _ (create_made _ file)
    (one_of (kind == 7) _ _ (stat_made _ file)
    (one_of (kind == 8) _ _ (stat_made _ dir)
    (one_of (kind == 9) _ _ (list_made _ dir)
    (one_of (kind == 10) _ _ (unlink_made _ file)
    (one_of (kind == 11) _ _ (rmdir_made _ dir)
    (one_of (kind == 12) _ _ (rename_made _ _ file other)
    (one_of (kind == 13) _ _ (chmod_made _ dir)
    (one_of (kind == 14) _ _ (truncate_made _ (word / 16384) file (omega arith))
    (place_made (word / 128 % 16) (rule_by word) file_low (rule_spelled word)))))))))))
