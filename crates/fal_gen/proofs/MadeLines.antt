-- Made scripts can be printed, and read back.
use Rattle.std.proofs.Common.{◌≡◌, ℕ, zero, suc, ◌+◌, ◌%◌, ◌<◌, ◌≤◌, ◌^◌, List, [], ◌∷◌, ◌++◌, length, refl, ap, sym, subst, arith, length-append}
use Rattle.std.specs.Prelude.{codes, Some, slice_get}
use Rattle.std.specs.Fmt.{decimal}
use Rattle.std.specs.List.{All, AllByRecursion}
use Rattle.std.proofs.lemmas.Fmt.{length-decimal-le}
use Rattle.std.proofs.lemmas.List.Elements.{All-append, All-from_recursion}
use Rattle.std.proofs.lemmas.Option.{slice_get_within, get_or_from_slice_get}
use Rattle.fal_base.specs.declared.op.Op.{Op}
use Rattle.fal_report.specs.Calls.{op_text}
use Rattle.fal_report.specs.Inodes.{owner_text}
use Rattle.fal_script.specs.declared.script.ScriptCall.{ScriptCall}
use Rattle.fal_script.specs.Printed.{IsPrintable}
use Rattle.rand_core.specs.Steps.{first_words}
use Rattle.rand_pcg.specs.Lcg.{Lcg}
use Rattle.rand_pcg.specs.Pcg.{pcg32}
use Rattle.fal_gen.specs.Calls.{lane_path, op_by}
use Rattle.fal_gen.specs.Lines.{root_line, opening_line, opening_lines, lines_from, lines_by, IsMadeLine}
use Rattle.fal_gen.specs.Source.{words_of_seed, source_of}
use Rattle.fal_gen.proofs.MadeOps.{IsMadeOp, mkdir_made, op_made}
use Rattle.fal_gen.proofs.MadePaths.{joined, lane_made}
use Rattle.fal_gen.proofs.Words.{IsWord, words_small}

number_few : (n : ℕ) → n ≤ 4 → length (decimal n) ≤ 20
number_few n few = length-decimal-le 20 n (omega arith) (omega arith) (omega arith)

owner_few : length (owner_text 0 0) ≤ 41
owner_few = joined (decimal 0 ++ codes ":") (decimal 0) 21 20 (joined (decimal 0) (codes ":") 20 1 (number_few 0 (omega arith)) (omega arith)) (number_few 0 (omega arith))

line_made : (lane : ℕ) (o : Op) → 1 ≤ lane → lane ≤ 4 → IsMadeOp o → IsMadeLine (root_line lane o)
line_made lane o some few made = record {
  from_one = some;
  within = few;
  uid = refl;
  gid = refl;
  op = made.is;
  short =
      joined (decimal lane ++ codes " ") (owner_text 0 0 ++ codes " " ++ op_text o) 21 16363 (joined (decimal lane) (codes " ") 20 1 (number_few lane few) (omega arith))
      (joined (owner_text 0 0 ++ codes " ") (op_text o) 42 16321 (joined (owner_text 0 0) (codes " ") 41 1 owner_few (omega arith)) (let text = made.few in omega arith));
}

opening_made : AllByRecursion IsMadeLine (opening_lines 4)
opening_made = (one 1 (omega arith) (omega arith), (one 2 (omega arith) (omega arith), (one 3 (omega arith) (omega arith), (one 4 (omega arith) (omega arith), tt))))
  where
    one : (lane : ℕ) → 1 ≤ lane → lane ≤ 4 → IsMadeLine (opening_line lane)
    one lane some few = line_made lane _ some few (mkdir_made (lane_path lane) (lane_made lane (omega arith)))

drawn_made : (number : ℕ) (words : List ℕ) → AllByRecursion IsWord words → AllByRecursion IsMadeLine (lines_from number words)
drawn_made number [] are = tt
drawn_made number (word ∷ words) are =
    (line_made (number % 4 + 1) (op_by (number % 4 + 1) word) (omega arith) (omega arith) (op_made (number % 4 + 1) word (omega arith) are.0), drawn_made (number + 1) words are.1)

pub lines_made : (seed size : ℕ) → All IsMadeLine (lines_by (words_of_seed seed size))
lines_made seed size =
    let words = words_of_seed seed size in
    All-append IsMadeLine (opening_lines 4) (lines_from 0 words) (All-from_recursion IsMadeLine (opening_lines 4) opening_made)
    (All-from_recursion IsMadeLine (lines_from 0 words) (drawn_made 0 words (words_small size (source_of seed))))

drawn_count : (number : ℕ) (words : List ℕ) → length (lines_from number words) ≡ length words
drawn_count number [] = refl
drawn_count number (word ∷ words) = ap suc (drawn_count (number + 1) words)

words_count : (count : ℕ) (source : Lcg) → length (first_words pcg32 count source) ≡ count
unfolding first_words
words_count zero source = refl
words_count (suc count) source = ap suc (words_count count (pcg32 source).1)

pub lines_count : (seed size : ℕ) → length (lines_by (words_of_seed seed size)) ≡ 4 + size
lines_count seed size =
    let words = words_of_seed seed size in
    let all = length-append (opening_lines 4) (lines_from 0 words) in
    let drawn = drawn_count 0 words in
    let drew = words_count size (source_of seed) in
    omega arith

-- a script of made lines, on four nodes and four lanes
pub made_is_printable : (lines : List ScriptCall) → All IsMadeLine lines → IsPrintable (record { nodes = 4; lanes = 4; lines = lines })
made_is_printable lines made = record {
  spelled = record {
    some_nodes = omega arith;
    nodes = omega arith;
    some_lanes = omega arith;
    lanes = omega arith;
    lines = λ j line is. let at = line_at j line is in record {
      from_one = at.from_one;
      within = at.within;
      call = record { uid = subst (λ n. n < 2 ^ 32) (sym at.uid) (omega arith); gid = subst (λ n. n < 2 ^ 32) (sym at.gid) (omega arith); op = at.op };
    };
  };
  short = λ j line is. (line_at j line is).short;
}
  where
    line_at : (j : ℕ) (line : ScriptCall) → slice_get lines j ≡ Some line → IsMadeLine line
    line_at j line is = subst IsMadeLine (get_or_from_slice_get lines j line line is) (made j line (slice_get_within lines j line is))
