-- A script that is printed is read back.
use Rattle.std.proofs.Common.{◌≡◌, ℕ, suc, ◌+◌, ◌<◌, ◌≤◌, false, nat_lt, List, [], ◌∷◌, ◌++◌, length, Some, Ok, slice_get, refl, sym, ap, ◌∙◌, arith, append_assoc, append-nil, length-append}
use Rattle.std.specs.Prelude.{◌==◌, codes}
use Rattle.std.specs.Fmt.{decimal}
use Rattle.std.specs.List.{AllByRecursion, flat_map}
use Rattle.std.proofs.lemmas.Bool.Decides.{nat_tests}
use Rattle.std.proofs.lemmas.Fmt.{length-decimal-le}
use Rattle.fal_report.specs.Counts.{count_text}
use Rattle.fal_script.specs.declared.reading.Draft.{Draft}
use Rattle.fal_script.specs.declared.reading.Draft.TheVariants.{Empty, Titled, Counted, Headed}
use Rattle.fal_script.specs.declared.script.Script.{Script}
use Rattle.fal_script.specs.declared.script.ScriptCall.{ScriptCall}
use Rattle.fal_script.specs.Lines.{text_lines}
use Rattle.fal_script.specs.Printed.{call_line, script_header_text, script_text, IsPrintable}
use Rattle.fal_script.specs.Script.{with_script_call, content_line, line_of_words, with_line, or_fault_at, script_from, script_of}
use Rattle.fal_script.specs.Words.{is_word, is_comment, is_skipped_line, words_of}
use Rattle.fal_script.proofs.ReadBack.Calls.{IsPrintableLine, each_dark, words_in, line_spaced, are_words as call_has_words, call_read}
use Rattle.fal_script.proofs.ReadBack.Numbers.{counted_read, decimal_digits, decimal_is_word}
use Rattle.fal_script.proofs.ReadBack.Words.{IsWord, spaced, words_spaced, spaced_is_line, line_ended}

-- ---- one line

not_long : (n : ℕ) → n ≤ 16384 → nat_lt 16384 n ≡ false
not_long n short = grind (arith, nat_tests)

-- a short line of words, of which the first begins no comment
line_read : (draft next : Draft) (words : List (List ℕ)) → AllByRecursion IsWord words → length (spaced words) ≤ 16384 → is_skipped_line words ≡ false → content_line draft words ≡ Ok next → with_line draft (spaced words) ≡ Ok next
unfolding with_line
line_read draft next words are short content is =
    rw (not_long (length (spaced words)) short) (ap (line_of_words draft) (words_spaced words are) ∙ rw content is)

no_comment : (digits : List ℕ) → AllByRecursion (λ b. (47 < b) × (b < 58)) digits → is_comment digits ≡ false
no_comment [] are = refl
no_comment (d ∷ digits) are = let low = are.0.0 in digit d low
  where
    digit : (b : ℕ) → 47 < b → (b == 35) ≡ false
    digit b low = grind (arith, nat_tests)

call_line_read : (script : Script) (line : ScriptCall) → script.lanes ≤ 16 → IsPrintableLine script.lanes line → length (call_line line) ≤ 16384 → with_line (Headed script) (call_line line) ≡ Ok (Headed (with_script_call script line))
call_line_read script line few is short =
    let within = is.within in
    ap (with_line (Headed script)) (line_spaced line)
    ∙ line_read (Headed script) (Headed (with_script_call script line)) (words_in line) (call_has_words script.lanes line few is) (few_bytes (length (call_line line)) (length (spaced (words_in line))) (ap length (line_spaced line)) short)
    (no_comment (decimal line.lane) (decimal_digits line.lane (omega (arith, within, few))))
    (rw (call_read script.lanes line few is) refl)
  where
    few_bytes : (n m : ℕ) → n ≡ m → n ≤ 16384 → m ≤ 16384
    few_bytes n m same low = omega (arith, same, low)

-- ---- all lines of calls

-- the lines of these calls, each ended
abbrev lines_text : List ScriptCall → List ℕ
lines_text lines = flat_map (λ line. call_line line ++ codes "\n") lines

next_line : (at : ℕ) (draft next : Draft) (line : List ℕ) (lines : List (List ℕ)) → with_line draft line ≡ Ok next → script_from at draft (line ∷ lines) ≡ script_from (at + 1) next lines
next_line at draft next line lines is = ap (λ r. or_fault_at at r (λ d. script_from (at + 1) d lines)) is

calls_read : (at : ℕ) (script : Script) (lines : List ScriptCall) → script.lanes ≤ 16 → ((j : ℕ) (line : ScriptCall) → slice_get lines j ≡ Some line → IsPrintableLine script.lanes line)
    → ((j : ℕ) (line : ScriptCall) → slice_get lines j ≡ Some line → length (call_line line) ≤ 16384) → script_from at (Headed script) (text_lines (lines_text lines)) ≡ Ok (record script { lines = script.lines ++ lines })
calls_read at script [] few are short = ap (λ ls. Ok (record script { lines = ls })) (sym (append-nil script.lines))
calls_read at script (line ∷ lines) few are short =
    let this = are 0 line refl in
    ap (λ text. script_from at (Headed script) (text_lines text)) (append_assoc (call_line line) (10 ∷ []) (lines_text lines))
    ∙ ap (script_from at (Headed script)) (ap (λ text. text_lines (text ++ 10 ∷ lines_text lines)) (line_spaced line) ∙ line_ended (spaced (words_in line)) (lines_text lines) (spaced_is_line (words_in line) (call_has_words script.lanes line few this)) ∙ ap (λ text. text ∷ text_lines (lines_text lines)) (sym (line_spaced line)))
    ∙ next_line at (Headed script) (Headed (with_script_call script line)) (call_line line) (text_lines (lines_text lines)) (call_line_read script line few this (short 0 line refl))
    ∙ calls_read (at + 1) (with_script_call script line) lines few (λ j l is. are (suc j) l is) (λ j l is. short (suc j) l is)
    ∙ ap (λ ls. Ok (record script { lines = ls })) (append_assoc script.lines (line ∷ []) lines)

-- ---- the header

count_is : (label : List ℕ) (n : ℕ) (rest : List ℕ) → count_text label n ++ rest ≡ spaced (label ∷ decimal n ∷ []) ++ 10 ∷ rest
unfolding count_text
count_is label n rest = append_assoc (label ++ 32 ∷ [] ++ decimal n) (10 ∷ []) rest ∙ ap (λ text. text ++ 10 ∷ rest) (append_assoc label (32 ∷ []) (decimal n))

title_read : with_line Empty (codes "falcon-script 1") ≡ Ok Titled
unfolding with_line is_word words_of
title_read = refl

count_short : (label : List ℕ) (n : ℕ) → length label ≤ 100 → n ≤ 16 → length (spaced (label ∷ decimal n ∷ [])) ≤ 16384
count_short label n low few =
    let digits = length-decimal-le 20 n (omega arith) (omega (arith, few)) (omega (arith, few)) in
    omega (arith, low, digits, length-append label (32 ∷ decimal n))

-- a label and its count
abbrev counted : List ℕ → ℕ → List (List ℕ)
counted label n = label ∷ decimal n ∷ []

nodes_are_words : (n : ℕ) → n ≤ 16 → AllByRecursion IsWord (counted (codes "nodes") n)
nodes_are_words n few = (record { some = omega arith; dark = each_dark (codes "nodes") refl }, (decimal_is_word n (omega (arith, few)), tt))

lanes_are_words : (n : ℕ) → n ≤ 16 → AllByRecursion IsWord (counted (codes "lanes") n)
lanes_are_words n few = (record { some = omega arith; dark = each_dark (codes "lanes") refl }, (decimal_is_word n (omega (arith, few)), tt))

nodes_read : (n : ℕ) → 1 ≤ n → n ≤ 16 → with_line Titled (spaced (counted (codes "nodes") n)) ≡ Ok (Counted n)
unfolding is_word
nodes_read n some few =
    line_read Titled (Counted n) (counted (codes "nodes") n) (nodes_are_words n few) (count_short (codes "nodes") n (omega arith) few) refl (rw (counted_read 16 n some few (omega (arith, few))) refl)

lanes_read : (nodes n : ℕ) → 1 ≤ n → n ≤ 16 → with_line (Counted nodes) (spaced (counted (codes "lanes") n)) ≡ Ok (Headed (record { nodes = nodes; lanes = n; lines = [] }))
unfolding is_word
lanes_read nodes n some few =
    line_read (Counted nodes) (Headed (record { nodes = nodes; lanes = n; lines = [] })) (counted (codes "lanes") n) (lanes_are_words n few) (count_short (codes "lanes") n (omega arith) few) refl
    (rw (counted_read 16 n some few (omega (arith, few))) refl)

-- ---- the script

text_is : (script : Script) → script_text script ≡ codes "falcon-script 1" ++ 10 ∷ (spaced (counted (codes "nodes") script.nodes) ++ 10 ∷ (spaced (counted (codes "lanes") script.lanes) ++ 10 ∷ lines_text script.lines))
unfolding script_header_text
text_is script =
    ap (λ text. codes "falcon-script 1\n" ++ text) (
    append_assoc (count_text (codes "nodes") script.nodes) (count_text (codes "lanes") script.lanes) (lines_text script.lines)
    ∙ count_is (codes "nodes") script.nodes (count_text (codes "lanes") script.lanes ++ lines_text script.lines)
    ∙ ap (λ text. spaced (counted (codes "nodes") script.nodes) ++ 10 ∷ text) (count_is (codes "lanes") script.lanes (lines_text script.lines))
    )

title_is_line : AllByRecursion (λ b. 31 < b) (codes "falcon-script 1")
title_is_line =
    spaced_is_line (codes "falcon-script" ∷ codes "1" ∷ []) (record { some = omega arith; dark = each_dark (codes "falcon-script") refl }, (record { some = omega arith; dark = each_dark (codes "1") refl }, tt))

-- one line is read, and then the rest
ended_read : (at : ℕ) (draft next : Draft) (line rest : List ℕ) → AllByRecursion (λ b. 31 < b) line → with_line draft line ≡ Ok next → script_from at draft (text_lines (line ++ 10 ∷ rest)) ≡ script_from (at + 1) next (text_lines rest)
ended_read at draft next line rest light is = ap (script_from at draft) (line_ended line rest light) ∙ next_line at draft next line (text_lines rest) is

-- what is printed is read back
printed_is_read : (script : Script) → IsPrintable script → script_of (script_text script) ≡ Ok script
printed_is_read script is =
    let lanes = spaced (counted (codes "lanes") script.lanes) ++ 10 ∷ lines_text script.lines in
    let nodes = spaced (counted (codes "nodes") script.nodes) ++ 10 ∷ lanes in
    ap (λ text. script_from 1 Empty (text_lines text)) (text_is script)
    ∙ ended_read 1 Empty Titled (codes "falcon-script 1") nodes title_is_line title_read
    ∙ ended_read 2 Titled (Counted script.nodes) (spaced (counted (codes "nodes") script.nodes)) lanes (spaced_is_line (counted (codes "nodes") script.nodes) (nodes_are_words script.nodes is.spelled.nodes))
    (nodes_read script.nodes is.spelled.some_nodes is.spelled.nodes)
    ∙ ended_read 3 (Counted script.nodes) (Headed (record { nodes = script.nodes; lanes = script.lanes; lines = [] })) (spaced (counted (codes "lanes") script.lanes)) (lines_text script.lines)
    (spaced_is_line (counted (codes "lanes") script.lanes) (lanes_are_words script.lanes is.spelled.lanes)) (lanes_read script.nodes script.lanes is.spelled.some_lanes is.spelled.lanes)
    ∙ calls_read 4 (record { nodes = script.nodes; lanes = script.lanes; lines = [] }) script.lines is.spelled.lanes is.spelled.lines is.short

pub text_read_back : (script : Script) (text : List ℕ) → text ≡ script_text script → IsPrintable script → script_of text ≡ Ok script
text_read_back script text is printable = ap script_of is ∙ printed_is_read script printable
