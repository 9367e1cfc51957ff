-- What holds of each script that is read.
use Rattle.std.proofs.Common.{◌≡◌, ℕ, zero, suc, ◌+◌, Bool, true, false, cond, nat_lt, List, [], ◌∷◌, ◌++◌, length, Some, Result, Ok, Err, slice_get, refl, subst}
use Rattle.std.specs.Prelude.{codes}
use Rattle.std.specs.List.{AllByRecursion}
use Rattle.fal_base.specs.declared.path.PathArg.{PathArg}
use Rattle.std.proofs.lemmas.Option.{none-some, same_Some}
use Rattle.fal_script.specs.declared.fault.ScriptFault.{ScriptFault}
use Rattle.fal_script.specs.declared.reading.Draft.{Draft}
use Rattle.fal_script.specs.declared.reading.Draft.TheVariants.{Empty, Titled, Counted, Headed}
use Rattle.fal_script.specs.declared.script.Script.{Script}
use Rattle.fal_script.specs.declared.script.ScriptCall.{ScriptCall}
use Rattle.fal_script.specs.Arguments.{count_word, path_word, name_word}
use Rattle.fal_script.specs.Calls.{call_words}
use Rattle.fal_script.specs.Lines.{text_lines}
use Rattle.fal_script.specs.Ranges.{IsSpelled, IsSpelledName, IsSpelledScript, IsLineOf, IsScriptOf}
use Rattle.fal_script.specs.ReadAs.{or_rule}
use Rattle.fal_script.specs.Script.{are_words, labelled, with_script_call, content_line, line_of_words, with_line, finished, or_fault_at, script_from, script_of}
use Rattle.fal_script.specs.Words.{is_word, words_of, is_skipped_line}
use Rattle.fal_script.proofs.Results.{let_through, err-ok, same_Ok, ruled, tested, both_read}
use Rattle.fal_script.proofs.Ranges.{IsFromOne, counted_small, path_spelled, name_spelled, words_spelled}

labelled_small : (label : List ℕ) (words : List (List ℕ)) (n : ℕ) → labelled label words ≡ Some n → IsFromOne 16 n
labelled_small label [] n is = absurd (none-some _ is)
labelled_small label (a ∷ []) n is = absurd (none-some _ is)
labelled_small label (a ∷ b ∷ []) n is = counted_small 16 b n (let_through (is_word label a) (count_word b) n is).1
labelled_small label (a ∷ b ∷ c ∷ words) n is = absurd (none-some _ is)

-- one call more at the end
at_end : (P : ScriptCall → Type 0) (calls : List ScriptCall) (call : ScriptCall) → ((j : ℕ) (line : ScriptCall) → slice_get calls j ≡ Some line → P line) → P call
    → (j : ℕ) (line : ScriptCall) → slice_get (calls ++ call ∷ []) j ≡ Some line → P line
at_end P [] call before last zero line at = subst P (same_Some call line at) last
at_end P [] call before last (suc j) line at = absurd (none-some line at)
at_end P (first ∷ calls) call before last zero line at = before 0 line at
at_end P (first ∷ calls) call before last (suc j) line at = at_end P calls call (λ k l is. before (suc k) l is) last j line at

-- where a script is read, no line has a fault
no_fault : {P : Type 0} (at : ℕ) (r : Result Draft ℕ) (next : Draft → Result Script ScriptFault) (script : Script) → or_fault_at at r next ≡ Ok script → ((draft : Draft) → r ≡ Ok draft → next draft ≡ Ok script → P) → P
no_fault at (Ok draft) next script is then = then draft refl is
no_fault at (Err rule) next script is then = absurd (err-ok _ script is)

-- where each line and each word of it has some property, what is read has paths and names of such words
module _ (Line Word : List ℕ → Type 0) (Path : PathArg → Type 0) (Name : List ℕ → Type 0) (of_line : (line : List ℕ) → Line line → AllByRecursion Word (words_of line))
    (of_path : (word : List ℕ) (path : PathArg) → Word word → path_word word ≡ Ok path → Path path) (of_name : (word name : List ℕ) → Word word → name_word word ≡ Ok name → Name name) where
  -- what was read so far is in range
  abbrev IsDraft : Draft → Type 0
  IsDraft Empty = Unit
  IsDraft Titled = Unit
  IsDraft (Counted nodes) = IsFromOne 16 nodes
  IsDraft (Headed script) = IsScriptOf Path Name script

  content_kept : (draft next : Draft) (words : List (List ℕ)) → AllByRecursion Word words → IsDraft draft → content_line draft words ≡ Ok next → IsDraft next
  content_kept Empty next words are in_range is = by (are_words (codes "falcon-script") (codes "1") words) is
    where
      by : (b : Bool) → cond {A = Result Draft ℕ} b (Ok Titled) (Err 2) ≡ Ok next → IsDraft next
      by true is = subst IsDraft (same_Ok Titled next is) tt
      by false is = absurd (err-ok 2 next is)
  content_kept Titled next words are in_range is =
      both_read (or_rule 3 (labelled (codes "nodes") words)) _ next is (λ n some rest. subst IsDraft (same_Ok (Counted n) next rest) (labelled_small (codes "nodes") words n (ruled 3 _ n some)))
  content_kept (Counted nodes) next words are in_range is =
      both_read (or_rule 4 (labelled (codes "lanes") words)) _ next is (λ n some rest.
      let few = labelled_small (codes "lanes") words n (ruled 4 _ n some) in
      subst IsDraft (same_Ok (Headed (record { nodes = nodes; lanes = n; lines = [] })) next rest)
      (record {
        some_nodes = in_range.some;
        nodes = in_range.within;
        some_lanes = few.some;
        lanes = few.within;
        lines = λ j line at. absurd (none-some line at);
      }))
  content_kept (Headed script) next words are in_range is =
      both_read (call_words script.lanes words) _ next is (λ call some rest.
      subst IsDraft (same_Ok (Headed (with_script_call script call)) next rest)
      (record {
        some_nodes = in_range.some_nodes;
        nodes = in_range.nodes;
        some_lanes = in_range.some_lanes;
        lanes = in_range.lanes;
        lines = at_end (IsLineOf Path Name script.lanes) script.lines call in_range.lines (words_spelled Word Path Name of_path of_name script.lanes words call are some);
      }))

  words_kept : (draft next : Draft) (words : List (List ℕ)) → AllByRecursion Word words → IsDraft draft → line_of_words draft words ≡ Ok next → IsDraft next
  words_kept draft next words are in_range is = by (is_skipped_line words) is
    where
      by : (b : Bool) → cond b (Ok draft) (content_line draft words) ≡ Ok next → IsDraft next
      by true is = subst IsDraft (same_Ok draft next is) in_range
      by false is = content_kept draft next words are in_range is

  line_kept : (draft next : Draft) (line : List ℕ) → Line line → IsDraft draft → with_line draft line ≡ Ok next → IsDraft next
  unfolding with_line
  line_kept draft next line are in_range is = words_kept draft next (words_of line) (of_line line are) in_range (tested (nat_lt 16384 (length line)) 1 (line_of_words draft (words_of line)) next is).1

  finished_kept : (at : ℕ) (draft : Draft) (script : Script) → IsDraft draft → finished at draft ≡ Ok script → IsScriptOf Path Name script
  finished_kept at Empty script in_range is = absurd (err-ok _ script is)
  finished_kept at Titled script in_range is = absurd (err-ok _ script is)
  finished_kept at (Counted nodes) script in_range is = absurd (err-ok _ script is)
  finished_kept at (Headed read) script in_range is = subst (IsScriptOf Path Name) (same_Ok read script is) in_range

  lines_kept : (at : ℕ) (draft : Draft) (lines : List (List ℕ)) (script : Script) → AllByRecursion Line lines → IsDraft draft → script_from at draft lines ≡ Ok script → IsScriptOf Path Name script
  lines_kept at draft [] script are in_range is = finished_kept at draft script in_range is
  lines_kept at draft (line ∷ lines) script are in_range is =
      no_fault at (with_line draft line) (λ next. script_from (at + 1) next lines) script is
      (λ next some rest. lines_kept (at + 1) next lines script are.1 (line_kept draft next line are.0 in_range some) rest)

  pub script_kept : (bytes : List ℕ) (script : Script) → AllByRecursion Line (text_lines bytes) → script_of bytes ≡ Ok script → IsScriptOf Path Name script
  script_kept bytes script are is = lines_kept 1 Empty (text_lines bytes) script are tt is

each_unit : {A : Type 0} (xs : List A) → AllByRecursion (λ x. Unit {0}) xs
each_unit [] = tt
each_unit (x ∷ xs) = (tt, each_unit xs)

-- each script that is read is in range
pub script_in_range : (bytes : List ℕ) (script : Script) → script_of bytes ≡ Ok script → IsSpelledScript script
script_in_range bytes script is =
    script_kept (λ line. Unit) (λ word. Unit) IsSpelled IsSpelledName (λ line tt. each_unit (words_of line)) (λ word path unit. path_spelled word path) (λ word name unit. name_spelled word name) bytes script (each_unit (text_lines bytes)) is
