-- The scripts that are read: three content lines of a header, and then a call a content line. The fault is the first line that breaks a rule,
-- with the lowest rule that it breaks.
use Rattle.std.specs.Prelude.{ℕ, ◌+◌, Bool, ◌&&◌, false, List, [], ◌∷◌, ◌++◌, length, codes, if◌then◌else◌, nat_lt, Option, None, Result, Ok, Err}
use Rattle.fal_script.specs.declared.fault.ScriptFault.{ScriptFault}
use Rattle.fal_script.specs.declared.fault.ScriptFault.TheVariants.{Fault}
use Rattle.fal_script.specs.declared.reading.Draft.{Draft}
use Rattle.fal_script.specs.declared.reading.Draft.TheVariants.{Empty, Titled, Counted, Headed}
use Rattle.fal_script.specs.declared.script.Script.{Script}
use Rattle.fal_script.specs.declared.script.ScriptCall.{ScriptCall}
use Rattle.fal_script.specs.Arguments.{count_word}
use Rattle.fal_script.specs.Calls.{call_words}
use Rattle.fal_script.specs.Lines.{text_lines}
use Rattle.fal_script.specs.ReadAs.{or_rule, ◌=>>◌}
use Rattle.fal_script.specs.Words.{is_word, words_of, is_skipped_line}

-- these two words
abbrev pub are_words : List ℕ → List ℕ → List (List ℕ) → Bool
are_words first second (a ∷ b ∷ []) = is_word first a && is_word second b
are_words first second other = false

-- the count after this label
abbrev pub labelled : List ℕ → List (List ℕ) → Option ℕ
labelled label (word ∷ count ∷ []) = if is_word label word then count_word count else None
labelled label other = None

-- a script with one call more
abbrev pub with_script_call : Script → ScriptCall → Script
with_script_call script call = record script { lines = script.lines ++ call ∷ [] }

-- what is read of a script after one more content line
abbrev pub content_line : Draft → List (List ℕ) → Result Draft ℕ
content_line Empty words = if are_words (codes "falcon-script") (codes "1") words then Ok Titled else Err 2
content_line Titled words = or_rule 3 (labelled (codes "nodes") words) =>> λ nodes. Ok (Counted nodes)
content_line (Counted nodes) words = or_rule 4 (labelled (codes "lanes") words) =>> λ lanes. Ok (Headed (record { nodes = nodes; lanes = lanes; lines = [] }))
content_line (Headed script) words = call_words script.lanes words =>> λ call. Ok (Headed (with_script_call script call))

-- skipped lines change nothing
abbrev pub line_of_words : Draft → List (List ℕ) → Result Draft ℕ
line_of_words draft words = if is_skipped_line words then Ok draft else content_line draft words

-- a line has at most 16,384 bytes, its line feed not counted
unfoldable pub with_line : Draft → List ℕ → Result Draft ℕ
with_line draft line = if nat_lt 16384 (length line) then Err 1 else line_of_words draft (words_of line)

-- the script, where the header is whole before this line, which the bytes do not have
abbrev pub finished : ℕ → Draft → Result Script ScriptFault
finished at (Headed script) = Ok script
finished at other = Err (Fault at 14)

-- the fault is at this line, or what comes next is read
abbrev pub or_fault_at : ℕ → Result Draft ℕ → (Draft → Result Script ScriptFault) → Result Script ScriptFault
or_fault_at at (Ok draft) next = next draft
or_fault_at at (Err rule) next = Err (Fault at rule)

-- the script after these lines, of which the first has this number
abbrev pub script_from : ℕ → Draft → List (List ℕ) → Result Script ScriptFault
script_from at draft [] = finished at draft
script_from at draft (line ∷ lines) = or_fault_at at (with_line draft line) (λ next. script_from (at + 1) next lines)

-- the script that bytes spell, or the first line that breaks a rule, and that rule
abbrev pub script_of : List ℕ → Result Script ScriptFault
script_of bytes = script_from 1 Empty (text_lines bytes)
