-- What a run of the program answers and writes.
use Rattle.std.specs.Prelude.{◌≡◌, ◌⊎◌, ℕ, ◌*◌, ◌<◌, ◌≤◌, nat_lt, Bool, ◌||◌, if◌then◌else◌, List, [], ◌∷◌, ◌++◌, length, map, count_by, codes, Option, Some, None, Result, Ok, Err, string_bytes}
use Rattle.std.specs.declared.string.String.{String}
use Rattle.std.specs.declared.alloc.Global.{Global}
use Rattle.std.specs.Fmt.{decimal}
use Rattle.std.specs.Io.KnownBytes.{Consumes, Appends, IsAtEnd}
use Rattle.fal_base.specs.declared.call.Config.{Config}
use Rattle.fal_base.specs.declared.event.Event.{Event}
use Rattle.fal_base.specs.Transcript.{is_list}
use Rattle.fal_io.specs.Causes.{Rose, AppendsFront}
use Rattle.fal_script.specs.declared.fault.ScriptFault.{ScriptFault}
use Rattle.fal_script.specs.declared.fault.ScriptFault.TheVariants.{Fault}
use Rattle.fal_script.specs.declared.script.Script.{Script}
use Rattle.fal_script.specs.declared.script.ScriptCall.{ScriptCall}
use Rattle.fal_script.specs.Configs.{config_of_script, order_of}
use Rattle.fal_script.specs.Script.{script_of}
use Rattle.fal_story.specs.Run.{IsLegal}
use Rattle.fal_words.specs.Asked.{asked_of}
use Rattle.fal_words.specs.declared.asked.Asked.{Asked}
use Rattle.falcon_run.specs.Recorded.{IsRecorded, run_text}

-- what the words ask for, where they are in the grammar and that is served
abbrev pub words_ask : List (String Global) → Option Asked
words_ask words = asked_of (map string_bytes words)

-- the cluster of a script. A batch takes one call
abbrev pub cluster_of : Script → Config
cluster_of script = config_of_script script 1

-- these are the cluster of the script and its one run
abbrev pub IsRunOf : Script → Config → List Event → Type 0
IsRunOf script config events = (config ≡ cluster_of script) × IsRecorded config (order_of script.lines) events

-- the statuses that a run answers
abbrev pub IsStatus : ℕ → Type 0
IsStatus status = (status ≡ 0) ⊎ (status ≡ 2) ⊎ (status ≡ 3) ⊎ (status ≡ 4) ⊎ (status ≡ 5) ⊎ (status ≡ 6) ⊎ (status ≡ 7)

-- the line that is written with a status, where one is
abbrev pub usage_line : List ℕ
usage_line = codes "falcon: usage\n"

-- with the line of the script that breaks a rule, and the rule
abbrev pub script_line : ℕ → ℕ → List ℕ
script_line line rule = codes "falcon: script line " ++ decimal line ++ codes " rule " ++ decimal rule ++ codes "\n"

abbrev pub fault_line : List ℕ
fault_line = codes "falcon: read fault\n"

abbrev pub large_line : List ℕ
large_line = codes "falcon: too large\n"

-- whether the line's call is a list
abbrev pub is_list_line : ScriptCall → Bool
is_list_line line = is_list line.call.op

-- how many calls of the script are lists
abbrev pub lists_of : Script → ℕ
lists_of script = count_by is_list_line script.lines

-- the bytes are a script of more calls than are served, or of more lists than are served for so many bytes
abbrev pub HasTooMany : List ℕ → Type 0
HasTooMany bytes = (script : Script) × (script_of bytes ≡ Ok script) × ((10000 < length script.lines) ⊎ (134217728 < lists_of script * length bytes))

-- the source gave all that it had, a script of not too many calls, nor of too many lists for so many bytes
abbrev pub GaveScript : Option (List ℕ) → Option (List ℕ) → Script → Type 0
GaveScript left rest script =
    (bytes : List ℕ) × Consumes left rest bytes × IsAtEnd rest × (length bytes ≤ 16777216) × (script_of bytes ≡ Ok script) × (length script.lines ≤ 10000)
    × (lists_of script * length bytes ≤ 134217728)

-- the source gave all that it had, within the limit, and that is no script: this line is the first that breaks a rule, and this rule the lowest
abbrev pub GaveNoScript : Option (List ℕ) → Option (List ℕ) → ℕ → ℕ → Type 0
GaveNoScript left rest line rule = (bytes : List ℕ) × Consumes left rest bytes × IsAtEnd rest × (length bytes ≤ 16777216) × (script_of bytes ≡ Err (Fault line rule))

-- the source gave more bytes than are read, or all that it had, a script of too many calls or lists
abbrev pub GaveTooMuch : Option (List ℕ) → Option (List ℕ) → Type 0
GaveTooMuch left rest = (bytes : List ℕ) × Consumes left rest bytes × ((16777216 < length bytes) ⊎ (IsAtEnd rest × HasTooMany bytes))

-- the source lost a front of what it had, and nothing else
abbrev pub LostFront : Option (List ℕ) → Option (List ℕ) → Type 0
LostFront left rest = (bytes : List ℕ) × Consumes left rest bytes

-- whether a script of so many bytes has more calls or lists than are served
abbrev pub is_too_large : ℕ → Script → Bool
is_too_large size script = nat_lt 10000 (length script.lines) || nat_lt 134217728 (lists_of script * size)

-- the status that so many bytes are owed by the script that they spell
abbrev pub owed_script : ℕ → Result Script ScriptFault → ℕ
owed_script size (Err fault) = 3
owed_script size (Ok script) = if is_too_large size script then 7 else 0

-- the status that these bytes are owed where no stream fails
abbrev pub owed : List ℕ → ℕ
owed bytes = if nat_lt 16777216 (length bytes) then 7 else owed_script (length bytes) (script_of bytes)

-- a text was appended whole, or only a front of it where the count of faults has risen
abbrev pub Wrote : List ℕ → Option (List ℕ) → Option (List ℕ) → ℕ → ℕ → Type 0
Wrote text held holds before now = Appends held holds text ⊎ (Rose before now × AppendsFront held holds text)

-- the source gave no script, and the line that tells where was written
abbrev pub ToldFault : Option (List ℕ) → Option (List ℕ) → Option (List ℕ) → Option (List ℕ) → ℕ → ℕ → Type 0
ToldFault left rest held holds before now = (line : ℕ) × (rule : ℕ) × (GaveNoScript left rest line rule × Wrote (script_line line rule) held holds before now)

-- with want of memory: what was written is a front of the text of the script's run, or of a refusal's line
abbrev pub IsWritten : Option (List ℕ) → Option (List ℕ) → Option Config → List Event → List ℕ → Type 0
IsWritten left rest traced events text =
    (text ≡ usage_line) ⊎ ((line : ℕ) × (rule : ℕ) × (GaveNoScript left rest line rule × (text ≡ script_line line rule))) ⊎ (text ≡ fault_line) ⊎ (text ≡ large_line)
    ⊎ ((script : Script) × ((config : Config) × (GaveScript left rest script × (traced ≡ Some config) × IsRunOf script config events × (text ≡ run_text config events))))

-- the trace has no run, or a legal one of the script's cluster
abbrev pub IsTraced : Option (List ℕ) → Option (List ℕ) → Option Config → List Event → Type 0
IsTraced left rest None events = events ≡ []
IsTraced left rest (Some config) events = (script : Script) × (GaveScript left rest script × (config ≡ cluster_of script) × IsLegal config events)

-- with status 0: the source gave a script and nothing is left of it, the trace has the script's cluster and its one run, and the sink got its text
abbrev pub IsDone : Option (List ℕ) → Option (List ℕ) → Option (List ℕ) → Option (List ℕ) → Option Config → List Event → Type 0
IsDone left rest held holds traced events =
    (script : Script) × ((config : Config) × (GaveScript left rest script × (traced ≡ Some config) × IsRunOf script config events × Appends held holds (run_text config events)))

-- with status 5: the same, but the sink failed and got a front of the text
abbrev pub IsCutOff : Option (List ℕ) → Option (List ℕ) → Option (List ℕ) → Option (List ℕ) → Option Config → List Event → Type 0
IsCutOff left rest held holds traced events =
    (script : Script) × ((config : Config) × (GaveScript left rest script × (traced ≡ Some config) × IsRunOf script config events × AppendsFront held holds (run_text config events)))

-- with status 6: a front of a text was written, and the trace has a legal run of the script's cluster or none
pub record WantsMemory (left rest held holds : Option (List ℕ)) (traced : Option Config) (events : List Event) : Type 0 where
  pub text : List ℕ
  pub is_written : IsWritten left rest traced events text
  pub front : AppendsFront held holds text
  pub lost : LostFront left rest
  pub run : IsTraced left rest traced events
