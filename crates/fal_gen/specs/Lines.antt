-- The script that words make: each of four lanes makes its directory, and then each word chooses a call, the lanes taking turns. All calls are
-- by root.
use Rattle.std.specs.Prelude.{◌≡◌, ◌≤◌, ℕ, ◌+◌, ◌%◌, List, ◌++◌, length, map}
use Rattle.std.specs.List.{enumerate_from, range_with_len}
use Rattle.fal_base.specs.declared.op.Op.{Op}
use Rattle.fal_base.specs.declared.op.Op.TheVariants.{Mkdir}
use Rattle.fal_script.specs.declared.script.Script.{Script}
use Rattle.fal_script.specs.declared.script.ScriptCall.{ScriptCall}
use Rattle.fal_script.specs.Printed.{call_line, IsPrintablePath, IsPrintableName}
use Rattle.fal_script.specs.Ranges.{IsOpOf}
use Rattle.fal_gen.specs.Calls.{lane_path, op_by}

-- root's call of a lane
abbrev pub root_line : ℕ → Op → ScriptCall
root_line lane op = record { lane = lane; call = record { cred = record { uid = 0; gid = 0 }; op = op } }

-- a lane makes its directory, with mode 755
abbrev pub opening_line : ℕ → ScriptCall
opening_line lane = root_line lane (Mkdir (lane_path lane) 493)

-- so many lanes, from 1 on
abbrev pub opening_lines : ℕ → List ScriptCall
opening_lines lanes = map opening_line (range_with_len 1 lanes)

-- the call of this number, from 0, by its word
abbrev pub line_by : ℕ → ℕ → ScriptCall
line_by number word = root_line (number % 4 + 1) (op_by (number % 4 + 1) word)

-- the calls by these words, of which the first has this number
abbrev pub lines_from : ℕ → List ℕ → List ScriptCall
lines_from number words = map (λ placed. line_by placed.0 placed.1) (enumerate_from number words)

-- four lanes, and then the calls by these words
abbrev pub lines_by : List ℕ → List ScriptCall
lines_by words = opening_lines 4 ++ lines_from 0 words

-- four nodes, four lanes, and these lines
abbrev pub script_of_words : List ℕ → Script
script_of_words words = record { nodes = 4; lanes = 4; lines = lines_by words }

-- root's line of one of four lanes, with paths and names that can be printed, and short enough to be read back
pub record IsMadeLine (line : ScriptCall) : Type 0 where
  pub from_one : 1 ≤ line.lane
  pub within : line.lane ≤ 4
  pub uid : line.call.cred.uid ≡ 0
  pub gid : line.call.cred.gid ≡ 0
  pub op : IsOpOf IsPrintablePath IsPrintableName line.call.op
  pub short : length (call_line line) ≤ 16384
