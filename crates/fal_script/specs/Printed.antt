-- The text of a script: its three header lines, and a line a call. Numbers have no leading zeros.
use Rattle.std.specs.Prelude.{◌≡◌, ℕ, ◌<◌, ◌≤◌, List, ◌++◌, length, codes, Some, slice_get, IsTrue}
use Rattle.std.specs.Fmt.{decimal}
use Rattle.std.specs.List.{All, flat_map, list_all}
use Rattle.fal_base.specs.declared.path.PathArg.{PathArg}
use Rattle.fal_base.specs.declared.path.PathArg.TheVariants.{Good, Bad}
use Rattle.fal_base.specs.Names.{is_name}
use Rattle.fal_base.specs.PathArgs.{fault_in}
use Rattle.fal_base.specs.Paths.{path_bytes}
use Rattle.fal_report.specs.Calls.{call_text}
use Rattle.fal_report.specs.Counts.{count_text}
use Rattle.fal_script.specs.declared.script.Script.{Script}
use Rattle.fal_script.specs.declared.script.ScriptCall.{ScriptCall}
use Rattle.fal_script.specs.Ranges.{IsScriptOf}

-- a lane and its call
abbrev pub call_line : ScriptCall → List ℕ
call_line line = decimal line.lane ++ codes " " ++ call_text line.call

-- the first three lines
unfoldable pub script_header_text : Script → List ℕ
script_header_text script = codes "falcon-script 1\n" ++ count_text (codes "nodes") script.nodes ++ count_text (codes "lanes") script.lanes

-- all lines
abbrev pub script_text : Script → List ℕ
script_text script = script_header_text script ++ flat_map (λ line. call_line line ++ codes "\n") script.lines

-- the bytes fit 8 bits each
abbrev pub AreBytes : List ℕ → Type 0
AreBytes bytes = All (λ b. b < 256) bytes

-- a good path has names that, with a slash before each, have at most 4,095 bytes; a bad one has bytes, and the fault of these
abbrev pub IsPrintablePath : PathArg → Type 0
IsPrintablePath (Good names) = IsTrue (list_all is_name names) × All AreBytes names × (path_bytes names ≤ 4095)
IsPrintablePath (Bad fault raw) = (0 < length raw) × AreBytes raw × (fault_in raw ≡ Some fault)

-- a name of bytes
abbrev pub IsPrintableName : List ℕ → Type 0
IsPrintableName name = IsTrue (is_name name) × AreBytes name

-- a script that can be printed: one of the grammar, of such paths and names, and no line of it has more than 16,384 bytes
pub record IsPrintable (script : Script) : Type 0 where
  pub spelled : IsScriptOf IsPrintablePath IsPrintableName script
  pub short : (j : ℕ) (line : ScriptCall) → slice_get script.lines j ≡ Some line → length (call_line line) ≤ 16384
