-- What holds of the numbers and paths of each script that is read.
use Rattle.std.specs.Prelude.{◌≡◌, ◌<◌, ◌≤◌, ◌^◌, ℕ, List, Some, slice_get, IsTrue}
use Rattle.fal_base.specs.declared.call.Call.{Call}
use Rattle.fal_base.specs.declared.op.Op.{Op}
use Rattle.fal_base.specs.declared.op.Op.TheVariants as op
use Rattle.fal_base.specs.declared.path.PathArg.{PathArg}
use Rattle.fal_base.specs.declared.rule.Rule.{Rule}
use Rattle.fal_base.specs.declared.rule.Rule.TheVariants.{Hash, ByParent, Node}
use Rattle.fal_base.specs.Names.{is_name}
use Rattle.fal_base.specs.PathArgs.{path_arg_of}
use Rattle.fal_script.specs.declared.script.Script.{Script}
use Rattle.fal_script.specs.declared.script.ScriptCall.{ScriptCall}

-- a rule of placement whose node fits 16 bits
abbrev pub IsSpelledRule : Rule → Type 0
IsSpelledRule Hash = Unit
IsSpelledRule ByParent = Unit
IsSpelledRule (Node node) = node < 65536

-- what is said of scripts whose paths and names have these properties
module _ (Path : PathArg → Type 0) (Name : List ℕ → Type 0) where
  -- an operation of such paths and names, and with numbers that the grammar can spell
  abbrev pub IsOpOf : Op → Type 0
  IsOpOf (op.Mkdir path mode) = Path path × (mode < 512)
  IsOpOf (op.Create path mode) = Path path × (mode < 512)
  IsOpOf (op.Stat path) = Path path
  IsOpOf (op.Access path want) = Path path × (want < 8)
  IsOpOf (op.Chmod path mode) = Path path × (mode < 512)
  IsOpOf (op.Chown path uid gid) = Path path × (uid < 2 ^ 32) × (gid < 2 ^ 32)
  IsOpOf (op.Truncate path size) = Path path × (size < 2 ^ 63)
  IsOpOf (op.Unlink path) = Path path
  IsOpOf (op.Rmdir path) = Path path
  IsOpOf (op.Rename old new) = Path old × Path new
  IsOpOf (op.List path) = Path path
  IsOpOf (op.Place name rule) = Name name × IsSpelledRule rule

  -- a call's caller fits 32 bits, and its operation is such a one
  pub record IsCallOf (call : Call) : Type 0 where
    pub uid : call.cred.uid < 2 ^ 32
    pub gid : call.cred.gid < 2 ^ 32
    pub op : IsOpOf call.op

  -- a line's lane is one of so many, and its call is such a one
  pub record IsLineOf (lanes : ℕ) (line : ScriptCall) : Type 0 where
    pub from_one : 1 ≤ line.lane
    pub within : line.lane ≤ lanes
    pub call : IsCallOf line.call

  -- there are 1 to 16 nodes and 1 to 16 lanes, and each line is such a one
  pub record IsScriptOf (script : Script) : Type 0 where
    pub some_nodes : 1 ≤ script.nodes
    pub nodes : script.nodes ≤ 16
    pub some_lanes : 1 ≤ script.lanes
    pub lanes : script.lanes ≤ 16
    pub lines : (j : ℕ) (line : ScriptCall) → slice_get script.lines j ≡ Some line → IsLineOf script.lanes line

-- it is what some bytes spell
abbrev pub IsSpelled : PathArg → Type 0
IsSpelled path = (bytes : List ℕ) × (path ≡ path_arg_of bytes)

-- it is a name
abbrev pub IsSpelledName : List ℕ → Type 0
IsSpelledName name = IsTrue (is_name name)

-- an operation as the grammar has them
abbrev pub IsSpelledOp : Op → Type 0
IsSpelledOp = IsOpOf IsSpelled IsSpelledName

-- a call as the grammar has them
abbrev pub IsSpelledCall : Call → Type 0
IsSpelledCall = IsCallOf IsSpelled IsSpelledName

-- a line as the grammar has them, where there are so many lanes
abbrev pub IsSpelledLine : ℕ → ScriptCall → Type 0
IsSpelledLine = IsLineOf IsSpelled IsSpelledName

-- a script as the grammar has them
abbrev pub IsSpelledScript : Script → Type 0
IsSpelledScript = IsScriptOf IsSpelled IsSpelledName
