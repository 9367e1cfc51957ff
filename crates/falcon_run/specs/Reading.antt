-- What reading a script gives, or why there is none.
use Rattle.std.specs.Prelude.{◌≡◌, ℕ, ◌*◌, ◌≤◌, length, List, Option, Result, Ok, Err}
use Rattle.fal_io.specs.Causes.{Rose, Took}
use Rattle.fal_script.specs.declared.fault.ScriptFault.TheVariants.{Fault}
use Rattle.fal_script.specs.declared.script.Script.{Script}
use Rattle.fal_script.specs.Script.{script_of}
use Rattle.falcon_run.specs.declared.reading.Unread.{Unread}
use Rattle.falcon_run.specs.declared.reading.Unread.TheVariants.{ReadFault, TooLarge, NoScript, OutOfMemory}
use Rattle.falcon_run.specs.Headline.{GaveScript, GaveNoScript, GaveTooMuch, HasTooMany, LostFront, lists_of, owed}

-- what bytes that were read whole are as a script
abbrev pub IsScript : List ℕ → Result Script Unread → Type 0
IsScript bytes (Ok script) = (script_of bytes ≡ Ok script) × (length script.lines ≤ 10000) × (lists_of script * length bytes ≤ 134217728)
IsScript bytes (Err TooLarge) = HasTooMany bytes
IsScript bytes (Err (NoScript line rule)) = script_of bytes ≡ Err (Fault line rule)
IsScript bytes (Err OutOfMemory) = Unit {0}
IsScript bytes (Err ReadFault) = ⊥

-- what the source gave, or why there is no script of it
abbrev pub GivesScript : Option (List ℕ) → Option (List ℕ) → ℕ → ℕ → Result Script Unread → Type 0
GivesScript left rest before now (Ok script) = GaveScript left rest script
GivesScript left rest before now (Err ReadFault) = Rose before now × Took left rest (λ n. n ≤ 16777216)
GivesScript left rest before now (Err TooLarge) = GaveTooMuch left rest
GivesScript left rest before now (Err (NoScript line rule)) = GaveNoScript left rest line rule
GivesScript left rest before now (Err OutOfMemory) = Unit {0}

-- whatever comes of it, the source has lost a front of what it had
pub record IsReading (left rest : Option (List ℕ)) (before now : ℕ) (result : Result Script Unread) : Type 0 where
  pub gives : GivesScript left rest before now result
  pub lost : LostFront left rest

-- the status that the bytes are owed where they were all told and the source did not fail
abbrev pub OwedFor : Result Script Unread → List ℕ → Type 0
OwedFor (Ok script) bytes = owed bytes ≡ 0
OwedFor (Err TooLarge) bytes = owed bytes ≡ 7
OwedFor (Err (NoScript line rule)) bytes = owed bytes ≡ 3
OwedFor (Err ReadFault) bytes = ⊥
OwedFor (Err OutOfMemory) bytes = Unit {0}
