-- When a fault may be told, and what was read or written by then.
use Rattle.std.specs.Prelude.{◌≡◌, ℕ, ◌+◌, ◌-◌, ◌^◌, ◌≤◌, ◌<◌, min, Bool, true, false, List, [], length, take, Option, Some, Result, Ok, Err, Vec}
use Rattle.std.specs.Io.KnownBytes.{Consumes, Appends, IsAtEnd}
use Rattle.std.specs.declared.alloc.Global.{Global}
use Rattle.fal_io.specs.declared.failed.Failed.{Failed}
use Rattle.fal_io.specs.declared.failed.Failed.TheVariants as failed
use Rattle.fal_io.specs.declared.read.ReadAll.{ReadAll}
use Rattle.fal_io.specs.declared.read.ReadAll.TheVariants as read

-- what a reader has left, until it has told its end
abbrev pub left_until_end : Bool → Option (List ℕ) → Option (List ℕ)
left_until_end true known = Some []
left_until_end false known = known

-- one more, in a count of 64 bits that stays at its end
abbrev pub next_count : ℕ → ℕ
next_count count = min (count + 1) (2 ^ 64 - 1)

-- the count has risen, where a count at its end is taken as risen
abbrev pub Rose : ℕ → ℕ → Type 0
Rose before now = next_count before ≤ now

-- a count of faults never falls, and a fault is told only where it has risen
pub record HasCause {T : Type 0} (before now : ℕ) (result : Result T Failed) : Type 0 where
  pub never_falls : before ≤ now
  pub fault : result ≡ Err failed.Fault → Rose before now

-- some front of the bytes was appended
abbrev pub AppendsFront : Option (List ℕ) → Option (List ℕ) → List ℕ → Type 0
AppendsFront old new bytes = (n : ℕ) × (n ≤ length bytes) × Appends old new (take n bytes)

-- bytes were taken from the front of what was left, and this holds of how many
abbrev pub Took : Option (List ℕ) → Option (List ℕ) → (ℕ → Type 0) → Type 0
Took old new IsCount = (taken : List ℕ) × Consumes old new taken × IsCount (length taken)

-- all that was left, up to a limit, or why not: a read that passes the limit is the last one, and takes at most a piece
abbrev pub Reads : ℕ → ℕ → Option (List ℕ) → Option (List ℕ) → ℕ → ℕ → Result (Vec ℕ Global) ReadAll → Type 0
Reads limit piece old new before now (Ok bytes) = Consumes old new bytes.items × IsAtEnd new × (length bytes.items ≤ limit)
Reads limit piece old new before now (Err read.Fault) = Took old new (λ n. n ≤ limit) × Rose before now
Reads limit piece old new before now (Err read.TooLarge) = Took old new (λ n. (limit < n) × (n ≤ limit + piece))
Reads limit piece old new before now (Err read.OutOfMemory) = Took old new (λ n. n ≤ limit)

-- the bytes that were read, and a count of faults that never falls
pub record ReadsAll (limit piece : ℕ) (old new : Option (List ℕ)) (before now : ℕ) (result : Result (Vec ℕ Global) ReadAll) : Type 0 where
  pub never_falls : before ≤ now
  pub bytes : Reads limit piece old new before now result
