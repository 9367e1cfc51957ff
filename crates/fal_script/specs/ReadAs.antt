-- What a function of the code gives, against what the grammar says.
use Rattle.std.specs.Prelude.{◌≡◌, ℕ, Option, None, Some, Result, Ok, Err}
use Rattle.fal_script.specs.declared.fault.Broken.{Broken}
use Rattle.fal_script.specs.declared.fault.Broken.TheVariants.{Rule, OutOfMemory}

-- it stopped because this rule is broken, or because memory ran out
abbrev pub Stops : {X : Type 0} → Broken → Result X ℕ → Type 0
Stops (Rule rule) answer = answer ≡ Err rule
Stops OutOfMemory answer = Unit {0}

-- what was returned is the answer, unless memory ran out
abbrev pub ReadAs : {X : Type 0} → Result X Broken → Result X ℕ → Type 0
ReadAs (Ok x) answer = answer ≡ Ok x
ReadAs (Err broken) answer = Stops broken answer

-- the value, or the rule that is broken where there is none
abbrev pub or_rule : {X : Type 0} → ℕ → Option X → Result X ℕ
or_rule rule None = Err rule
or_rule rule (Some x) = Ok x

-- one after the other; the first broken rule is the answer
infixl 10 ◌=>>◌
abbrev pub ◌=>>◌ : {X Y : Type 0} → Result X ℕ → (X → Result Y ℕ) → Result Y ℕ
(Ok x) =>> next = next x
(Err rule) =>> next = Err rule
