-- What a source that tells its bytes gave.
use Rattle.std.proofs.Common.{◌≡◌, ℕ, ◌+◌, ◌*◌, ◌<◌, ◌≤◌, ◌⊎◌, inl, inr, Bool, true, false, ◌||◌, List, [], ◌++◌, length, Option, Some, None, Result, Ok, Err, refl, sym, ap, ◌∙◌, subst, cond, nat_lt, arith, length-append, append-nil}
use Rattle.std.proofs.lemmas.Bool.Decides.{nat_tests}
use Rattle.std.specs.Io.KnownBytes.{Consumes, Appends, IsAtEnd}
use Rattle.fal_io.specs.Causes.{Rose}
use Rattle.fal_script.specs.declared.fault.ScriptFault.{ScriptFault}
use Rattle.fal_script.specs.declared.fault.ScriptFault.TheVariants.{Fault}
use Rattle.fal_script.specs.declared.script.Script.{Script}
use Rattle.fal_script.specs.Script.{script_of}
use Rattle.falcon_run.specs.declared.reading.Unread.{Unread}
use Rattle.falcon_run.specs.declared.reading.Unread.TheVariants.{ReadFault, TooLarge, NoScript, OutOfMemory}
use Rattle.falcon_run.specs.Headline.{HasTooMany, is_too_large, lists_of, owed, owed_script}
use Rattle.falcon_run.specs.Reading.{GivesScript, OwedFor}

below : (a b : ℕ) → a < b → nat_lt a b ≡ true
below a b lt = grind (arith, nat_tests)

not_below : (a b : ℕ) → b ≤ a → nat_lt a b ≡ false
not_below a b le = grind (arith, nat_tests)

or_first : (a b : Bool) → a ≡ true → (a || b) ≡ true
or_first a b is = rw is refl

or_second : (a b : Bool) → b ≡ true → (a || b) ≡ true
or_second true b is = refl
or_second false b is = is

or_neither : (a b : Bool) → a ≡ false → b ≡ false → (a || b) ≡ false
or_neither a b first second = rw (first, second) refl

-- all that was told was taken
all_taken : (bytes taken : List ℕ) (rest : Option (List ℕ)) → Consumes (Some bytes) rest taken → IsAtEnd rest → bytes ≡ taken
all_taken bytes taken None consumed end = absurd consumed
all_taken bytes taken (Some left) consumed end = consumed ∙ ap (λ xs. taken ++ xs) end ∙ append-nil taken

front_taken : (bytes taken : List ℕ) (rest : Option (List ℕ)) → Consumes (Some bytes) rest taken → length taken ≤ length bytes
front_taken bytes taken None consumed = absurd consumed
front_taken bytes taken (Some left) consumed = let sum : length bytes ≡ length taken + length left = ap length consumed ∙ length-append taken left in omega arith

within : (bytes : List ℕ) → length bytes ≤ 16777216 → owed bytes ≡ owed_script (length bytes) (script_of bytes)
within bytes few = ap (λ b. cond b 7 (owed_script (length bytes) (script_of bytes))) (not_below 16777216 (length bytes) few)

script_owed : (bytes taken : List ℕ) (rest : Option (List ℕ)) (script : Script) → Consumes (Some bytes) rest taken → IsAtEnd rest → length taken ≤ 16777216 → script_of taken ≡ Ok script
    → length script.lines ≤ 10000 → lists_of script * length taken ≤ 134217728 → owed bytes ≡ 0
script_owed bytes taken rest script consumed end small is few short =
    let same = all_taken bytes taken rest consumed end in
    ap owed same ∙ within taken small ∙ ap (owed_script (length taken)) is
    ∙ ap (λ b. cond b 7 0) (or_neither _ _ (not_below 10000 (length script.lines) few) (not_below 134217728 (lists_of script * length taken) short))

none_owed : (bytes taken : List ℕ) (rest : Option (List ℕ)) (fault : ScriptFault) → Consumes (Some bytes) rest taken → IsAtEnd rest → length taken ≤ 16777216 → script_of taken ≡ Err fault → owed bytes ≡ 3
none_owed bytes taken rest fault consumed end small script =
    let same = all_taken bytes taken rest consumed end in
    ap owed same ∙ within taken small ∙ ap (owed_script (length taken)) script

too_many : (b : Bool) (status : ℕ) → status ≡ 7 → cond b 7 status ≡ 7
too_many true status is = refl
too_many false status is = is

too_large : (size : ℕ) (script : Script) → (10000 < length script.lines) ⊎ (134217728 < lists_of script * size) → is_too_large size script ≡ true
too_large size script (inl many) = or_first _ _ (below 10000 (length script.lines) many)
too_large size script (inr long) = or_second _ _ (below 134217728 (lists_of script * size) long)

large_owed : (bytes taken : List ℕ) (rest : Option (List ℕ)) → Consumes (Some bytes) rest taken → (16777216 < length taken) ⊎ (IsAtEnd rest × HasTooMany taken) → owed bytes ≡ 7
large_owed bytes taken rest consumed (inl many) =
    let front = front_taken bytes taken rest consumed in
    ap (λ b. cond b 7 (owed_script (length bytes) (script_of bytes))) (below 16777216 (length bytes) (omega arith))
large_owed bytes taken rest consumed (inr whole) =
    let same = all_taken bytes taken rest consumed whole.0 in
    ap owed same
    ∙ too_many (nat_lt 16777216 (length taken)) (owed_script (length taken) (script_of taken))
    (ap (owed_script (length taken)) whole.1.1 ∙ ap (λ b. cond b 7 0) (too_large (length taken) whole.1.0 whole.1.2))

pub gives_owed : (bytes : List ℕ) (rest : Option (List ℕ)) (before now : ℕ) (result : Result Script Unread) → GivesScript (Some bytes) rest before now result → (Rose before now → ⊥) → OwedFor result bytes
gives_owed bytes rest before now (Ok script) is calm = script_owed bytes is.0 rest script is.1 is.2 is.3 is.4 is.5 is.6
gives_owed bytes rest before now (Err ReadFault) is calm = calm is.0
gives_owed bytes rest before now (Err TooLarge) is calm = large_owed bytes is.0 rest is.1 is.2
gives_owed bytes rest before now (Err (NoScript line rule)) is calm = none_owed bytes is.0 rest (Fault line rule) is.1 is.2 is.3 is.4
gives_owed bytes rest before now (Err OutOfMemory) is calm = tt

pub told : (bytes : List ℕ) (left rest : Option (List ℕ)) (before now : ℕ) (result : Result Script Unread) → left ≡ Some bytes → GivesScript left rest before now result → (Rose before now → ⊥) → OwedFor result bytes
told bytes left rest before now result tells is calm = gives_owed bytes rest before now result (subst (λ l. GivesScript l rest before now result) tells is) calm

-- nothing was appended
pub nothing_appended : (held : Option (List ℕ)) → Appends held held []
nothing_appended None = tt
nothing_appended (Some bytes) = sym (append-nil bytes)
