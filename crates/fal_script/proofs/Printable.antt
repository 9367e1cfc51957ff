-- The paths and names of a script that was read from bytes can be printed.
use Rattle.std.proofs.Common.{◌≡◌, ⊎_elim, ℕ, suc, ◌+◌, ◌-◌, ◌*◌, ◌<◌, ◌≤◌, Bool, true, false, cond, ◌&&◌, ◌||◌, nat_le, nat_lt, List, [], ◌∷◌, length, filter, get_or, Option, Some, None, Result, Ok, Err, refl, sym, ap, subst, arith}
use Rattle.std.specs.Prelude.{◌==◌}
use Rattle.std.specs.List.{All, AllByRecursion, onto_first, slice_split}
use Rattle.std.proofs.lemmas.Bool.{and_parts, leb-true}
use Rattle.std.proofs.lemmas.Bool.Decides.{nat_tests}
use Rattle.std.proofs.lemmas.List.Elements.{All-from_recursion}
use Rattle.std.proofs.lemmas.Option.{none-some, option_and_then_some, same_Some}
use Rattle.fal_base.specs.declared.path.PathArg.{PathArg}
use Rattle.fal_base.specs.declared.path.PathFault.{PathFault}
use Rattle.fal_base.specs.declared.name.NameFault.TheVariants.{Empty, TooLong, Slash, ZeroByte, Dot}
use Rattle.fal_base.specs.Names.{name_of}
use Rattle.fal_base.specs.PathArgs.{arg_of, err_of, path_arg_of}
use Rattle.fal_base.specs.Paths.{components, path_bytes, path_of}
use Rattle.fal_base.specs.Unless.{UnlessMemory}
use Rattle.fal_script.specs.declared.fault.ScriptFault.TheVariants.{OutOfMemory}
use Rattle.fal_script.specs.declared.script.Script.{Script}
use Rattle.fal_script.specs.Arguments.{bytes_word, path_word, judged_name, name_word}
use Rattle.fal_script.specs.Escapes.{hex_value, hex_byte, with_byte, itself, unescaped}
use Rattle.fal_script.specs.Lines.{text_lines, longer}
use Rattle.fal_script.specs.Printed.{AreBytes, IsPrintablePath, IsPrintableName}
use Rattle.fal_script.specs.Ranges.{IsScriptOf}
use Rattle.fal_script.specs.Script.{script_of}
use Rattle.fal_script.specs.Words.{words_of}
use Rattle.fal_script.proofs.GoodPaths.{each_kept, passes, good_path}
use Rattle.fal_script.proofs.InRange.{script_kept}
use Rattle.fal_script.proofs.Ranges.{name_spelled, named_is}
use Rattle.fal_script.proofs.ReadBack.Words.{each_weaker}
use Rattle.fal_script.proofs.Results.{err-ok, mapped, ruled, same_Ok, both_read}

abbrev Small : List ℕ → Type 0
Small bytes = AllByRecursion (λ b. b < 256) bytes

-- ---- lines and words

longer_small : (b : ℕ) (lines : List (List ℕ)) → b < 256 → AllByRecursion Small lines → AllByRecursion Small (longer b lines)
longer_small b [] small are = ((small, tt), tt)
longer_small b (line ∷ lines) small are = ((small, are.0), are.1)

lines_small : (bytes : List ℕ) → Small bytes → AllByRecursion Small (text_lines bytes)
lines_small [] small = tt
lines_small (b ∷ bytes) small =
    let rest = lines_small bytes small.1 in
    elim (b == 10) as (λ t. AllByRecursion Small (cond t ([] ∷ text_lines bytes) (longer b (text_lines bytes)))) [
      | true ↦ (tt, rest)
      | false ↦ longer_small b (text_lines bytes) small.0 rest
    ]

onto_small : (b : ℕ) (parts : List (List ℕ)) → b < 256 → AllByRecursion Small parts → AllByRecursion Small (onto_first b parts)
onto_small b [] small are = ((small, tt), tt)
onto_small b (part ∷ parts) small are = ((small, are.0), are.1)

parts_small : (cut : ℕ → Bool) (bytes : List ℕ) → Small bytes → AllByRecursion Small (slice_split cut bytes)
parts_small cut [] small = (tt, tt)
parts_small cut (b ∷ bytes) small =
    let rest = parts_small cut bytes small.1 in
    elim (cut b) as (λ t. AllByRecursion Small (cond t ([] ∷ slice_split cut bytes) (onto_first b (slice_split cut bytes)))) [
      | true ↦ (tt, rest)
      | false ↦ onto_small b (slice_split cut bytes) small.0 rest
    ]

-- there are bytes, and they fit 8 bits each
abbrev IsText : List ℕ → Type 0
IsText bytes = (0 < length bytes) × Small bytes

has_bytes : (bytes : List ℕ) → Small bytes × (nat_lt 0 (length bytes) ≡ true) → IsText bytes
has_bytes bytes is = let some = is.1 in (grind (arith, nat_tests), is.0)

words_small : (line : List ℕ) → Small line → AllByRecursion IsText (words_of line)
unfolding words_of
words_small line small =
    let parts = slice_split (λ b. b == 32 || b == 9) line in
    each_weaker (λ (part : List ℕ). Small part × (nat_lt 0 (length part) ≡ true)) IsText (filter (λ part. nat_lt 0 (length part)) parts) has_bytes
    (each_kept Small (λ part. nat_lt 0 (length part)) parts (parts_small (λ b. b == 32 || b == 9) line small))

-- ---- escapes

digit_small : (digit n : ℕ) → hex_value digit ≡ Some n → n < 16
unfolding hex_value
digit_small digit n is = three (nat_le 48 digit && nat_le digit 57) (nat_le 65 digit && nat_le digit 70) (nat_le 97 digit && nat_le digit 102) refl refl refl is
  where
    within : (most less : ℕ) → digit ≤ most → most < less + 16 → digit - less ≡ n → n < 16
    within most less high few same = omega (arith, high, few, same)

    three : (a b c : Bool) → (nat_le 48 digit && nat_le digit 57) ≡ a → (nat_le 65 digit && nat_le digit 70) ≡ b → (nat_le 97 digit && nat_le digit 102) ≡ c
        → cond a (Some (digit - 48)) (cond b (Some (digit - 55)) (cond c (Some (digit - 87)) None)) ≡ Some n → n < 16
    three true b c p q r e = within 57 48 (leb-true digit 57 (and_parts _ _ p).1) (omega arith) (same_Some (digit - 48) n e)
    three false true c p q r e = within 70 55 (leb-true digit 70 (and_parts _ _ q).1) (omega arith) (same_Some (digit - 55) n e)
    three false false true p q r e = within 102 87 (leb-true digit 102 (and_parts _ _ r).1) (omega arith) (same_Some (digit - 87) n e)
    three false false false p q r e = absurd (none-some n e)

byte_small : (high low byte : ℕ) → hex_byte high low ≡ Some byte → byte < 256
unfolding hex_byte
byte_small high low byte is =
    option_and_then_some _ (hex_value high) byte is (λ h first rest.
    mapped (λ l. 16 * h + l) (hex_value low) byte rest (λ l second same.
    let a = digit_small high h first in
    let b = digit_small low l second in
    omega (arith, a, b, same)))

made_of : {Z : Type 0} (first : Option ℕ) (rest : Option (List ℕ)) (bytes : List ℕ) → with_byte first rest ≡ Some bytes → ((b : ℕ) (bs : List ℕ) → first ≡ Some b → rest ≡ Some bs → b ∷ bs ≡ bytes → Z) → Z
made_of None rest bytes is then = absurd (none-some bytes is)
made_of (Some b) rest bytes is then = mapped (λ bs. b ∷ bs) rest bytes is (λ bs some same. then b bs refl some same)

itself_small : (a b : ℕ) → a < 256 → itself a ≡ Some b → b < 256
itself_small a b small is = by (a == 37) is
  where
    by : (t : Bool) → cond t None (Some a) ≡ Some b → b < 256
    by true e = absurd (none-some b e)
    by false e = subst (λ n. n < 256) (same_Some a b e) small

-- the bytes that a word stands for are small, and there are some where the word has some
abbrev IsTextOf : List ℕ → List ℕ → Type 0
IsTextOf word bytes = Small bytes × (0 < length word → 0 < length bytes)

one_first : (word : List ℕ) (b : ℕ) (bs bytes : List ℕ) → b < 256 → Small bs → b ∷ bs ≡ bytes → IsTextOf word bytes
one_first word b bs bytes small are same = subst (IsTextOf word) same ((small, are), λ some. omega arith)

read_text : (word bytes : List ℕ) → Small word → unescaped word ≡ Some bytes → IsTextOf word bytes
read_text [] bytes small is = subst (IsTextOf []) (same_Some [] bytes is) (tt, λ some. some)
read_text (a ∷ []) bytes small is =
    made_of (itself a) (Some []) bytes is (λ b bs first rest same. one_first (a ∷ []) b bs bytes (itself_small a b small.0 first) (subst Small (same_Some [] bs rest) tt) same)
read_text (a ∷ b ∷ []) bytes small is =
    made_of (itself a) (unescaped (b ∷ [])) bytes is (λ x bs first rest same. one_first (a ∷ b ∷ []) x bs bytes (itself_small a x small.0 first) (read_text (b ∷ []) bs small.1 rest).0 same)
read_text (a ∷ b ∷ c ∷ rest) bytes small is =
    elim (a == 37) as (λ t. cond t (with_byte (hex_byte b c) (unescaped rest)) (with_byte (Some a) (unescaped (b ∷ c ∷ rest))) ≡ Some bytes → IsTextOf (a ∷ b ∷ c ∷ rest) bytes) [
      | true ↦ λ e. made_of (hex_byte b c) (unescaped rest) bytes e (λ x bs first more same. one_first (a ∷ b ∷ c ∷ rest) x bs bytes (byte_small b c x first) (read_text rest bs small.1.1.1 more).0 same)
      | false ↦ λ e. made_of (Some a) (unescaped (b ∷ c ∷ rest)) bytes e (λ x bs first more same. one_first (a ∷ b ∷ c ∷ rest) x bs bytes (subst (λ n. n < 256) (same_Some a x first) small.0) (read_text (b ∷ c ∷ rest) bs small.1 more).0 same)
    ] is

word_read : (word bytes : List ℕ) → IsText word → bytes_word word ≡ Ok bytes → IsText bytes
unfolding bytes_word
word_read word bytes text is = let read = read_text word bytes text.1 (ruled 10 (unescaped word) bytes is) in (read.1 text.0, read.0)

-- ---- paths and names

names_small : (bytes : List ℕ) (names : List (List ℕ)) → Small bytes → components bytes ≡ names → All AreBytes names
names_small bytes names small same =
    let parts = slice_split (λ b. b == 47) bytes in
    let kept = each_kept Small (λ part. nat_lt 0 (length part)) parts (parts_small (λ b. b == 47) bytes small) in
    All-from_recursion AreBytes names
    (subst (AllByRecursion AreBytes) same
    (each_weaker (λ (part : List ℕ). Small part × (nat_lt 0 (length part) ≡ true)) AreBytes (components bytes) (λ part is. All-from_recursion (λ b. b < 256) part is.0) kept))

at_most : (n most : ℕ) → nat_le n most ≡ true → n ≤ most
at_most n most is = leb-true n most is

path_is : (bytes : List ℕ) (r : Result (List (List ℕ)) PathFault) → IsText bytes → path_of bytes ≡ r → IsPrintablePath (arg_of bytes r)
path_is bytes (Err fault) text is = (text.0, All-from_recursion (λ b. b < 256) bytes text.1, ap err_of is)
path_is bytes (Ok names) text is =
    let good = good_path bytes names is in (good.1, names_small bytes names text.1 (passes bytes names is).names_are, at_most (path_bytes names) 4095 good.0)

path_printable : (word : List ℕ) (path : PathArg) → IsText word → path_word word ≡ Ok path → IsPrintablePath path
unfolding path_word
path_printable word path text is =
    both_read (bytes_word word) (λ bytes. Ok (path_arg_of bytes)) path is (λ bytes some rest.
    subst IsPrintablePath (same_Ok (path_arg_of bytes) path rest) (path_is bytes (path_of bytes) (word_read word bytes text some) refl))

name_printable : (word name : List ℕ) → IsText word → name_word word ≡ Ok name → IsPrintableName name
unfolding name_word
name_printable word name text is = (
  name_spelled word name is,
  both_read (bytes_word word) (λ bytes. judged_name (name_of bytes)) name is (λ bytes some rest.
      subst AreBytes (named_is (Empty ∷ TooLong ∷ Slash ∷ ZeroByte ∷ Dot ∷ []) bytes name rest).1 (All-from_recursion (λ b. b < 256) bytes (word_read word bytes text some).1)),
)

-- ---- scripts

each_small : (bytes : List ℕ) → ((i : ℕ) → get_or bytes i 0 < 256) → Small bytes
each_small [] each = tt
each_small (b ∷ bytes) each = (each 0, each_small bytes (λ i. each (suc i)))

printable : (bytes : List ℕ) (script : Script) → Small bytes → script_of bytes ≡ Ok script → IsScriptOf IsPrintablePath IsPrintableName script
printable bytes script small is = script_kept Small IsText IsPrintablePath IsPrintableName words_small path_printable name_printable bytes script (lines_small bytes small) is

pub read_is_printable : (bytes : List ℕ) (script : Script) → ((i : ℕ) → get_or bytes i 0 < 256) → UnlessMemory OutOfMemory (Ok script) (script_of bytes) → IsScriptOf IsPrintablePath IsPrintableName script
read_is_printable bytes script each is = ⊎_elim (λ same. printable bytes script (each_small bytes each) (sym same)) (λ memory. absurd (err-ok OutOfMemory script (sym memory))) is
