-- Bytes that are escaped are read back.
use Rattle.std.proofs.Common.{◌≡◌, ℕ, ◌+◌, ◌/◌, ◌%◌, ◌<◌, ◌≤◌, Bool, true, false, cond, ◌&&◌, nat_le, nat_lt, List, [], ◌∷◌, ◌++◌, length, Option, Some, None, refl, sym, ap, ◌∙◌, arith, append_assoc, append-nil, length-append}
use Rattle.std.specs.Prelude.{◌==◌}
use Rattle.std.specs.List.{AllByRecursion, flat_map}
use Rattle.std.specs.Option.{option_map}
use Rattle.std.proofs.lemmas.Bool.Decides.{nat_tests}
use Rattle.fal_report.specs.Escapes.{is_plain_byte, hex_digit, escaped_byte, escaped, each_after}
use Rattle.fal_script.specs.Escapes.{hex_value, hex_byte, with_byte, unescaped}
use Rattle.fal_script.proofs.ReadBack.Words.{IsWord, each_append}

-- a byte that is no percent sign stands for itself, whatever comes after it
plain_first : (b : ℕ) (rest : List ℕ) → (b == 37) ≡ false → unescaped (b ∷ rest) ≡ with_byte (Some b) (unescaped rest)
plain_first b [] plain = rw plain refl
plain_first b (c ∷ []) plain = rw plain refl
plain_first b (c ∷ d ∷ rest) plain = rw plain refl

low_digit : (n : ℕ) → n < 10 → hex_value (48 + n) ≡ Some n
unfolding hex_value
low_digit n low =
    let is : (nat_le 48 (48 + n) && nat_le (48 + n) 57) ≡ true = grind (arith, nat_tests) in
    rw is (ap Some (omega arith))

high_digit : (n : ℕ) → 10 ≤ n → n < 16 → hex_value (55 + n) ≡ Some n
unfolding hex_value
high_digit n low high =
    let no : (nat_le 48 (55 + n) && nat_le (55 + n) 57) ≡ false = grind (arith, nat_tests) in
    let is : (nat_le 65 (55 + n) && nat_le (55 + n) 70) ≡ true = grind (arith, nat_tests) in
    rw (no, is) (ap Some (omega arith))

digit_read : (n : ℕ) → n < 16 → hex_value (hex_digit n) ≡ Some n
digit_read n small =
    elim (nat_lt n 10) as (λ b. nat_lt n 10 ≡ b → hex_value (cond b (48 + n) (55 + n)) ≡ Some n) [
      | true ↦ λ is. low_digit n (grind (arith, nat_tests))
      | false ↦ λ is. high_digit n (grind (arith, nat_tests)) small
    ] refl

byte_read : (b : ℕ) → b < 256 → hex_byte (hex_digit (b / 16)) (hex_digit (b % 16)) ≡ Some b
unfolding hex_byte
byte_read b small = rw (digit_read (b / 16) (omega arith), digit_read (b % 16) (omega arith)) (ap Some (omega arith))

first_read : (b : ℕ) (rest : List ℕ) → b < 256 → unescaped (escaped_byte b ++ rest) ≡ with_byte (Some b) (unescaped rest)
unfolding escaped_byte
first_read b rest small =
    elim (is_plain_byte b) as (λ t. is_plain_byte b ≡ t → unescaped (cond t (b ∷ []) (37 ∷ hex_digit (b / 16) ∷ hex_digit (b % 16) ∷ []) ++ rest) ≡ with_byte (Some b) (unescaped rest)) [
      | true ↦ λ is. plain_first b rest (grind (arith, nat_tests))
      | false ↦ λ is. ap (λ o. with_byte o (unescaped rest)) (byte_read b small)
    ] refl

nothing_more : (rest : Option (List ℕ)) → rest ≡ option_map (λ bs. bs) rest
nothing_more None = refl
nothing_more (Some bs) = refl

one_more : (b : ℕ) (bytes : List ℕ) (rest : Option (List ℕ)) → with_byte (Some b) (option_map (λ bs. bytes ++ bs) rest) ≡ option_map (λ bs. b ∷ bytes ++ bs) rest
one_more b bytes None = refl
one_more b bytes (Some bs) = refl

-- what is escaped in front of other bytes
pub front_read : (bytes : List ℕ) (rest : List ℕ) → AllByRecursion (λ b. b < 256) bytes → unescaped (escaped bytes ++ rest) ≡ option_map (λ bs. bytes ++ bs) (unescaped rest)
front_read [] rest small = nothing_more (unescaped rest)
front_read (b ∷ bytes) rest small =
    ap unescaped (append_assoc (escaped_byte b) (escaped bytes) rest)
    ∙ first_read b (escaped bytes ++ rest) small.0
    ∙ ap (with_byte (Some b)) (front_read bytes rest small.1)
    ∙ one_more b bytes (unescaped rest)

pub escaped_read : (bytes : List ℕ) → AllByRecursion (λ b. b < 256) bytes → unescaped (escaped bytes) ≡ Some bytes
escaped_read bytes small = ap unescaped (sym (append-nil (escaped bytes))) ∙ front_read bytes [] small ∙ ap Some (append-nil bytes)

hex_dark : (n : ℕ) → 32 < hex_digit n
hex_dark n = by (nat_lt n 10)
  where
    by : (b : Bool) → 32 < cond b (48 + n) (55 + n)
    by true = omega arith
    by false = omega arith

-- an escaped byte is of bytes that are greater than a space, and there is one
byte_dark : (b : ℕ) → AllByRecursion (λ c. 32 < c) (escaped_byte b) × (0 < length (escaped_byte b))
unfolding escaped_byte
byte_dark b =
    elim (is_plain_byte b) as (λ t. is_plain_byte b ≡ t → AllByRecursion (λ c. 32 < c) (cond t (b ∷ []) (37 ∷ hex_digit (b / 16) ∷ hex_digit (b % 16) ∷ [])) × (0 < length (cond t (b ∷ []) (37 ∷ hex_digit (b / 16) ∷ hex_digit (b % 16) ∷ [])))) [
      | true ↦ λ is. ((grind (arith, nat_tests), tt), omega arith)
      | false ↦ λ is. ((omega arith, (hex_dark (b / 16), (hex_dark (b % 16), tt))), omega arith)
    ] refl

pub escaped_dark : (bytes : List ℕ) → AllByRecursion (λ c. 32 < c) (escaped bytes)
escaped_dark [] = tt
escaped_dark (b ∷ bytes) = each_append (λ c. 32 < c) (escaped_byte b) (escaped bytes) (byte_dark b).0 (escaped_dark bytes)

pub escaped_is_word : (bytes : List ℕ) → 0 < length bytes → IsWord (escaped bytes)
escaped_is_word [] some = absurd (omega arith)
escaped_is_word (b ∷ bytes) some =
    let first = (byte_dark b).1 in
    record { some = omega (arith, first, length-append (escaped_byte b) (escaped bytes)); dark = escaped_dark (b ∷ bytes) }

-- names, each after a slash
abbrev pub joined : List (List ℕ) → List ℕ
joined names = flat_map (λ name. 47 ∷ name) names

pub names_read : (names : List (List ℕ)) → AllByRecursion (λ name. AllByRecursion (λ b. b < 256) name) names → unescaped (each_after 47 names) ≡ Some (joined names)
names_read [] small = refl
names_read (name ∷ names) small =
    plain_first 47 (escaped name ++ each_after 47 names) refl
    ∙ ap (with_byte (Some 47)) (front_read name (each_after 47 names) small.0 ∙ ap (option_map (λ bs. name ++ bs)) (names_read names small.1))

pub names_dark : (names : List (List ℕ)) → AllByRecursion (λ c. 32 < c) (each_after 47 names)
names_dark [] = tt
names_dark (name ∷ names) = (omega arith, each_append (λ c. 32 < c) (escaped name) (each_after 47 names) (escaped_dark name) (names_dark names))
