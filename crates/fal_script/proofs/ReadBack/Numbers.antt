-- Numbers and modes that are printed are read back.
use Rattle.std.proofs.Common.{◌≡◌, ℕ, ◌+◌, ◌/◌, ◌%◌, ◌<◌, ◌≤◌, ◌^◌, Bool, true, cond, ◌&&◌, nat_le, List, [], ◌∷◌, length, Some, None, refl, ap, ◌∙◌, arith}
use Rattle.std.specs.List.{AllByRecursion, list_all}
use Rattle.std.specs.Fmt.{decimal}
use Rattle.std.specs.Prelude.{Ok}
use Rattle.std.proofs.lemmas.Bool.{and_parts, leb-true}
use Rattle.std.proofs.lemmas.Bool.Decides.{nat_tests}
use Rattle.std.proofs.lemmas.Fmt.{decimal_nonempty, digits_decimal, digits_value-decimal, length-decimal-le}
use Rattle.std.proofs.lemmas.Str.Parse.{IsDigitsTest, IsNumeralModel, numerals_by_fold}
use Rattle.fal_report.specs.Inodes.{mode_text}
use Rattle.fal_script.specs.Arguments.{mode_word, number_word}
use Rattle.fal_script.specs.Numbers.{is_digit, value_after, are_digits, is_number, number_up_to, number_from_one, is_octal, octal_after, are_octal, is_mode, spelled_mode}
use Rattle.fal_script.proofs.ReadBack.Words.{IsWord, each_weaker}

abbrev AreDigits : List ℕ → Type 0
AreDigits ds = list_all is_digit ds ≡ true

both_true : (a b : Bool) → a ≡ true → b ≡ true → (a && b) ≡ true
both_true a b p q = rw (p, q) refl

in_range : (c : ℕ) → 48 ≤ c → c ≤ 57 → is_digit c ≡ true
in_range c low high = grind (arith, nat_tests)

digits_are_told : IsDigitsTest AreDigits
digits_are_told = record {
  empty = refl;
  parts = λ c cs e. let p = and_parts (is_digit c) (list_all is_digit cs) e in let q = and_parts (nat_le 48 c) (nat_le c 57) p.0 in ((leb-true 48 c q.0, leb-true c 57 q.1), p.1);
  more = λ c cs k e. both_true (is_digit c) (list_all is_digit cs) (in_range c k.0 k.1) e;
}

numerals : IsNumeralModel AreDigits (value_after 0)
numerals = numerals_by_fold AreDigits digits_are_told value_after (record { empty = λ n. refl; more = λ n c cs k. refl })

chosen : (a b c d : Bool) (v n : ℕ) → a ≡ true → b ≡ true → c ≡ true → d ≡ true → v ≡ n → cond ((a && b && c) && d) (Some v) None ≡ Some n
chosen a b c d v n p q r s same = rw (p, q, r, s, same) refl

at_least : (a b : ℕ) → a ≤ b → nat_le a b ≡ true
at_least a b le = grind (arith, nat_tests)

-- a number that is not too large is read back
pub number_read : (most n : ℕ) → n ≤ most → n < 2 ^ 64 → number_up_to most (decimal n) ≡ Some n
unfolding number_up_to is_number are_digits
number_read most n few small =
    let some = decimal_nonempty n small in
    let short = length-decimal-le 20 n (omega arith) (omega arith) small in
    let value = digits_value-decimal numerals n small in
    chosen (nat_le 1 (length (decimal n))) (nat_le (length (decimal n)) 20) (list_all is_digit (decimal n)) (nat_le (value_after 0 (decimal n)) most) (value_after 0 (decimal n)) n
    (at_least 1 (length (decimal n)) (omega arith)) (at_least (length (decimal n)) 20 short) (digits_decimal numerals n small) (ap (λ v. nat_le v most) value ∙ at_least n most few) value

pub number_word_read : (most n : ℕ) → n ≤ most → n < 2 ^ 64 → number_word most (decimal n) ≡ Ok n
unfolding number_word
number_word_read most n few small = rw (number_read most n few small) refl

pub counted_read : (most n : ℕ) → 1 ≤ n → n ≤ most → n < 2 ^ 64 → number_from_one most (decimal n) ≡ Some n
unfolding number_from_one
counted_read most n some few small = rw (number_read most n few small, at_least 1 n some) refl

pub each_digit : (ds : List ℕ) → AreDigits ds → AllByRecursion (λ b. (47 < b) × (b < 58)) ds
each_digit [] are = tt
each_digit (d ∷ ds) are =
    let p = and_parts (is_digit d) (list_all is_digit ds) are in
    let q = and_parts (nat_le 48 d) (nat_le d 57) p.0 in
    let low = leb-true 48 d q.0 in
    let high = leb-true d 57 q.1 in
    ((omega (arith, low), omega (arith, high)), each_digit ds p.1)

pub decimal_digits : (n : ℕ) → n < 2 ^ 64 → AllByRecursion (λ b. (47 < b) × (b < 58)) (decimal n)
decimal_digits n small = each_digit (decimal n) (digits_decimal numerals n small)

pub decimal_is_word : (n : ℕ) → n < 2 ^ 64 → IsWord (decimal n)
decimal_is_word n small = record { some = decimal_nonempty n small; dark = each_weaker (λ b. (47 < b) × (b < 58)) (λ b. 32 < b) (decimal n) (λ b is. let low = is.0 in omega (arith, low)) (decimal_digits n small) }

-- ---- modes

octal : (n : ℕ) → is_octal (48 + n % 8) ≡ true
octal n = both_true (nat_le 48 (48 + n % 8)) (nat_le (48 + n % 8) 55) (at_least 48 (48 + n % 8) (omega arith)) (at_least (48 + n % 8) 55 (omega arith))

mode_value : (mode : ℕ) → mode < 512 → octal_after 0 (mode_text mode) ≡ mode
mode_value mode small = omega arith

pub mode_read : (mode : ℕ) → mode < 512 → mode_word (mode_text mode) ≡ Ok mode
unfolding mode_word spelled_mode is_mode are_octal
mode_read mode small =
    rw (octal (mode / 64), octal (mode / 8), octal mode, mode_value mode small, at_least mode 511 (omega arith)) refl

pub mode_is_word : (mode : ℕ) → IsWord (mode_text mode)
mode_is_word mode = record { some = omega arith; dark = (omega arith, (omega arith, (omega arith, tt))) }
