-- What `clap` reads of a word, by its form.
use Rattle.std.proofs.Common.{◌≡◌, ℕ, Bool, true, false, cond, List, [], ◌∷◌, Some, None, refl, sym, subst, arith}
use Rattle.std.specs.Prelude.{slice_get, ◌==◌, encode_utf8_all}
use Rattle.std.specs.Str.{bytes_eq, chars, IsUtf8}
use Rattle.std.proofs.lemmas.Str.{encodes-chars, IsUtf8-drop, IsCharBoundary-after_ascii}
use Rattle.std.proofs.lemmas.Bool.Decides.{nat_tests}
use Rattle.clap.specs.Lexer.{long_of, short_of}
use Rattle.fal_words.specs.Choices.{Form, end, option, plain, other, form_of, after_one, after_two}

-- flags follow the one hyphen, and one character of them is first
pub record HasFlags (word : List ℕ) : Type 0 where
  pub first : ℕ
  pub rest : List ℕ
  pub flags : short_of word ≡ Some (first ∷ rest)
  pub character : ℕ
  pub begins : slice_get (chars (first ∷ rest)) 0 ≡ Some character

abbrev is_end : List ℕ → Bool
is_end word = bytes_eq word (45 ∷ 45 ∷ [])

-- what `clap` makes of a word of this form
abbrev pub IsRead : Form → List ℕ → Type 0
IsRead end word = is_end word ≡ true
IsRead (option name value) word = (is_end word ≡ false) × (long_of word ≡ Some (name, value))
IsRead plain word = (is_end word ≡ false) × (long_of word ≡ None) × (short_of word ≡ None)
IsRead other word = (is_end word ≡ false) × (long_of word ≡ None) × HasFlags word

-- a text that is not empty begins with a character
first_of_chars : (cs bs : List ℕ) (b : ℕ) → encode_utf8_all cs ≡ b ∷ bs → (c : ℕ) × (slice_get cs 0 ≡ Some c)
first_of_chars [] bs b is = absurd (cc)
first_of_chars (c ∷ cs) bs b is = (c, refl)

flags_read : (b : ℕ) (bs : List ℕ) → IsUtf8 (b ∷ bs) → (b == 45) ≡ false → HasFlags (45 ∷ b ∷ bs)
flags_read b bs utf8 other_byte =
    let begins = first_of_chars (chars (b ∷ bs)) bs b (encodes-chars (b ∷ bs) utf8) in
    record {
      first = b;
      rest = bs;
      flags = rw other_byte refl;
      character = begins.0;
      begins = begins.1;
    }

hyphens_read : (bs : List ℕ) → IsRead (after_two bs) (45 ∷ 45 ∷ bs)
hyphens_read [] = refl
hyphens_read (b ∷ bs) = (refl, refl)

hyphen_read : (bs : List ℕ) → IsUtf8 bs → IsRead (after_one bs) (45 ∷ bs)
hyphen_read [] utf8 = (refl, refl, refl)
hyphen_read (b ∷ bs) utf8 =
    elim (b == 45) as (λ t. (b == 45) ≡ t → IsRead (cond t (after_two bs) other) (45 ∷ b ∷ bs)) [
      | true ↦ λ is. let same : 45 ≡ b = grind (arith, nat_tests) in subst (λ (x : ℕ). IsRead (after_two bs) (45 ∷ x ∷ bs)) same (hyphens_read bs)
      | false ↦ λ is. (rw is refl, rw is refl, flags_read b bs utf8 is)
    ] refl

pub word_read : (word : List ℕ) → IsUtf8 word → IsRead (form_of word) word
word_read [] utf8 = (refl, refl, refl)
word_read (b ∷ bs) utf8 =
    elim (b == 45) as (λ t. (b == 45) ≡ t → IsRead (cond t (after_one bs) plain) (b ∷ bs)) [
      | true ↦ λ is.
          let same : 45 ≡ b = grind (arith, nat_tests) in
          let hyphen : IsUtf8 (45 ∷ bs) = subst (λ (x : ℕ). IsUtf8 (x ∷ bs)) (sym same) utf8 in
          subst (λ (x : ℕ). IsRead (after_one bs) (x ∷ bs)) same (hyphen_read bs (IsUtf8-drop (45 ∷ bs) 1 hyphen (IsCharBoundary-after_ascii (45 ∷ bs) 0 hyphen (omega arith) (omega arith))))
      | false ↦ λ is. (rw is refl, rw is refl, rw is refl)
    ] refl
