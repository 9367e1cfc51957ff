-- How a field is spelled, which values have a spelling, and how it is read from the left.
-- A reader knows where the body ends: the place of a field is that end less the bytes that are left.
use Rattle.std.specs.Prelude.{◌≡◌, ℕ, zero, suc, ◌-◌, ◌^◌, ◌<◌, Bool, List, [], ◌∷◌, ◌++◌, length, take, drop, Option, Some, None, Result, Ok, Err, IsTrue, nat_lt, ◌==◌, slice_index, if◌then◌else◌}
use Rattle.std.specs.List.{flat_map}
use Rattle.byteorder.specs.Endian.{big_number, big_bytes}
use Rattle.fal_wire.specs.declared.fault.WireFault.{WireFault}
use Rattle.fal_wire.specs.declared.fault.WireFault.TheVariants.{Length, Value}

-- on with what was read, or the fault
infixl 10 ◌>>=◌
abbrev pub ◌>>=◌ : {A B : Type 0} → Result A WireFault → (A → Result B WireFault) → Result B WireFault
(Ok x) >>= f = f x
(Err fault) >>= f = Err fault

-- where the body ends, and the bytes from the field on: the field's value and the bytes after it, or the first fault
abbrev pub Reader : Type 0 → Type 0
Reader A = ℕ → List ℕ → Result (A × List ℕ) WireFault

-- the place of the first of the bytes that are left
abbrev pub place : ℕ → List ℕ → ℕ
place end bytes = end - length bytes

pub record Format (A : Type 0) : Type 1 where
  pub read : Reader A
  pub spell : A → List ℕ
  pub Fits : A → Type 0

-- one byte, read as it is
abbrev pub byte_at : Reader ℕ
byte_at end [] = Err (Length (place end []))
byte_at end (b ∷ rest) = Ok (b, rest)

abbrev pub byte : Format ℕ
byte = record { read = byte_at; spell = λ b. b ∷ []; Fits = λ b. b < 256 }

-- a number of n bytes, the highest first
unfoldable pub number_at : ℕ → Reader ℕ
number_at n end bytes = if nat_lt (length bytes) n then Err (Length (place end bytes)) else Ok (big_number n bytes, drop n bytes)

unfoldable pub number_spelling : ℕ → ℕ → List ℕ
number_spelling n x = big_bytes n x

abbrev pub number : ℕ → Format ℕ
number n = record { read = number_at n; spell = number_spelling n; Fits = λ x. x < 256 ^ n }

-- a byte that counts the bytes after it. They reach past the body at that byte
unfoldable pub text_at : Reader (List ℕ)
text_at end [] = Err (Length (place end []))
text_at end (n ∷ rest) = if nat_lt (length rest) n then Err (Length (place end (n ∷ rest))) else Ok (take n rest, drop n rest)

abbrev pub text : Format (List ℕ)
text = record { read = text_at; spell = λ bytes. length bytes ∷ bytes; Fits = λ bytes. length bytes < 256 }

-- what was read, where it passes the test
abbrev pub passed : {A : Type 0} → (A → Bool) → ℕ → A × List ℕ → Result (A × List ℕ) WireFault
passed test at x = if test x.0 then Ok x else Err (Value at)

-- the field, and then whether its value is allowed
abbrev pub judged : {A : Type 0} → Format A → (A → Bool) → Format A
judged f test = record {
  read = λ end bytes. f.read end bytes >>= passed test (place end bytes);
  spell = f.spell;
  Fits = λ x. f.Fits x × IsTrue (test x);
}

-- a field, and the one after it that it decides on
infixr 9 ◌▷◌
abbrev pub ◌▷◌ : {A B : Type 0} → Format A → (A → Format B) → Format (A × B)
f ▷ g = record {
  read = λ end bytes. f.read end bytes >>= λ a. (g a.0).read end a.1 >>= λ b. Ok ((a.0, b.0), b.1);
  spell = λ p. f.spell p.0 ++ (g p.0).spell p.1;
  Fits = λ p. f.Fits p.0 × (g p.0).Fits p.1;
}

-- a field and the one after it
infixr 9 ◌⊗◌
abbrev pub ◌⊗◌ : {A B : Type 0} → Format A → Format B → Format (A × B)
f ⊗ g = f ▷ λ _. g

-- the fields of a record, in their order
abbrev pub shaped : {A B : Type 0} → (A → B) → (B → A) → Format B → Format A
shaped fields make f = record {
  read = λ end bytes. f.read end bytes >>= λ x. Ok (make x.0, x.1);
  spell = λ a. f.spell (fields a);
  Fits = λ a. f.Fits (fields a);
}

-- what is read, made into a value
abbrev pub made : {A B : Type 0} → (B → A) → Format B → Reader A
made make f end bytes = f.read end bytes >>= λ x. Ok (make x.0, x.1)

-- n items, each of which decides on the next one; None stands before the first
unfoldable pub many_at : {A : Type 0} → (Option A → Format A) → Option A → ℕ → Reader (List A)
many_at item last zero end bytes = Ok ([], bytes)
many_at item last (suc n) end bytes = (item last).read end bytes >>= λ x. many_at item (Some x.0) n end x.1 >>= λ xs. Ok (x.0 ∷ xs.0, xs.1)

abbrev pub AreItems : {A : Type 0} → (Option A → Format A) → Option A → List A → Type 0
AreItems item last [] = Unit {0}
AreItems item last (x ∷ xs) = (item last).Fits x × AreItems item (Some x) xs

abbrev pub many : {A : Type 0} → (Option A → Format A) → ℕ → Format (List A)
many item n = record { read = many_at item None n; spell = flat_map (item None).spell; Fits = λ xs. (length xs ≡ n) × AreItems item None xs }

-- a count and so many items
abbrev pub counted : {A : Type 0} → Format ℕ → (Option A → Format A) → Format (List A)
counted count item = shaped (λ xs. (length xs, xs)) (λ p. p.1) (count ▷ λ n. many item n)

-- no byte at all
abbrev pub nothing : Format (Unit {0})
nothing = record { read = λ end bytes. Ok (tt, bytes); spell = λ _. []; Fits = λ _. Unit {0} }

-- what has no spelling
abbrev pub never : Format (Unit {0})
never = record { read = λ end bytes. Err (Value (place end bytes)); spell = λ _. []; Fits = λ _. ⊥ }

-- how one value of several forms is laid out: the number of its form, and what follows that
pub record Layout : Type 1 where
  pub tag : ℕ
  pub Content : Type 0
  pub format : Format Content
  pub content : Content

abbrev pub layout : {B : Type 0} → ℕ → Format B → B → Layout
layout {B} tag f content = record { tag = tag; Content = B; format = f; content = content }

abbrev pub content_spelling : Layout → List ℕ
content_spelling l = l.format.spell l.content

abbrev pub ContentFits : Layout → Type 0
ContentFits l = l.format.Fits l.content

-- a form's number, and how it is read
abbrev pub Branch : Type 0 → Type 0
Branch A = ℕ × Reader A

-- what the branch of this number reads, or the fault where there is none
abbrev pub chosen_at : {A : Type 0} → List (Branch A) → WireFault → ℕ → Reader A
chosen_at [] fault tag end bytes = Err fault
chosen_at (b ∷ bs) fault tag end bytes = if tag == b.0 then b.1 end bytes else chosen_at bs fault tag end bytes

-- a byte with the number of the form, and what follows it
abbrev pub tagged : {A : Type 0} → (A → Layout) → List (Branch A) → Format A
tagged laid branches = record {
  read = λ end bytes. byte_at end bytes >>= λ tag. chosen_at branches (Value (place end bytes)) tag.0 end tag.1;
  spell = λ x. (laid x).tag ∷ content_spelling (laid x);
  Fits = λ x. ContentFits (laid x);
}

-- numbers that bytes can be
abbrev pub IsBytes : List ℕ → Type 0
IsBytes bytes = (i : ℕ) → slice_index bytes i < 256
