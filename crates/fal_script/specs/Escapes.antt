-- Bytes as paths and names of a script spell them: a percent sign (37) and two hexadecimal digits stand for a byte, and every other byte for
-- itself.
use Rattle.std.specs.Prelude.{◌≡◌, ◌<◌, ℕ, ◌+◌, ◌-◌, ◌*◌, ◌&&◌, List, [], ◌∷◌, length, if◌then◌else◌, ◌==◌, nat_le, Option, Some, None}
use Rattle.std.specs.Option.{option_and_then, option_map}

-- 0 to 9, and then A to F or a to f
unfoldable pub hex_value : ℕ → Option ℕ
hex_value digit =
    if nat_le 48 digit && nat_le digit 57 then Some (digit - 48)
    else (if nat_le 65 digit && nat_le digit 70 then Some (digit - 55)
    else (if nat_le 97 digit && nat_le digit 102 then Some (digit - 87) else None))

-- the byte of two digits
unfoldable pub hex_byte : ℕ → ℕ → Option ℕ
hex_byte high low = option_and_then (λ h. option_map (λ l. 16 * h + l) (hex_value low)) (hex_value high)

-- a byte, and then what the rest stands for
abbrev pub with_byte : Option ℕ → Option (List ℕ) → Option (List ℕ)
with_byte None rest = None
with_byte (Some byte) rest = option_map (λ bytes. byte ∷ bytes) rest

-- a byte with fewer than two after it stands for itself, if it is no percent sign
abbrev pub itself : ℕ → Option ℕ
itself byte = if byte == 37 then None else Some byte

-- the bytes that a word stands for, or none where a percent sign has no two digits after it
abbrev pub unescaped : List ℕ → Option (List ℕ)
unescaped [] = Some []
unescaped (a ∷ []) = with_byte (itself a) (Some [])
unescaped (a ∷ b ∷ []) = with_byte (itself a) (unescaped (b ∷ []))
unescaped (a ∷ b ∷ c ∷ rest) = if a == 37 then with_byte (hex_byte b c) (unescaped rest) else with_byte (Some a) (unescaped (b ∷ c ∷ rest))

-- the byte that the front of a word stands for, and what comes after it
abbrev pub StandsFor : List ℕ → Option (ℕ × List ℕ) → Type 0
StandsFor word None = unescaped word ≡ None
StandsFor word (Some (byte, rest)) = (unescaped word ≡ with_byte (Some byte) (unescaped rest)) × (length rest < length word)
