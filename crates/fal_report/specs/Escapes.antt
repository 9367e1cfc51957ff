-- The bytes of paths and names as text. The bytes 33 to 126 other than the percent sign stand for themselves; every other byte is a percent
-- sign and its two upper case hexadecimal digits.
use Rattle.std.specs.Prelude.{ℕ, ◌+◌, ◌/◌, ◌%◌, Bool, not, ◌&&◌, List, [], ◌∷◌, if◌then◌else◌, ◌==◌, nat_lt}
use Rattle.std.specs.List.{flat_map}

-- the percent sign is 37
abbrev pub is_plain_byte : ℕ → Bool
is_plain_byte byte = nat_lt 32 byte && nat_lt byte 127 && not (byte == 37)

-- 0 to 9, and then A to F
abbrev pub hex_digit : ℕ → ℕ
hex_digit n = if nat_lt n 10 then 48 + n else 55 + n

unfoldable pub escaped_byte : ℕ → List ℕ
escaped_byte byte = if is_plain_byte byte then byte ∷ [] else 37 ∷ hex_digit (byte / 16) ∷ hex_digit (byte % 16) ∷ []

abbrev pub escaped : List ℕ → List ℕ
escaped bytes = flat_map escaped_byte bytes

-- each name after this byte
abbrev pub each_after : ℕ → List (List ℕ) → List ℕ
each_after byte names = flat_map (λ name. byte ∷ escaped name) names
