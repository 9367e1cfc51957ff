-- Numbers as a script spells them.
use Rattle.std.specs.Prelude.{ℕ, ◌+◌, ◌-◌, ◌*◌, Bool, ◌&&◌, List, [], ◌∷◌, length, if◌then◌else◌, nat_le, Option, Some, None}
use Rattle.std.specs.List.{list_all}

-- 0 to 9
abbrev pub is_digit : ℕ → Bool
is_digit b = nat_le 48 b && nat_le b 57

-- the number that digits spell after a number so far
abbrev pub value_after : ℕ → List ℕ → ℕ
value_after n [] = n
value_after n (d ∷ ds) = value_after (n * 10 + (d - 48)) ds

-- all bytes are digits
unfoldable pub are_digits : List ℕ → Bool
are_digits word = list_all is_digit word

-- a number has 1 to 20 decimal digits; leading zeros are allowed
unfoldable pub is_number : List ℕ → Bool
is_number word = nat_le 1 (length word) && nat_le (length word) 20 && are_digits word

-- the number, where it is one and at most this large
unfoldable pub number_up_to : ℕ → List ℕ → Option ℕ
number_up_to most word = if is_number word && nat_le (value_after 0 word) most then Some (value_after 0 word) else None

-- the number, where it is not 0
abbrev pub from_one : Option ℕ → Option ℕ
from_one None = None
from_one (Some n) = if nat_le 1 n then Some n else None

-- the number, where it is from 1 to at most this large
unfoldable pub number_from_one : ℕ → List ℕ → Option ℕ
number_from_one most word = from_one (number_up_to most word)

-- 0 to 7
abbrev pub is_octal : ℕ → Bool
is_octal b = nat_le 48 b && nat_le b 55

-- the number that octal digits spell after a number so far
abbrev pub octal_after : ℕ → List ℕ → ℕ
octal_after n [] = n
octal_after n (d ∷ ds) = octal_after (n * 8 + (d - 48)) ds

-- all bytes are octal digits
unfoldable pub are_octal : List ℕ → Bool
are_octal word = list_all is_octal word

-- 1 to 4 octal digits
unfoldable pub is_mode : List ℕ → Bool
is_mode word = nat_le 1 (length word) && nat_le (length word) 4 && are_octal word

-- a mode has 1 to 4 octal digits and is at most 777 octal
unfoldable pub spelled_mode : List ℕ → Option ℕ
spelled_mode word = if is_mode word && nat_le (octal_after 0 word) 511 then Some (octal_after 0 word) else None
