-- The words of a line.
use Rattle.std.specs.Prelude.{ℕ, Bool, true, false, ◌||◌, List, [], ◌∷◌, length, ◌==◌, nat_lt}
use Rattle.std.specs.List.{filter, slice_split}
use Rattle.std.specs.Cmp.Lexicographic.{pointwise}

-- the bytes are this word
unfoldable pub is_word : List ℕ → List ℕ → Bool
is_word word bytes = pointwise ◌==◌ bytes word

-- the parts between spaces (32) and tabs (9) that are not empty
unfoldable pub words_of : List ℕ → List (List ℕ)
words_of line = filter (λ part. nat_lt 0 (length part)) (slice_split (λ b. b == 32 || b == 9) line)

-- whether a word begins with a number sign (35)
abbrev pub is_comment : List ℕ → Bool
is_comment [] = false
is_comment (b ∷ bs) = b == 35

-- a line without words is skipped, and one whose first word begins with a number sign
abbrev pub is_skipped_line : List (List ℕ) → Bool
is_skipped_line [] = true
is_skipped_line (word ∷ words) = is_comment word
