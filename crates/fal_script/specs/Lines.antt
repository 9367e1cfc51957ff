-- The lines of a script: each is ended by a line feed (10). What stands after the last one is a line, too, where it is not empty.
use Rattle.std.specs.Prelude.{◌≡◌, ◌≢◌, ◌<◌, slice_index, ℕ, List, [], ◌∷◌, length, if◌then◌else◌, ◌==◌, Option, Some, None}

-- one byte more in front of the first line
abbrev pub longer : ℕ → List (List ℕ) → List (List ℕ)
longer b [] = (b ∷ []) ∷ []
longer b (line ∷ lines) = (b ∷ line) ∷ lines

-- the lines of a text
abbrev pub text_lines : List ℕ → List (List ℕ)
text_lines [] = []
text_lines (b ∷ bs) = if b == 10 then [] ∷ text_lines bs else longer b (text_lines bs)

-- the first line and what comes after it, or none where there is no line
abbrev pub Cuts : List ℕ → Option (List ℕ × List ℕ) → Type 0
Cuts bytes None = bytes ≡ []
Cuts bytes (Some (line, rest)) = (text_lines bytes ≡ line ∷ text_lines rest) × (length rest < length bytes)

-- there is no line feed before this place, and one at it, or none at all
abbrev pub EndsAt : List ℕ → Option ℕ → Type 0
EndsAt bytes None = (k : ℕ) → k < length bytes → slice_index bytes k ≢ 10
EndsAt bytes (Some at) = (at < length bytes) × (slice_index bytes at ≡ 10) × ((k : ℕ) → k < at → slice_index bytes k ≢ 10)
