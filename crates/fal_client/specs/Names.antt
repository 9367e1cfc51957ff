-- Names, sorted by their bytes.
use Rattle.std.specs.Prelude.{ℕ, Bool, List, [], ◌∷◌, if◌then◌else◌}
use Rattle.std.specs.Ordering.{nat_cmp, is_lt}
use Rattle.std.specs.Cmp.Lexicographic.{slice_cmp}

-- whether a name comes before another one
abbrev pub is_before : List ℕ → List ℕ → Bool
is_before a b = is_lt (slice_cmp nat_cmp a b)

-- the items with one more, before the first that it is not after
abbrev pub with_sorted : {X : Type 0} → (X → X → Bool) → X → List X → List X
with_sorted before x [] = x ∷ []
with_sorted before x (y ∷ ys) = if before y x then y ∷ with_sorted before x ys else x ∷ y ∷ ys

-- the items, each at its place by the order
abbrev pub sorted_by : {X : Type 0} → (X → X → Bool) → List X → List X
sorted_by before [] = []
sorted_by before (x ∷ xs) = with_sorted before x (sorted_by before xs)

-- the names, the first by their bytes first
unfoldable pub sorted_names : List (List ℕ) → List (List ℕ)
sorted_names names = sorted_by is_before names
