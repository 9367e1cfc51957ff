-- Parts of lists.
use Rattle.std.specs.Prelude.{◌≡◌, ℕ, Bool, true, ◌&&◌, List, [], ◌∷◌, filter, if◌then◌else◌, ◌==◌, nat_lt}
use Rattle.std.specs.List.{list_all, list_any}

-- without the first item that passes the test
abbrev pub without_first : {X : Type 0} → (X → Bool) → List X → List X
without_first test [] = []
without_first test (x ∷ xs) = if test x then xs else x ∷ without_first test xs

-- whether the items' numbers ascend: each is below those after it, and below this one
abbrev pub are_ascending : {X : Type 0} → (X → ℕ) → List X → ℕ → Bool
are_ascending number [] end = true
are_ascending number (x ∷ xs) end = list_all (λ later. nat_lt (number x) (number later)) xs && (nat_lt (number x) end && are_ascending number xs end)

-- whether the number stands in the list
abbrev pub has_number : List ℕ → ℕ → Bool
has_number numbers n = list_any (λ other. other == n) numbers

-- the part is what the whole has of it, in the order of the whole
abbrev pub IsPartOf : List ℕ → List ℕ → Type 0
IsPartOf part whole = part ≡ filter (λ n. has_number part n) whole
