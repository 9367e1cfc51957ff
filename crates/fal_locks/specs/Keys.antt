-- Lists of keys.
use Rattle.std.specs.Prelude.{ℕ, ◌+◌, Bool, List, [], ◌∷◌, if◌then◌else◌, ◌==◌}
use Rattle.std.specs.List.{list_any}
use Rattle.std.specs.Cmp.Lexicographic.{pointwise}
use Rattle.fal_base.specs.declared.key.Key.{Key}
use Rattle.fal_base.specs.Tree.{same_key}

-- whether the list has this key
abbrev pub has_key : List Key → Key → Bool
has_key keys key = list_any (λ other. same_key key other) keys

-- whether the list has a key with this name
abbrev pub has_name : List Key → List ℕ → Bool
has_name keys name = list_any (λ key. pointwise ◌==◌ key.name name) keys

-- how many different keys the list has. One that comes again is counted there and not here
abbrev pub distinct_count : List Key → ℕ
distinct_count [] = 0
distinct_count (key ∷ keys) = if has_key keys key then distinct_count keys else distinct_count keys + 1
