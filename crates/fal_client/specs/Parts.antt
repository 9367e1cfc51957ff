-- The parts of a listing: one place for each node, in node order, which is empty until the node's part is there.
use Rattle.std.specs.Prelude.{ℕ, Bool, true, false, List, [], Option, Some, None, max, replicate, fold, is_none, slice_get, count_by}
use Rattle.std.specs.List.{flat_map}
use Rattle.fal_client.specs.declared.parts.Part.{Part}

-- the places of so many nodes, with no part
abbrev pub no_parts : ℕ → List (Option Part)
no_parts nodes = replicate nodes None

-- whether there is an empty place
abbrev pub is_empty_place : Option (Option Part) → Bool
is_empty_place None = false
is_empty_place (Some None) = true
is_empty_place (Some (Some part)) = false

-- whether there is such a node, and its part is not there
abbrev pub is_missing : List (Option Part) → ℕ → Bool
is_missing parts node = is_empty_place (slice_get parts node)

-- how many parts are not there
abbrev pub missing_count : List (Option Part) → ℕ
missing_count parts = count_by is_none parts

abbrev pub names_at : Option Part → List (List ℕ)
names_at None = []
names_at (Some part) = part.names

-- the names of all parts that are there
abbrev pub names_of : List (Option Part) → List (List ℕ)
names_of parts = flat_map names_at parts

-- the greater of a point and that of a part
abbrev pub greater_point : ℕ → Option Part → ℕ
greater_point point None = point
greater_point point (Some part) = max point part.point

-- the greatest of a point and those of the parts that are there
abbrev pub greatest_point : ℕ → List (Option Part) → ℕ
greatest_point point parts = fold greater_point point parts
