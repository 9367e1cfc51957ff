-- Rows of a name that is placed: they come from their old owners, and go to their new ones.
use Rattle.std.specs.Prelude.{ℕ, List, [], ◌∷◌, map, filter, ◌==◌, nat_lt, if◌then◌else◌}
use Rattle.std.specs.List.{range_with_len}
use Rattle.fal_base.specs.declared.row.NamedRow.{NamedRow}
use Rattle.fal_base.specs.Tree.{key_of}
use Rattle.fal_place.specs.Placement.{Placement, owner}

-- the rows with one more, before the first that is not of a lower parent
abbrev pub with_row : NamedRow → List NamedRow → List NamedRow
with_row row [] = row ∷ []
with_row row (other ∷ rows) = if nat_lt other.parent row.parent then other ∷ with_row row rows else row ∷ other ∷ rows

-- the rows by the numbers of their parents; of one parent in the order given
abbrev pub by_parent : List NamedRow → List NamedRow
by_parent [] = []
by_parent (row ∷ rows) = with_row row (by_parent rows)

-- those of the rows of a name that live at the node, in their order
abbrev pub share_of : Placement → List ℕ → ℕ → List NamedRow → List NamedRow
share_of table name node rows = filter (λ row. owner table (key_of row.parent name) == node) rows

-- the share of each node, in their order
abbrev pub shares_of : Placement → List ℕ → List NamedRow → List (List NamedRow)
shares_of table name rows = map (λ node. share_of table name node rows) (range_with_len 0 table.nodes)
