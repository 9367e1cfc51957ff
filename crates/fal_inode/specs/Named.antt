-- The rows of one name, under whatever directory they stand.
use Rattle.std.specs.Prelude.{ℕ, not, List, Option, ◌==◌, map, filter, find}
use Rattle.std.specs.Option.{option_map}
use Rattle.std.specs.Cmp.Lexicographic.{pointwise}
use Rattle.fal_base.specs.declared.row.NamedRow.{NamedRow}
use Rattle.fal_base.specs.declared.row.Update.{Update}
use Rattle.fal_base.specs.Tree.{Tree, key_of}
use Rattle.fal_base.specs.Updates.{putting}

-- by the parents' numbers, as the tree has its rows
abbrev pub rows_named : Tree → List ℕ → List NamedRow
rows_named tree name = map (λ e. record { parent = e.0.parent; inode = e.1 }) (filter (λ e. pointwise ◌==◌ e.0.name name) tree)

-- the rows of all other names
abbrev pub without_named : Tree → List ℕ → Tree
without_named tree name = filter (λ e. not (pointwise ◌==◌ e.0.name name)) tree

-- the parent of the first row of this name
abbrev pub first_parent : Tree → List ℕ → Option ℕ
first_parent tree name = option_map (λ e. e.0.parent) (find (λ e. pointwise ◌==◌ e.0.name name) tree)

-- rows of a name, as the updates that put them under their keys
abbrev pub puts : List ℕ → List NamedRow → List Update
puts name rows = map (λ r. putting (key_of r.parent name) r.inode) rows
