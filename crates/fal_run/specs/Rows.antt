-- Changes of rows, and what is found after them.
use Rattle.std.specs.Prelude.{List, [], ◌∷◌, Option, None, Some, if◌then◌else◌}
use Rattle.fal_base.specs.declared.inode.Inode.{Inode}
use Rattle.fal_base.specs.declared.key.Key.{Key}
use Rattle.fal_base.specs.Tree.{Tree, same_key, with_row, without_row}
use Rattle.fal_exec.specs.declared.outcome.Change.{Change}
use Rattle.fal_exec.specs.declared.outcome.Change.TheVariants as change
use Rattle.fal_run.specs.declared.change.RowChange.{RowChange}

-- the rows after a change under a key
abbrev pub rows_after : Tree → Key → Change → Tree
rows_after rows key change.Keep = rows
rows_after rows key (change.Put inode) = with_row rows key inode
rows_after rows key change.Remove = without_row rows key

-- the rows after changes, in their order
abbrev pub rows_changed : Tree → List RowChange → Tree
rows_changed rows [] = rows
rows_changed rows (c ∷ cs) = rows_changed (rows_after rows c.key c.change) cs

-- what is found after a change under the same key
abbrev pub found_after_change : Option Inode → Change → Option Inode
found_after_change found change.Keep = found
found_after_change found (change.Put inode) = Some inode
found_after_change found change.Remove = None

-- what is found under a key after a change, where this was found before
abbrev pub found_after : Key → Option Inode → RowChange → Option Inode
found_after key found c = if same_key key c.key then found_after_change found c.change else found
