-- The rows of the tree as text, a line each.
use Rattle.std.specs.Prelude.{ℕ, List, [], ◌∷◌, ◌++◌, length, codes}
use Rattle.std.specs.List.{flat_map}
use Rattle.std.specs.Fmt.{decimal}
use Rattle.fal_base.specs.declared.row.TreeLine.{TreeLine}
use Rattle.fal_report.specs.Escapes.{escaped}
use Rattle.fal_report.specs.Inodes.{inode_text}
use Rattle.fal_report.specs.Counts.{count_text}

-- the root alone has no name, and is written as a slash
abbrev pub name_text : List ℕ → List ℕ
name_text [] = codes "/"
name_text (byte ∷ bytes) = escaped (byte ∷ bytes)

abbrev pub row_text : TreeLine → List ℕ
row_text row = decimal row.key.parent ++ codes " " ++ name_text row.key.name ++ codes " " ++ inode_text row.inode ++ codes "\n"

-- how many rows there are, and each of them
abbrev pub tree_text : List TreeLine → List ℕ
tree_text rows = count_text (codes "tree") (length rows) ++ flat_map row_text rows
