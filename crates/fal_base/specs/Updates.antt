-- Updates: what is to stand under some keys, and a tree once they are laid on it.
use Rattle.std.specs.Prelude.{Bool, List, [], ◌∷◌, map, Option, Some, None, if◌then◌else◌}
use Rattle.std.specs.List.{list_any}
use Rattle.fal_base.specs.declared.inode.Inode.{Inode}
use Rattle.fal_base.specs.declared.key.Key.{Key}
use Rattle.fal_base.specs.declared.row.Update.{Update}
use Rattle.fal_base.specs.Tree.{Tree, with_row, without_row, same_key}

-- nothing is to stand there
abbrev pub removing : Key → Update
removing key = record { key = key; row = None }

-- this row is to stand there
abbrev pub putting : Key → Inode → Update
putting key inode = record { key = key; row = Some inode }

abbrev pub keys_of : List Update → List Key
keys_of updates = map (λ u. u.key) updates

-- whether one of the updates is for the key
abbrev pub is_told : Key → List Update → Bool
is_told key updates = list_any (λ other. same_key other key) (keys_of updates)

-- what the first of these updates for the key has there; nothing where no update is for it
abbrev pub row_among : List Update → Key → Option Inode
row_among [] key = None
row_among (update ∷ updates) key = if same_key update.key key then update.row else row_among updates key

-- the tree with this row under the key, or with none there
abbrev pub laid_at : Tree → Key → Option Inode → Tree
laid_at tree key None = without_row tree key
laid_at tree key (Some inode) = with_row tree key inode

-- the tree with these updates, one after the other
abbrev pub laid : List Update → Tree → Tree
laid [] tree = tree
laid (update ∷ updates) tree = laid updates (laid_at tree update.key update.row)
