-- What a node answers to the questions of other actors, by its rows.
use Rattle.std.specs.Prelude.{ℕ, List, [], ◌∷◌, length, Option, None, Some, ◌==◌, if◌then◌else◌}
use Rattle.fal_base.specs.declared.call.CallId.{CallId}
use Rattle.fal_base.specs.declared.inode.Inode.{Inode}
use Rattle.fal_base.specs.declared.inode.Kind.TheVariants.{Dir as DirKind, File as FileKind}
use Rattle.fal_base.specs.declared.key.Key.{Key}
use Rattle.fal_base.specs.declared.row.Update.{Update}
use Rattle.fal_base.specs.Tree.{Tree, row_at, names_under}
use Rattle.fal_base.specs.Walk.{dentry_of}
use Rattle.fal_inode.specs.Named.{rows_named}
use Rattle.fal_place.specs.Placement.{Placement, owner}
use Rattle.fal_wire.specs.declared.message.Found.{Found}
use Rattle.fal_wire.specs.declared.message.Found.TheVariants.{Nothing, File, Dir}
use Rattle.fal_wire.specs.declared.message.Message.{Message}
use Rattle.fal_wire.specs.declared.message.Message.TheVariants as message

-- ---- a fetch

-- what a fetch is told of a row, or of its absence: of a directory all that a replica keeps
abbrev pub found_of : Option Inode → Found
found_of None = Nothing
found_of (Some inode) = elim inode.kind [ DirKind ↦ Dir (dentry_of inode) | FileKind ↦ File ]

-- the answer to the fetch of this number, for the directory under the key
abbrev pub fetched_of : Tree → ℕ → Key → Message
fetched_of tree number key = message.FetchGot number key (found_of (row_at tree key))

-- ---- an operation of the coordinator

-- those of the updates whose keys live at the node
abbrev pub owned : Placement → ℕ → List Update → List Update
owned table n [] = []
owned table n (u ∷ us) = if owner table u.key == n then u ∷ owned table n us else owned table n us

-- what stands in the tree under those of the keys that live at the node
abbrev pub rows_of : Placement → Tree → ℕ → List Key → List Update
rows_of table tree n [] = []
rows_of table tree n (key ∷ keys) = if owner table key == n then record { key = key; row = row_at tree key } ∷ rows_of table tree n keys else rows_of table tree n keys

-- the answer of a node that has shut the keys: its rows under them
abbrev pub locked_of : Placement → Tree → ℕ → ℕ → List Key → Message
locked_of table tree n operation keys = message.Locked operation n (rows_of table tree n keys)

-- the answer to how many entries the directory has at this node
abbrev pub count_told : Tree → ℕ → ℕ → ℕ → Message
count_told tree n operation dir = message.Counted operation n (length (names_under tree dir))

-- the answer of a node that gives away its rows of the name
abbrev pub blocked_of : Tree → ℕ → ℕ → List ℕ → Message
blocked_of tree n operation name = message.Blocked operation n (rows_named tree name)

-- ---- a listing

-- the answer of a node that is asked for its part of a listing: the names of its rows under the directory
abbrev pub part_of : Tree → ℕ → CallId → ℕ → Message
part_of tree n id dir = message.ListPart id n (names_under tree dir)
