-- What stands in the tree: rows by who owns them, directories, and the keys to which walks come.
use Rattle.std.proofs.Common.{◌≡◌, ℕ, Bool, true, false, ◌||◌, ◌&&◌, List, [], ◌∷◌, length, Option, Some, None}
use Rattle.std.specs.Prelude.{◌==◌, if◌then◌else◌, IsSomeAnd}
use Rattle.fal_base.specs.declared.call.CallRec.{CallRec}
use Rattle.fal_base.specs.declared.call.Config.{Config}
use Rattle.fal_base.specs.declared.call.Cred.{Cred}
use Rattle.fal_base.specs.declared.inode.Dentry.{Dentry}
use Rattle.fal_base.specs.declared.inode.Inode.{Inode}
use Rattle.fal_base.specs.declared.key.Key.{Key}
use Rattle.fal_base.specs.declared.op.Op.{Op}
use Rattle.fal_base.specs.Commits.{Commit, tree_at}
use Rattle.fal_base.specs.Tree.{Tree, row_at}
use Rattle.fal_base.specs.Walk.{Walked, Stop, Ready, walk, is_dir, dentry_of}
use Rattle.fal_coord.specs.Walks.{walked_paths, is_busy}
use Rattle.fal_dentry.specs.TreeWalk.{way}
use Rattle.fal_dentry.specs.Walk.{is_among}
use Rattle.fal_exec.specs.RowCall.{row_names}
use Rattle.fal_place.specs.Placement.{Placement, opening_table, owner}

abbrev pub tree_now : List Commit → Tree
tree_now commits = tree_at commits (length commits)

abbrev pub table_of : Config → Placement
table_of config = opening_table config.nodes

-- the tree's row, where the node owns the key
abbrev pub row_of : Placement → Tree → ℕ → Key → Option Inode
row_of table tree n key = if owner table key == n then row_at tree key else None

-- the tree has a directory there, and this is what a replica keeps of it
abbrev pub HasDir : Tree → Key → Dentry → Type 0
HasDir tree key dentry = IsSomeAnd (row_at tree key) (λ dir. (is_dir dir ≡ true) × (dentry_of dir ≡ dentry))

-- ---- the paths of a call

abbrev pub is_ready : Walked → Bool
is_ready (Stop errno) = false
is_ready (Ready parent passed last) = true

-- the walk of one of the paths comes to the key, and those of the paths before it are ready
abbrev pub reaches : Tree → Cred → List (List (List ℕ)) → Key → Bool
reaches t cred [] key = false
reaches t cred (p ∷ ps) key = is_among key (way t cred p) || (is_ready (walk t cred p) && reaches t cred ps key)

abbrev pub paths_or : Option (List (List ℕ)) → List (List (List ℕ)) → List (List (List ℕ))
paths_or None paths = paths
paths_or (Some names) paths = names ∷ []

-- the paths that are walked for a call: the one of a call that one row decides, or those of an operation. Of an operation on the root none is
abbrev pub call_paths : Op → List (List (List ℕ))
call_paths call = paths_or (row_names call) (if is_busy call then [] else walked_paths call)

-- the walk of the call comes to the key: each directory before it is there and grants search
abbrev pub Reaches : Tree → CallRec → Key → Type 0
Reaches tree call key = reaches tree call.cred (call_paths call.op) key ≡ true

-- no row under the directory lives at the node
abbrev pub NoneUnder : Placement → Tree → ℕ → ℕ → Type 0
NoneUnder table tree n dir = (key : Key) → key.parent ≡ dir → owner table key ≡ n → row_at tree key ≡ None
