-- What a walk over a replica says of a tree, where the entries that it meets are the tree's.
use Rattle.std.specs.Prelude.{◌≡◌, ℕ, true, List, [], ◌∷◌, Option, Some, None, IsTrue, IsSomeAnd, if◌then◌else◌}
use Rattle.std.specs.Option.{option_map}
use Rattle.std.specs.List.{All}
use Rattle.fal_base.specs.declared.call.Cred.{Cred}
use Rattle.fal_base.specs.declared.inode.Dentry.{Dentry}
use Rattle.fal_base.specs.declared.inode.Inode.{Inode}
use Rattle.fal_base.specs.declared.key.Key.{Key}
use Rattle.fal_base.specs.Tree.{Tree, row_at, key_of, root_key}
use Rattle.fal_base.specs.Walk.{Walked, is_dir, grants, dentry_of, dentry_grants, walk}
use Rattle.fal_base.specs.Walk as tree_walk
use Rattle.fal_base.specs.Maps.{value_at}
use Rattle.fal_dentry.specs.Walk.{Dentries, ReplicaWalk, Shut, Missing, Stop, Ready, is_among}

-- the tree has a directory under the key, and the replica has it as it is there
abbrev pub IsTrueAt : Tree → Dentries → Key → Type 0
IsTrueAt tree entries key = IsSomeAnd (row_at tree key) (λ dir. (is_dir dir ≡ true) × (value_at entries key ≡ Some (dentry_of dir)))

-- the keys found on the way
abbrev pub found_on : Key → Option Dentry → (Dentry → List Key) → List Key
found_on key None go = []
found_on key (Some dir) go = key ∷ go dir

abbrev pub keys_met_from : Dentries → Cred → List Key → Key → List (List ℕ) → List Key
keys_met_from entries cred shut key [] = []
keys_met_from entries cred shut key (name ∷ names) =
    if is_among key shut then [] else found_on key (value_at entries key) (λ dir.
    if dentry_grants cred 1 dir then keys_met_from entries cred shut (key_of dir.ino name) names else [])

-- the keys of the entries that the walk over the replica meets
abbrev pub keys_met : Dentries → Cred → List (List ℕ) → List Key → List Key
keys_met entries cred names shut = keys_met_from entries cred shut root_key names

-- on through a directory, and no further than any other row
abbrev pub through : Option Inode → (Inode → List Key) → List Key
through None go = []
through (Some inode) go = if is_dir inode then go inode else []

abbrev pub way_from : Tree → Cred → Key → List (List ℕ) → List Key
way_from tree cred key [] = []
way_from tree cred key (name ∷ names) =
    key ∷ through (row_at tree key) (λ dir. if grants cred 1 dir then way_from tree cred (key_of dir.ino name) names else [])

-- the keys of directories that the walk in the tree looks up, in order
abbrev pub way : Tree → Cred → List (List ℕ) → List Key
way tree cred names = way_from tree cred root_key names

abbrev pub lacking_or : Key → Option Dentry → Option Key → Option Key
lacking_or key None later = Some key
lacking_or key (Some dir) later = later

-- the first of these keys that the replica lacks
abbrev pub first_lacking : Dentries → List Key → Option Key
first_lacking entries [] = None
first_lacking entries (key ∷ keys) = lacking_or key (value_at entries key) (first_lacking entries keys)

abbrev pub last_name : List (List ℕ) → List ℕ
last_name [] = []
last_name (name ∷ []) = name
last_name (name ∷ next ∷ names) = last_name (next ∷ names)

-- the key of the last name under its directory; without a directory it is the root's
abbrev pub last_key : Option Dentry → List ℕ → Key
last_key None name = root_key
last_key (Some dir) name = key_of dir.ino name

-- of the keys on the tree's way, and where the tree's walk ends
abbrev pub Says : Dentries → List (List ℕ) → List Key → List Key → Walked → ReplicaWalk → Type 0
Says entries names shut way walked (Shut key) = IsTrue (is_among key shut) × IsTrue (is_among key way)
Says entries names shut way walked (Missing key keys) = first_lacking entries way ≡ Some key
Says entries names shut way walked (Stop errno keys) = walked ≡ tree_walk.Stop errno
Says entries names shut way walked (Ready parent inos keys) =
    (dir : Option Inode) × (walked ≡ tree_walk.Ready dir inos (last_key parent (last_name names))) × (option_map dentry_of dir ≡ parent)

-- Where each entry that was met is the tree's: `Stop` and `Ready` are the tree's walk, with its parent, the numbers passed and the last key;
-- `Missing` names the first key on its way that the replica lacks; and `Shut` a shut key on its way.
abbrev pub IsTreeWalk : Tree → Dentries → Cred → List (List ℕ) → List Key → ReplicaWalk → Type 0
IsTreeWalk tree entries cred names shut end =
    All (IsTrueAt tree entries) (keys_met entries cred names shut) → Says entries names shut (way tree cred names) (walk tree cred names) end
