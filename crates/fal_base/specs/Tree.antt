-- The tree: a finite map from keys to inodes, as the list of its entries in the order of their keys.
use Rattle.std.specs.Prelude.{◌≡◌, ◌≢◌, ℕ, Bool, not, List, [], ◌∷◌, map, filter, Option, Some, IsSome, IsTrue, IsSomeAnd, ◌==◌}
use Rattle.std.specs.declared.cmp.Ordering.{Ordering}
use Rattle.std.specs.Ordering.{nat_cmp, ordering_then, eq_by_cmp}
use Rattle.std.specs.Cmp.Lexicographic.{slice_cmp}
use Rattle.std.specs.FinMap.Entries.{find, put, is_sorted, where_key}
use Rattle.fal_base.specs.declared.key.Key.{Key}
use Rattle.fal_base.specs.declared.inode.Inode.{Inode}
use Rattle.fal_base.specs.declared.row.TreeLine.{TreeLine}
use Rattle.fal_base.specs.declared.inode.Kind.TheVariants.{Dir}

abbrev pub Tree : Type 0
Tree = List (Key × Inode)

-- by the parent's number, and then by the bytes of the name. A proof opens it only where it compares two keys
unfoldable pub key_cmp : Key → Key → Ordering
key_cmp a b = ordering_then (nat_cmp a.parent b.parent) (slice_cmp nat_cmp a.name b.name)

abbrev pub same_key : Key → Key → Bool
same_key a b = eq_by_cmp key_cmp a b

abbrev pub key_of : ℕ → List ℕ → Key
key_of parent name = record { parent = parent; name = name }

abbrev pub root_key : Key
root_key = key_of 0 []

-- the tree at the start: the root alone, a directory of mode 755 that belongs to 0:0
abbrev pub tree0 : Tree
tree0 = (root_key, record { ino = 1; kind = Dir; mode = 493; uid = 0; gid = 0; size = 0 }) ∷ []

-- what stands under a key
abbrev pub row_at : Tree → Key → Option Inode
row_at tree key = find key_cmp key tree

-- the tree with this row under the key
abbrev pub with_row : Tree → Key → Inode → Tree
with_row tree key inode = put key_cmp key inode tree

-- the tree with nothing under the key
abbrev pub without_row : Tree → Key → Tree
without_row tree key = where_key key_cmp (λ other. not (same_key key other)) tree

-- the names under a directory, by their bytes
abbrev pub names_under : Tree → ℕ → List (List ℕ)
names_under tree dir = map (λ e. e.0.name) (filter (λ e. e.0.parent == dir) tree)

-- the rows, by parent and then by name
abbrev pub lines_of : Tree → List TreeLine
lines_of tree = map (λ e. record { key = e.0; inode = e.1 }) tree

-- the keys rise
abbrev pub IsInOrder : Tree → Type 0
IsInOrder tree = IsTrue (is_sorted key_cmp tree)

-- well formed: the root is a directory, each other key has the number of a directory as its parent, and numbers differ
pub record IsWellFormed (tree : Tree) : Type 0 where
  pub in_order : IsInOrder tree
  pub root : IsSomeAnd (row_at tree root_key) (λ root. root.kind ≡ Dir)
  pub parents : (key : Key) → IsSome (row_at tree key) → key ≢ root_key →
      (parent : Key) × IsSomeAnd (row_at tree parent) (λ dir. (dir.kind ≡ Dir) × (dir.ino ≡ key.parent))
  pub numbers : (a b : Key) (x y : Inode) → row_at tree a ≡ Some x → row_at tree b ≡ Some y → x.ino ≡ y.ino → a ≡ b
