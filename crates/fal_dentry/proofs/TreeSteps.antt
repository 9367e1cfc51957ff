-- The tree's walk, directory by directory.
use Rattle.std.proofs.Common.{◌≡◌, ℕ, true, false, List, [], ◌∷◌, Option, Some, None, if◌then◌else◌, refl, ap, ◌∙◌}
use Rattle.fal_base.specs.declared.call.Cred.{Cred}
use Rattle.fal_base.specs.declared.inode.Inode.{Inode}
use Rattle.fal_base.specs.declared.key.Key.{Key}
use Rattle.fal_base.specs.declared.reply.Errno.TheVariants.{Eacces, Enotdir}
use Rattle.fal_base.specs.Tree.{Tree, row_at, key_of}
use Rattle.fal_base.specs.Walk.{Walked, Stop, Ready, is_dir, grants, into, passing, walk_from}
use Rattle.fal_dentry.specs.TreeWalk.{way_from}

-- a directory is passed before the next row is looked at, or after
pub passes_in : (ino : ℕ) (row : Option Inode) (go : Inode → Walked) → into row (λ inner. passing ino (go inner)) ≡ passing ino (into row go)
passes_in ino None go = refl
passes_in ino (Some inode) go = elim (is_dir inode) as (λ b. (if b then passing ino (go inode) else Stop Enotdir) ≡ passing ino (if b then go inode else Stop Enotdir)) [ true ↦ refl | false ↦ refl ]

module _ (tree : Tree) (cred : Cred) where
  -- the walk from a key on
  abbrev pub walk_at : Key → List (List ℕ) → Walked
  walk_at key names = into (row_at tree key) (λ dir. walk_from tree cred dir names)

  -- a directory that refuses search stops the walk
  pub refused : (dir : Inode) (name : List ℕ) (names : List (List ℕ)) → grants cred 1 dir ≡ false → walk_from tree cred dir (name ∷ names) ≡ Stop Eacces
  refused dir name [] is = ap (λ b. if b then Ready (Some dir) (dir.ino ∷ []) (key_of dir.ino name) else Stop Eacces) is
  refused dir name (next ∷ names) is =
      ap (λ b. if b then into (row_at tree (key_of dir.ino name)) (λ inner. passing dir.ino (walk_from tree cred inner (next ∷ names))) else Stop Eacces) is

  -- and one that grants it is passed
  pub passed : (dir : Inode) (name next : List ℕ) (names : List (List ℕ)) → grants cred 1 dir ≡ true → walk_from tree cred dir (name ∷ next ∷ names) ≡ passing dir.ino (walk_at (key_of dir.ino name) (next ∷ names))
  passed dir name next names is =
      ap (λ b. if b then into (row_at tree (key_of dir.ino name)) (λ inner. passing dir.ino (walk_from tree cred inner (next ∷ names))) else Stop Eacces) is
      ∙ passes_in dir.ino (row_at tree (key_of dir.ino name)) (λ inner. walk_from tree cred inner (next ∷ names))

  -- the rest of the way, through a directory
  abbrev pub on_way : List ℕ → List (List ℕ) → Inode → List Key
  on_way name names dir = if grants cred 1 dir then way_from tree cred (key_of dir.ino name) names else []
