-- The last key of a walk that is ready is that of the last name under the directory where the walk ends.
use Rattle.std.proofs.Common.{◌≡◌, ℕ, true, false, List, [], ◌∷◌, Option, Some, None, if◌then◌else◌, refl, subst}
use Rattle.std.specs.Option.{option_map}
use Rattle.fal_base.specs.declared.call.Cred.{Cred}
use Rattle.fal_base.specs.declared.inode.Inode.{Inode}
use Rattle.fal_base.specs.declared.key.Key.{Key}
use Rattle.fal_base.specs.declared.reply.Errno.TheVariants.{Eacces, Enotdir}
use Rattle.fal_base.specs.Tree.{Tree, row_at, key_of, root_key}
use Rattle.fal_base.specs.Walk.{Walked, Stop, Ready, walk, walk_from, is_dir, dentry_of, grants, into, passing}
use Rattle.fal_dentry.specs.TreeWalk.{last_key, last_name}

abbrev IsLast : List (List ℕ) → Walked → Type 0
IsLast names (Stop errno) = Unit {0}
IsLast names (Ready dir passed last) = last ≡ last_key (option_map dentry_of dir) (last_name names)

last_passed : (names : List (List ℕ)) (ino : ℕ) (w : Walked) → IsLast names w → IsLast names (passing ino w)
last_passed names ino (Stop errno) is = tt
last_passed names ino (Ready dir passed last) is = is

last_into : (names : List (List ℕ)) (row : Option Inode) (go : Inode → Walked) → ((dir : Inode) → IsLast names (go dir)) → IsLast names (into row go)
last_into names None go later = tt
last_into names (Some dir) go later = elim (is_dir dir) as (λ b. IsLast names (if b then go dir else Stop Enotdir)) [ true ↦ later dir | false ↦ tt ]

module _ (t : Tree) (cred : Cred) where
  last_from : (name : List ℕ) (names : List (List ℕ)) (dir : Inode) → IsLast (name ∷ names) (walk_from t cred dir (name ∷ names))
  last_from name [] dir = elim (grants cred 1 dir) as (λ b. IsLast (name ∷ []) (if b then Ready (Some dir) (dir.ino ∷ []) (key_of dir.ino name) else Stop Eacces)) [ true ↦ refl | false ↦ tt ]
  last_from name (next ∷ names) dir =
      let on : Inode → Walked = λ inner. passing dir.ino (walk_from t cred inner (next ∷ names)) in
      elim (grants cred 1 dir) as (λ b. IsLast (name ∷ next ∷ names) (if b then into (row_at t (key_of dir.ino name)) on else Stop Eacces)) [
        | true ↦ last_into (name ∷ next ∷ names) (row_at t (key_of dir.ino name)) on (λ inner. last_passed (next ∷ names) dir.ino (walk_from t cred inner (next ∷ names)) (last_from next names inner))
        | false ↦ tt
      ]

  last_walked : (names : List (List ℕ)) → IsLast names (walk t cred names)
  last_walked [] = refl
  last_walked (name ∷ names) = last_into (name ∷ names) (row_at t root_key) (λ root. walk_from t cred root (name ∷ names)) (last_from name names)

  pub last_is_last : (names : List (List ℕ)) (dir : Option Inode) (passed : List ℕ) (last : Key) → walk t cred names ≡ Ready dir passed last → last ≡ last_key (option_map dentry_of dir) (last_name names)
  last_is_last names dir passed last ready = subst (IsLast names) ready (last_walked names)
