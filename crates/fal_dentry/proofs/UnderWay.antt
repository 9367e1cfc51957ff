-- The last key of a walk that is ready is under a directory that it has crossed.
use Rattle.std.proofs.Common.{◌≡◌, ℕ, Bool, true, false, ◌||◌, List, [], ◌∷◌, Option, Some, None, if◌then◌else◌, refl, sym, ap, subst, ◌∙◌}
use Rattle.fal_base.specs.declared.call.Cred.{Cred}
use Rattle.fal_base.specs.declared.inode.Inode.{Inode}
use Rattle.fal_base.specs.declared.key.Key.{Key}
use Rattle.fal_base.specs.declared.reply.Errno.TheVariants.{Eacces, Enotdir}
use Rattle.fal_base.specs.Tree.{Tree, row_at, key_of, root_key, same_key}
use Rattle.fal_base.specs.Walk.{Walked, Stop, Ready, walk, walk_from, is_dir, grants, into, passing}
use Rattle.fal_base.proofs.Maps.{same_key_is}
use Rattle.fal_base.proofs.Numbers.{DoNumbersDiffer}
use Rattle.fal_dentry.proofs.TreeSteps.{on_way, passes_in, walk_at}
use Rattle.fal_dentry.specs.TreeWalk.{through, way, way_from}
use Rattle.fal_dentry.specs.Walk.{is_among}

second : (a b : Bool) → b ≡ true → (a || b) ≡ true
second true b is = refl
second false b is = is

module _ (t : Tree) (cred : Cred) where
  -- where the walk is ready, the directory of its last key was crossed
  abbrev pub IsUnderWay : List Key → Walked → Type 0
  IsUnderWay keys (Stop errno) = Unit {0}
  IsUnderWay keys (Ready None passed last) = last.parent ≡ 0
  IsUnderWay keys (Ready (Some dir) passed last) = (last.parent ≡ dir.ino) × ((key : Key) × (is_among key keys ≡ true) × (row_at t key ≡ Some dir))

  under_more : (key : Key) (keys : List Key) (ino : ℕ) (w : Walked) → IsUnderWay keys w → IsUnderWay (key ∷ keys) (passing ino w)
  under_more key keys ino (Stop errno) is = tt
  under_more key keys ino (Ready None passed last) is = is
  under_more key keys ino (Ready (Some dir) passed last) is = (is.0, (is.1.0, second (same_key key is.1.0) _ is.1.1, is.1.2))

  first_among : (key : Key) (keys : List Key) → is_among key (key ∷ keys) ≡ true
  first_among key keys = ap (λ b. b || is_among key keys) ((same_key_is key key).1 refl)

  under_row : (key : Key) (name : List ℕ) (names : List (List ℕ)) (row : Option Inode) → row_at t key ≡ row
      → ((dir : Inode) → row_at t key ≡ Some dir → IsUnderWay (key ∷ on_way t cred name names dir) (walk_from t cred dir (name ∷ names)))
      → IsUnderWay (key ∷ through row (on_way t cred name names)) (into row (λ dir. walk_from t cred dir (name ∷ names)))
  under_row key name names None is later = tt
  under_row key name names (Some dir) is later =
      elim (is_dir dir) as (λ b. IsUnderWay (key ∷ (if b then on_way t cred name names dir else [])) (if b then walk_from t cred dir (name ∷ names) else Stop Enotdir)) [ true ↦ later dir is | false ↦ tt ]

  under_from : (key : Key) (name : List ℕ) (names : List (List ℕ)) → IsUnderWay (way_from t cred key (name ∷ names)) (walk_at t cred key (name ∷ names))
  under_from key name [] = under_row key name [] (row_at t key) refl (λ dir there.
      elim (grants cred 1 dir) as (λ b. IsUnderWay (key ∷ (if b then way_from t cred (key_of dir.ino name) [] else [])) (if b then Ready (Some dir) (dir.ino ∷ []) (key_of dir.ino name) else Stop Eacces)) [
        | true ↦ (refl, (key, first_among key [], there))
        | false ↦ tt
      ])
  under_from key name (next ∷ names) = under_row key name (next ∷ names) (row_at t key) refl (λ dir there.
      elim (grants cred 1 dir) as (λ b. IsUnderWay (key ∷ (if b then way_from t cred (key_of dir.ino name) (next ∷ names) else []))
      (if b then into (row_at t (key_of dir.ino name)) (λ inner. passing dir.ino (walk_from t cred inner (next ∷ names))) else Stop Eacces)) [
        | true ↦ subst (IsUnderWay (key ∷ way_from t cred (key_of dir.ino name) (next ∷ names))) (sym (passes_in dir.ino (row_at t (key_of dir.ino name)) (λ inner. walk_from t cred inner (next ∷ names))))
            (under_more key (way_from t cred (key_of dir.ino name) (next ∷ names)) dir.ino _ (under_from (key_of dir.ino name) next names))
        | false ↦ tt
      ])

  pub under_way : (names : List (List ℕ)) → IsUnderWay (way t cred names) (walk t cred names)
  under_way [] = refl
  under_way (name ∷ names) = under_from root_key name names

-- where numbers differ, a walk that ends under the number of a row has the row's key on its way
pub under_number : (t : Tree) (cred : Cred) (names : List (List ℕ)) (dir : Inode) (passed : List ℕ) (last key : Key) (row : Inode) → DoNumbersDiffer t
    → walk t cred names ≡ Ready (Some dir) passed last → row_at t key ≡ Some row → last.parent ≡ row.ino → is_among key (way t cred names) ≡ true
under_number t cred names dir passed last key row differ ready there below =
    let under = subst (IsUnderWay t cred (way t cred names)) ready (under_way t cred names) in
    subst (λ k. is_among k (way t cred names) ≡ true) (differ under.1.0 key dir row under.1.2 there (sym under.0 ∙ below)) under.1.1

-- without a parent the last key is the root's, which is under no number
pub no_parent : (t : Tree) (cred : Cred) (names : List (List ℕ)) (passed : List ℕ) (last : Key) → walk t cred names ≡ Ready None passed last → last.parent ≡ 0
no_parent t cred names passed last ready = subst (IsUnderWay t cred (way t cred names)) ready (under_way t cred names)
