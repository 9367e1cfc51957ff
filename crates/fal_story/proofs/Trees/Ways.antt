-- Walks that come to a key where every walk stops.
use Rattle.std.proofs.Common.{◌≡◌, ℕ, Bool, true, false, ◌||◌, List, [], ◌∷◌, Option, Some, None, if◌then◌else◌, refl, sym, ap, ◌∙◌, subst}
use Rattle.fal_base.specs.declared.call.Cred.{Cred}
use Rattle.fal_base.specs.declared.inode.Inode.{Inode}
use Rattle.fal_base.specs.declared.key.Key.{Key}
use Rattle.fal_base.specs.declared.reply.Errno.TheVariants.{Enoent, Enotdir}
use Rattle.fal_base.specs.declared.reply.Errno.{Errno}
use Rattle.fal_base.proofs.Maps.{same_key_is}
use Rattle.fal_base.specs.Tree.{Tree, row_at, key_of, root_key, same_key}
use Rattle.fal_base.specs.Walk.{Walked, Stop, walk, walk_from, is_dir, grants, into, passing}
use Rattle.fal_dentry.proofs.TreeSteps.{on_way, passed, walk_at}
use Rattle.fal_dentry.specs.TreeWalk.{through, way, way_from}
use Rattle.fal_dentry.specs.Walk.{is_among}

second_is : (a b : Bool) → a ≡ false → (a || b) ≡ true → b ≡ true
second_is true b off is = cc
second_is false b off is = is

-- a walk that comes to a key where every walk stops
module _ (t : Tree) (cred : Cred) (q : Key) (errno : Errno) (stops : (go : Inode → Walked) → into (row_at t q) go ≡ Stop errno) where
  stop_granted : (dir : Inode) (name : List ℕ) (names : List (List ℕ)) → (grants cred 1 dir ≡ true → is_among q (way_from t cred (key_of dir.ino name) names) ≡ true → walk_from t cred dir (name ∷ names) ≡ Stop errno)
      → is_among q (on_way t cred name names dir) ≡ true → walk_from t cred dir (name ∷ names) ≡ Stop errno
  stop_granted dir name names later is =
      elim (grants cred 1 dir) as (λ b. grants cred 1 dir ≡ b → is_among q (if b then way_from t cred (key_of dir.ino name) names else []) ≡ true → walk_from t cred dir (name ∷ names) ≡ Stop errno) [
        | true ↦ λ granted is. later granted is
        | false ↦ λ refused is. cc
      ] refl is

  stop_row : (name : List ℕ) (names : List (List ℕ)) (row : Option Inode) → ((dir : Inode) → is_among q (on_way t cred name names dir) ≡ true → walk_from t cred dir (name ∷ names) ≡ Stop errno)
      → is_among q (through row (on_way t cred name names)) ≡ true → into row (λ dir. walk_from t cred dir (name ∷ names)) ≡ Stop errno
  stop_row name names None later is = cc
  stop_row name names (Some dir) later is =
      elim (is_dir dir) as (λ b. is_among q (if b then on_way t cred name names dir else []) ≡ true → (if b then walk_from t cred dir (name ∷ names) else Stop Enotdir) ≡ Stop errno) [
        | true ↦ λ is. later dir is
        | false ↦ λ is. cc
      ] is

  stop_at : (at : Key) (name : List ℕ) (names : List (List ℕ)) → ((dir : Inode) → is_among q (on_way t cred name names dir) ≡ true → walk_from t cred dir (name ∷ names) ≡ Stop errno)
      → is_among q (way_from t cred at (name ∷ names)) ≡ true → walk_at t cred at (name ∷ names) ≡ Stop errno
  stop_at at name names later is =
      elim (same_key at q) as (λ b. same_key at q ≡ b → walk_at t cred at (name ∷ names) ≡ Stop errno) [
        | true ↦ λ same. subst (λ k. into (row_at t k) (λ dir. walk_from t cred dir (name ∷ names)) ≡ Stop errno) (sym ((same_key_is at q).0 same)) (stops (λ dir. walk_from t cred dir (name ∷ names)))
        | false ↦ λ apart. stop_row name names (row_at t at) later (second_is (same_key at q) _ apart is)
      ] refl

  stop_from : (at : Key) (name : List ℕ) (names : List (List ℕ)) → is_among q (way_from t cred at (name ∷ names)) ≡ true → walk_at t cred at (name ∷ names) ≡ Stop errno
  stop_from at name [] is = stop_at at name [] (λ dir inside. stop_granted dir name [] (λ granted on. cc) inside) is
  stop_from at name (next ∷ names) is =
      stop_at at name (next ∷ names) (λ dir inside. stop_granted dir name (next ∷ names) (λ granted on.
      passed t cred dir name next names granted ∙ ap (passing dir.ino) (stop_from (key_of dir.ino name) next names on)) inside) is

  stop_way : (names : List (List ℕ)) → is_among q (way t cred names) ≡ true → walk t cred names ≡ Stop errno
  stop_way [] is = cc
  stop_way (name ∷ names) is = stop_from root_key name names is

-- a walk that comes to a key where nothing stands, or a file
pub reached_none : (t : Tree) (cred : Cred) (names : List (List ℕ)) (q : Key) → is_among q (way t cred names) ≡ true → row_at t q ≡ None → walk t cred names ≡ Stop Enoent
reached_none t cred names q is none = stop_way t cred q Enoent (λ go. ap (λ row. into row go) none) names is

pub reached_file : (t : Tree) (cred : Cred) (names : List (List ℕ)) (q : Key) (file : Inode) → is_among q (way t cred names) ≡ true → row_at t q ≡ Some file → is_dir file ≡ false
    → walk t cred names ≡ Stop Enotdir
reached_file t cred names q file is found no_dir = stop_way t cred q Enotdir (λ go. ap (λ row. into row go) found ∙ ap (λ b. if b then go file else Stop Enotdir) no_dir) names is
