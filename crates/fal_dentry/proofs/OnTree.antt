-- A walk over entries that are the tree's is the tree's walk.
use Rattle.std.proofs.Common.{◌≡◌, ℕ, Bool, true, false, ◌||◌, List, [], ◌∷◌, Option, Some, None, unwrap_or, Result, Ok, Err, IfOk, IsTrue, IsSomeAnd, if◌then◌else◌, refl, sym, ap, subst, ◌∙◌}
use Rattle.std.specs.List.{All}
use Rattle.std.proofs.lemmas.List.Elements.{All-head, All-tail}
use Rattle.fal_base.specs.declared.call.Cred.{Cred}
use Rattle.fal_base.specs.declared.inode.Dentry.{Dentry}
use Rattle.fal_base.specs.declared.inode.Inode.{Inode}
use Rattle.fal_base.specs.declared.key.Key.{Key}
use Rattle.fal_base.specs.declared.reply.Errno.TheVariants.{Eacces, Enotdir}
use Rattle.fal_base.specs.Tree.{Tree, row_at, key_of, root_key, same_key}
use Rattle.fal_base.specs.Walk.{Walked, is_dir, grants, dentry_of, dentry_grants, into, passing, walk, walk_from}
use Rattle.fal_base.specs.Walk as tree_walk
use Rattle.fal_base.specs.Maps.{value_at}
use Rattle.fal_base.proofs.Maps.{same_key_is}
use Rattle.fal_dentry.specs.Walk.{Dentries, ReplicaWalk, Shut, Missing, Stop, Ready, is_among, past, into_dir, walk_on, replica_walk}
use Rattle.fal_base.specs.declared.memory.OutOfMemory.{OutOfMemory}
use Rattle.fal_dentry.specs.declared.walk.Walk.{Walk}
use Rattle.fal_dentry.proofs.TreeSteps.{walk_at, refused, passed}
use Rattle.fal_dentry.specs.Seen.{walk_seen}
use Rattle.fal_dentry.specs.TreeWalk.{IsTrueAt, found_on, keys_met_from, through, way_from, lacking_or, first_lacking, Says, IsTreeWalk}

or_first : (a b : Bool) → a ≡ true → IsTrue (a || b)
or_first true b is = refl
or_first false b is = cc

or_second : (a b : Bool) → IsTrue b → IsTrue (a || b)
or_second true b is = refl
or_second false b is = is

same_Some : {A : Type 0} (x y : A) → Some x ≡ Some y → x ≡ y
same_Some x y e = ap (λ o. unwrap_or o x) e

module _ (tree : Tree) (entries : Dentries) (cred : Cred) (shut : List Key) where
  abbrev AreTrue : List Key → Type 0
  AreTrue keys = All (IsTrueAt tree entries) keys

  -- what is said of the rest of a walk is said of the walk that has passed one directory more
  past_says : (key : Key) (dir : Inode) (name next : List ℕ) (names : List (List ℕ)) (way : List Key) (walked : Walked) (end : ReplicaWalk) → value_at entries key ≡ Some (dentry_of dir)
      → Says entries (next ∷ names) shut way walked end → Says entries (name ∷ next ∷ names) shut (key ∷ way) (passing dir.ino walked) (past key dir.ino end)
  past_says key dir name next names way walked (Shut gap) met says = (says.0, or_second (same_key key gap) _ says.1)
  past_says key dir name next names way walked (Missing gap keys) met says = ap (λ o. lacking_or key o (first_lacking entries way)) met ∙ says
  past_says key dir name next names way walked (Stop errno keys) met says = ap (passing dir.ino) says
  past_says key dir name next names way walked (Ready parent inos keys) met says = (says.0, ap (passing dir.ino) says.1, says.2)

  module _ (parent : Option Dentry) (key : Key) (name : List ℕ) (names : List (List ℕ)) where
    -- what is said once the directory is passed
    abbrev Later : Inode → Type 0
    Later dir =
        Says entries (name ∷ names) shut (key ∷ way_from tree cred (key_of dir.ino name) names) (walk_from tree cred dir (name ∷ names)) (past key dir.ino (walk_on entries cred shut (Some (dentry_of dir)) (key_of dir.ino name) names))

    -- the walk at a directory that was found
    abbrev end_at : Inode → Bool → ReplicaWalk
    end_at dir granted = if granted then past key dir.ino (walk_on entries cred shut (Some (dentry_of dir)) (key_of dir.ino name) names) else Stop Eacces (key ∷ [])

    abbrev keys_at : Inode → Bool → List Key
    keys_at dir granted = if granted then keys_met_from entries cred shut (key_of dir.ino name) names else []

    abbrev way_at : Inode → Bool → List Key
    way_at dir granted = if granted then way_from tree cred (key_of dir.ino name) names else []

    by_grant : (dir : Inode) (b : Bool) → grants cred 1 dir ≡ b → AreTrue (keys_at dir b)
        → (grants cred 1 dir ≡ true → AreTrue (keys_met_from entries cred shut (key_of dir.ino name) names) → Later dir)
        → Says entries (name ∷ names) shut (key ∷ way_at dir b) (walk_from tree cred dir (name ∷ names)) (end_at dir b)
    by_grant dir true granted are_true later = later granted are_true
    by_grant dir false granted are_true later = refused tree cred dir name names granted

    -- the directory under the key is the tree's
    at_dir : (dir : Inode) → row_at tree key ≡ Some dir → is_dir dir ≡ true → AreTrue (keys_at dir (grants cred 1 dir))
        → (grants cred 1 dir ≡ true → AreTrue (keys_met_from entries cred shut (key_of dir.ino name) names) → Later dir)
        → Says entries (name ∷ names) shut (way_from tree cred key (name ∷ names)) (walk_at tree cred key (name ∷ names)) (end_at dir (grants cred 1 dir))
    at_dir dir row is are_true later =
        let way_is : way_from tree cred key (name ∷ names) ≡ key ∷ way_at dir (grants cred 1 dir)
        = ap (λ o. key ∷ through o (λ inner. way_at inner (grants cred 1 inner))) row ∙ ap (λ b. key ∷ (if b then way_at dir (grants cred 1 dir) else [])) is in
        let walk_is : walk_at tree cred key (name ∷ names) ≡ walk_from tree cred dir (name ∷ names)
        = ap (λ o. into o (λ inner. walk_from tree cred inner (name ∷ names))) row ∙ ap (λ b. if b then walk_from tree cred dir (name ∷ names) else tree_walk.Stop Enotdir) is in
        subst (λ w. Says entries (name ∷ names) shut w (walk_at tree cred key (name ∷ names)) (end_at dir (grants cred 1 dir))) (sym way_is)
        (subst (λ w. Says entries (name ∷ names) shut (key ∷ way_at dir (grants cred 1 dir)) w (end_at dir (grants cred 1 dir))) (sym walk_is)
        (by_grant dir _ refl are_true later))

    -- what is found under the key: nothing, or a directory as the tree has it
    abbrev found_at : Dentry → ReplicaWalk
    found_at dir = if dentry_grants cred 1 dir then past key dir.ino (walk_on entries cred shut (Some dir) (key_of dir.ino name) names) else Stop Eacces (key ∷ [])

    abbrev found_keys : Dentry → List Key
    found_keys dir = if dentry_grants cred 1 dir then keys_met_from entries cred shut (key_of dir.ino name) names else []

    abbrev Wanted : ReplicaWalk → Type 0
    Wanted end = Says entries (name ∷ names) shut (way_from tree cred key (name ∷ names)) (walk_at tree cred key (name ∷ names)) end

    at_true : (met : Dentry) → value_at entries key ≡ Some met → IsTrueAt tree entries key → AreTrue (found_keys met)
        → ((dir : Inode) → value_at entries key ≡ Some (dentry_of dir) → grants cred 1 dir ≡ true → AreTrue (keys_met_from entries cred shut (key_of dir.ino name) names) → Later dir)
        → Wanted (found_at met)
    at_true met value is_true are_true later =
        elim (row_at tree key) as (λ o. row_at tree key ≡ o → IsSomeAnd o (λ dir. (is_dir dir ≡ true) × (value_at entries key ≡ Some (dentry_of dir))) → Wanted (found_at met)) [
          | None ↦ λ row is. absurd is
          | Some dir ↦ λ row is.
              let same : met ≡ dentry_of dir = same_Some met (dentry_of dir) (sym value ∙ is.1) in
              subst (λ d. Wanted (found_at d)) (sym same) (at_dir dir row is.0 (subst (λ d. AreTrue (found_keys d)) same are_true) (later dir is.1))
        ] refl is_true

    step : AreTrue (keys_met_from entries cred shut key (name ∷ names))
        → ((dir : Inode) → value_at entries key ≡ Some (dentry_of dir) → grants cred 1 dir ≡ true → AreTrue (keys_met_from entries cred shut (key_of dir.ino name) names) → Later dir)
        → Wanted (walk_on entries cred shut parent key (name ∷ names))
    step are_true later =
        elim (is_among key shut) as (λ b. is_among key shut ≡ b → AreTrue (if b then [] else found_on key (value_at entries key) found_keys) → Wanted (if b then Shut key else into_dir key (value_at entries key) found_at)) [
          | true ↦ λ is _. (is, or_first (same_key key key) _ ((same_key_is key key).1 refl))
          | false ↦ λ apart are_true.
              elim (value_at entries key) as (λ o. value_at entries key ≡ o → AreTrue (found_on key o found_keys) → Wanted (into_dir key o found_at)) [
                | None ↦ λ none _. ap (λ o. lacking_or key o (first_lacking entries (through (row_at tree key) (λ dir. way_at dir (grants cred 1 dir))))) none
                | Some met ↦ λ value are_true. at_true met value (All-head (IsTrueAt tree entries) key (found_keys met) are_true) (All-tail (IsTrueAt tree entries) key (found_keys met) are_true) later
              ] refl are_true
        ] refl are_true

  on_tree : (parent : Option Dentry) (key : Key) (name : List ℕ) (names : List (List ℕ)) → AreTrue (keys_met_from entries cred shut key (name ∷ names))
      → Says entries (name ∷ names) shut (way_from tree cred key (name ∷ names)) (walk_at tree cred key (name ∷ names)) (walk_on entries cred shut parent key (name ∷ names))
  on_tree parent key name [] are_true =
      step parent key name [] are_true (λ dir value granted _.
      (Some dir, ap (λ b. if b then tree_walk.Ready (Some dir) (dir.ino ∷ []) (key_of dir.ino name) else tree_walk.Stop Eacces) granted, refl))
  on_tree parent key name (next ∷ names) are_true =
      step parent key name (next ∷ names) are_true (λ dir value granted rest_true.
      let rest = on_tree (Some (dentry_of dir)) (key_of dir.ino name) next names rest_true in
      let end = walk_on entries cred shut (Some (dentry_of dir)) (key_of dir.ino name) (next ∷ names) in
      let way = way_from tree cred (key_of dir.ino name) (next ∷ names) in
      subst (λ w. Says entries (name ∷ next ∷ names) shut (key ∷ way) w (past key dir.ino end)) (sym (passed tree cred dir name next names granted))
      (past_says key dir name next names way (walk_at tree cred (key_of dir.ino name) (next ∷ names)) end value rest))

pub tree_walk_of : (tree : Tree) (entries : Dentries) (cred : Cred) (names : List (List ℕ)) (shut : List Key) → IsTreeWalk tree entries cred names shut (replica_walk entries cred names shut)
tree_walk_of tree entries cred [] shut are_true = (None, refl, refl)
tree_walk_of tree entries cred (name ∷ names) shut are_true = on_tree tree entries cred shut None root_key name names are_true

-- so is what a walk answered
pub answered_of : (entries : Dentries) (cred : Cred) (names : List (List ℕ)) (shut : List Key) (answer : Result Walk OutOfMemory) → IfOk answer (λ walk. walk_seen walk ≡ replica_walk entries cred names shut)
    → IfOk answer (λ walk. (tree : Tree) → IsTreeWalk tree entries cred names shut (walk_seen walk))
answered_of entries cred names shut (Ok walk) is = λ tree. subst (IsTreeWalk tree entries cred names shut) (sym is) (tree_walk_of tree entries cred names shut)
answered_of entries cred names shut (Err no_memory) is = is
