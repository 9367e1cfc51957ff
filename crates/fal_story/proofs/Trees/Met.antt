-- What a walk over a replica says of the tree that its entries are of: it ends where the tree's walk does, by the keys of the tree's way, none of which is shut;
-- or else it lacks a key of that way, or meets one that is shut.
use Rattle.std.proofs.Common.{◌≡◌, ℕ, Bool, true, false, List, [], ◌∷◌, ◌++◌, Option, Some, None, IsSomeAnd, if◌then◌else◌, refl, sym, ap, ◌∙◌, subst}
use Rattle.std.specs.List.{All}
use Rattle.std.specs.Option.{option_map}
use Rattle.std.proofs.lemmas.List.Elements.{All-cons, All-nil}
use Rattle.fal_base.specs.declared.call.Cred.{Cred}
use Rattle.fal_base.specs.declared.inode.Dentry.{Dentry}
use Rattle.fal_base.specs.declared.inode.Inode.{Inode}
use Rattle.fal_base.specs.declared.key.Key.{Key}
use Rattle.fal_base.specs.declared.reply.Errno.TheVariants.{Eacces, Enotdir}
use Rattle.fal_base.specs.Maps.{value_at}
use Rattle.fal_base.proofs.Maps.{same_key_is}
use Rattle.fal_base.specs.Tree.{Tree, row_at, key_of, root_key, same_key}
use Rattle.fal_base.specs.Walk.{Walked, is_dir, grants, dentry_of, dentry_grants, into, passing, walk, walk_from}
use Rattle.fal_base.specs.Walk as tree_walk
use Rattle.fal_dentry.specs.TreeWalk.{last_key, last_name, through, way, way_from}
use Rattle.fal_dentry.specs.Walk.{Dentries, ReplicaWalk, Shut, Missing, Stop, Ready, is_among, past, into_dir, walk_on, replica_walk}
use Rattle.fal_dentry.proofs.TreeSteps.{passed, refused, walk_at}
use Rattle.fal_story.proofs.Trees.Changed.{up_to}
use Rattle.fal_story.proofs.Trees.Standing.{HasDir}

-- each directory of the replica stands in the tree
abbrev pub AreDirs : Tree → Dentries → Type 0
AreDirs tree entries = (key : Key) (dentry : Dentry) → value_at entries key ≡ Some dentry → HasDir tree key dentry

abbrev pub IsOpen : List Key → Key → Type 0
IsOpen shut key = is_among key shut ≡ false

-- none of the keys is shut
abbrev pub AreOpen : List Key → List Key → Type 0
AreOpen shut keys = All (IsOpen shut) keys

-- a way that comes to a key, by these keys before it, comes there by one more in front
past_to : (key gap : Key) (way keys : List Key) → (key ≡ gap → ⊥) → up_to gap way ≡ keys ++ gap ∷ [] → up_to gap (key ∷ way) ≡ key ∷ keys ++ gap ∷ []
past_to key gap way keys apart is =
    elim (same_key key gap) as (λ b. same_key key gap ≡ b → (if b then key ∷ [] else key ∷ up_to gap way) ≡ key ∷ keys ++ gap ∷ []) [
      | true ↦ λ same. absurd (apart ((same_key_is key gap).0 same))
      | false ↦ λ _. ap (λ ks. key ∷ ks) is
    ] refl

at_first : (key : Key) (keys : List Key) → up_to key (key ∷ keys) ≡ key ∷ []
at_first key keys = ap (λ b. if b then key ∷ [] else key ∷ up_to key keys) ((same_key_is key key).1 refl)

module _ (tree : Tree) (entries : Dentries) (cred : Cred) (shut : List Key) where
  -- of a way and of the tree's walk, by where the walk over the replica ended
  abbrev pub Met : List (List ℕ) → List Key → Walked → ReplicaWalk → Type 0
  Met names way walked (Shut key) = (passed : List Key) × (up_to key way ≡ passed ++ key ∷ []) × AreOpen shut passed × (is_among key shut ≡ true)
  Met names way walked (Missing gap keys) = (up_to gap way ≡ keys ++ gap ∷ []) × (value_at entries gap ≡ None) × AreOpen shut (keys ++ gap ∷ [])
  Met names way walked (Stop errno keys) = (walked ≡ tree_walk.Stop Eacces) × (way ≡ keys) × AreOpen shut keys
  Met names way walked (Ready parent inos keys) =
      ((dir : Option Inode) × (walked ≡ tree_walk.Ready dir inos (last_key parent (last_name names))) × (option_map dentry_of dir ≡ parent) × ((last_key parent (last_name names)).name ≡ last_name names))
      × (way ≡ keys) × AreOpen shut keys

  -- what is met on the rest of a way is met on the way with one directory more
  past_met : (key : Key) (dir : Inode) (name next : List ℕ) (names : List (List ℕ)) (way : List Key) (walked : Walked) → value_at entries key ≡ Some (dentry_of dir) → IsOpen shut key
      → (end : ReplicaWalk) → Met (next ∷ names) way walked end → Met (name ∷ next ∷ names) (key ∷ way) (passing dir.ino walked) (past key dir.ino end)
  past_met key dir name next names way walked there off (Shut gap) met =
      let apart : key ≡ gap → ⊥ = λ same. let wrong : false ≡ true = sym off ∙ ap (λ k. is_among k shut) same ∙ met.3 in absurd (cc) in
      (key ∷ met.0, past_to key gap way met.0 apart met.1, All-cons (IsOpen shut) key met.0 off met.2, met.3)
  past_met key dir name next names way walked there off (Missing gap keys) met =
      let apart : key ≡ gap → ⊥ = λ same. let none : value_at entries key ≡ None = ap (value_at entries) same ∙ met.1 in absurd (cc) in
      (past_to key gap way keys apart met.0, met.1, All-cons (IsOpen shut) key (keys ++ gap ∷ []) off met.2)
  past_met key dir name next names way walked there off (Stop errno keys) met = (ap (passing dir.ino) met.0, ap (λ ks. key ∷ ks) met.1, All-cons (IsOpen shut) key keys off met.2)
  past_met key dir name next names way walked there off (Ready parent inos keys) met =
      ((met.0.0, ap (passing dir.ino) met.0.1, met.0.2, met.0.3), ap (λ ks. key ∷ ks) met.1, All-cons (IsOpen shut) key keys off met.2)

  module _ (parent : Option Dentry) (key : Key) (name : List ℕ) (names : List (List ℕ)) where
    -- past a directory
    abbrev beyond : Dentry → ReplicaWalk
    beyond dir = past key dir.ino (walk_on entries cred shut (Some dir) (key_of dir.ino name) names)

    abbrev way_beyond : Inode → List Key
    way_beyond dir = way_from tree cred (key_of dir.ino name) names

    abbrev Later : Inode → Type 0
    Later dir = IsOpen shut key → value_at entries key ≡ Some (dentry_of dir) → grants cred 1 dir ≡ true → Met (name ∷ names) (key ∷ way_beyond dir) (walk_from tree cred dir (name ∷ names)) (beyond (dentry_of dir))

    by_grant : (dir : Inode) (b : Bool) → grants cred 1 dir ≡ b → IsOpen shut key → value_at entries key ≡ Some (dentry_of dir) → Later dir
        → Met (name ∷ names) (key ∷ (if b then way_beyond dir else [])) (walk_from tree cred dir (name ∷ names)) (if b then beyond (dentry_of dir) else Stop Eacces (key ∷ []))
    by_grant dir true granted off there later = later off there granted
    by_grant dir false granted off there later = (refused tree cred dir name names granted, refl, All-cons (IsOpen shut) key [] off (All-nil (IsOpen shut)))

    -- what is found under the key
    abbrev found_at : Dentry → ReplicaWalk
    found_at dir = if dentry_grants cred 1 dir then beyond dir else Stop Eacces (key ∷ [])

    abbrev Wanted : ReplicaWalk → Type 0
    Wanted end = Met (name ∷ names) (way_from tree cred key (name ∷ names)) (walk_at tree cred key (name ∷ names)) end

    at_dir : (dir : Inode) → row_at tree key ≡ Some dir → is_dir dir ≡ true → IsOpen shut key → value_at entries key ≡ Some (dentry_of dir) → Later dir → Wanted (found_at (dentry_of dir))
    at_dir dir row is off there later =
        let on = if grants cred 1 dir then way_beyond dir else [] in
        let way_is : way_from tree cred key (name ∷ names) ≡ key ∷ on
        = ap (λ o. key ∷ through o (λ inner. if grants cred 1 inner then way_beyond inner else [])) row ∙ ap (λ b. key ∷ (if b then on else [])) is in
        let walk_is : walk_at tree cred key (name ∷ names) ≡ walk_from tree cred dir (name ∷ names)
        = ap (λ o. into o (λ inner. walk_from tree cred inner (name ∷ names))) row ∙ ap (λ b. if b then walk_from tree cred dir (name ∷ names) else tree_walk.Stop Enotdir) is in
        subst (λ w. Met (name ∷ names) w (walk_at tree cred key (name ∷ names)) (found_at (dentry_of dir))) (sym way_is)
        (subst (λ w. Met (name ∷ names) (key ∷ on) w (found_at (dentry_of dir))) (sym walk_is)
        (by_grant dir (grants cred 1 dir) refl off there later))

    at_true : (met : Dentry) → IsOpen shut key → value_at entries key ≡ Some met → HasDir tree key met → ((dir : Inode) → Later dir) → Wanted (found_at met)
    at_true met off there is_true later =
        elim (row_at tree key) as (λ o. row_at tree key ≡ o → IsSomeAnd o (λ dir. (is_dir dir ≡ true) × (dentry_of dir ≡ met)) → Wanted (found_at met)) [
          | None ↦ λ row is. absurd is
          | Some dir ↦ λ row is. subst (λ d. Wanted (found_at d)) is.1 (at_dir dir row is.0 off (there ∙ ap Some (sym is.1)) (later dir))
        ] refl is_true

    met_step : AreDirs tree entries → ((dir : Inode) → Later dir) → Wanted (walk_on entries cred shut parent key (name ∷ names))
    met_step dirs later =
        elim (is_among key shut) as (λ b. is_among key shut ≡ b → Wanted (if b then Shut key else into_dir key (value_at entries key) found_at)) [
          | true ↦ λ is. ([], at_first key (through (row_at tree key) (λ dir. if grants cred 1 dir then way_beyond dir else [])), All-nil (IsOpen shut), is)
          | false ↦ λ off.
              elim (value_at entries key) as (λ o. value_at entries key ≡ o → Wanted (into_dir key o found_at)) [
                | None ↦ λ none. (at_first key (through (row_at tree key) (λ dir. if grants cred 1 dir then way_beyond dir else [])), none, All-cons (IsOpen shut) key [] off (All-nil (IsOpen shut)))
                | Some met ↦ λ there. at_true met off there (dirs key met there) later
              ] refl
        ] refl

  met_from : AreDirs tree entries → (parent : Option Dentry) (key : Key) (name : List ℕ) (names : List (List ℕ))
      → Met (name ∷ names) (way_from tree cred key (name ∷ names)) (walk_at tree cred key (name ∷ names)) (walk_on entries cred shut parent key (name ∷ names))
  met_from dirs parent key name [] =
      met_step parent key name [] dirs (λ dir off there granted. (
        (Some dir, ap (λ b. if b then tree_walk.Ready (Some dir) (dir.ino ∷ []) (key_of dir.ino name) else tree_walk.Stop Eacces) granted, refl, refl),
        refl,
        All-cons (IsOpen shut) key [] off (All-nil (IsOpen shut)),
      ))
  met_from dirs parent key name (next ∷ names) =
      met_step parent key name (next ∷ names) dirs (λ dir off there granted.
      let further = way_from tree cred (key_of dir.ino name) (next ∷ names) in
      let end = walk_on entries cred shut (Some (dentry_of dir)) (key_of dir.ino name) (next ∷ names) in
      subst (λ w. Met (name ∷ next ∷ names) (key ∷ further) w (past key dir.ino end)) (sym (passed tree cred dir name next names granted))
      (past_met key dir name next names further (walk_at tree cred (key_of dir.ino name) (next ∷ names)) there off end (met_from dirs (Some (dentry_of dir)) (key_of dir.ino name) next names)))

  pub met_way : AreDirs tree entries → (names : List (List ℕ)) → Met names (way tree cred names) (walk tree cred names) (replica_walk entries cred names shut)
  met_way dirs [] = ((None, refl, refl, refl), refl, All-nil (IsOpen shut))
  met_way dirs (name ∷ names) = met_from dirs None root_key name names
