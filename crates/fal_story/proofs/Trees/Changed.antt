-- A tree that changes, and keys under which its directories stay: walks over these alone stay as they were.
use Rattle.std.proofs.Common.{◌≡◌, ℕ, Bool, true, false, ◌||◌, List, [], ◌∷◌, Option, Some, None, IsSomeAnd, if◌then◌else◌, refl, sym, ap, ◌∙◌, subst}
use Rattle.std.specs.List.{All}
use Rattle.std.proofs.lemmas.List.Elements.{All-head, All-tail, All-cons, All-nil}
use Rattle.fal_base.specs.declared.call.Cred.{Cred}
use Rattle.fal_base.specs.declared.inode.Dentry.{Dentry}
use Rattle.fal_base.specs.declared.inode.Inode.{Inode}
use Rattle.fal_base.specs.declared.key.Key.{Key}
use Rattle.fal_base.specs.declared.reply.Errno.TheVariants.{Eacces, Enotdir}
use Rattle.fal_base.specs.Tree.{Tree, row_at, key_of, root_key, same_key}
use Rattle.fal_base.specs.Walk.{Walked, Stop, Ready, walk, walk_from, is_dir, grants, dentry_of, into, passing}
use Rattle.fal_dentry.proofs.TreeSteps.{on_way, passed, walk_at}
use Rattle.fal_dentry.proofs.WalkKeys.{walk_agree}
use Rattle.fal_dentry.specs.TreeWalk.{through, way, way_from}
use Rattle.fal_dentry.specs.Walk.{is_among}
use Rattle.fal_exec.specs.Executed.{is_directory}
use Rattle.fal_story.proofs.Trees.Standing.{HasDir}

-- a directory of the first tree stays as it is where its key is safe
pub record IsChanged (t u : Tree) (Safe : Key → Type 0) : Type 0 where
  pub others : (q : Key) → Safe q → is_directory (row_at t q) ≡ true → row_at u q ≡ row_at t q

-- the keys up to this one
abbrev pub up_to : Key → List Key → List Key
up_to q [] = []
up_to q (key ∷ keys) = if same_key key q then key ∷ [] else key ∷ up_to q keys

-- a walk that ends at a directory
abbrev pub IsEnded : Walked → Type 0
IsEnded (Stop errno) = errno ≡ Eacces
IsEnded (Ready parent passed last) = Unit {0}

ended_inside : (ino : ℕ) (walked : Walked) → IsEnded (passing ino walked) → IsEnded walked
ended_inside ino (Stop errno) is = is
ended_inside ino (Ready parent passed last) is = tt

module _ (t : Tree) (cred : Cred) where
  abbrev IsDirAt : Key → Type 0
  IsDirAt key = is_directory (row_at t key) ≡ true

  dirs_granted : (dir : Inode) (name : List ℕ) (names : List (List ℕ)) (b : Bool) → grants cred 1 dir ≡ b → (grants cred 1 dir ≡ true → All IsDirAt (way_from t cred (key_of dir.ino name) names))
      → All IsDirAt (if b then way_from t cred (key_of dir.ino name) names else [])
  dirs_granted dir name names true is later = later is
  dirs_granted dir name names false is later = All-nil IsDirAt

  dirs_kind : (key : Key) (dir : Inode) (name : List ℕ) (names : List (List ℕ)) (b : Bool) → is_directory (row_at t key) ≡ b → IsEnded (if b then walk_from t cred dir (name ∷ names) else Stop Enotdir)
      → (IsEnded (walk_from t cred dir (name ∷ names)) → grants cred 1 dir ≡ true → All IsDirAt (way_from t cred (key_of dir.ino name) names))
      → All IsDirAt (key ∷ (if b then on_way t cred name names dir else []))
  dirs_kind key dir name names true is ended later = All-cons IsDirAt key _ is (dirs_granted dir name names _ refl (later ended))
  dirs_kind key dir name names false is ended later = absurd (cc)

  dirs_row : (key : Key) (name : List ℕ) (names : List (List ℕ)) (row : Option Inode) → row_at t key ≡ row → IsEnded (into row (λ dir. walk_from t cred dir (name ∷ names)))
      → ((dir : Inode) → IsEnded (walk_from t cred dir (name ∷ names)) → grants cred 1 dir ≡ true → All IsDirAt (way_from t cred (key_of dir.ino name) names))
      → All IsDirAt (key ∷ through row (on_way t cred name names))
  dirs_row key name names None is ended later = absurd (cc)
  dirs_row key name names (Some dir) is ended later = dirs_kind key dir name names (is_dir dir) (ap is_directory is) ended (later dir)

  dirs_from : (key : Key) (name : List ℕ) (names : List (List ℕ)) → IsEnded (walk_at t cred key (name ∷ names)) → All IsDirAt (way_from t cred key (name ∷ names))
  dirs_from key name [] ended = dirs_row key name [] (row_at t key) refl ended (λ dir _ granted. All-nil IsDirAt)
  dirs_from key name (next ∷ names) ended =
      dirs_row key name (next ∷ names) (row_at t key) refl ended (λ dir inside granted.
      dirs_from (key_of dir.ino name) next names (ended_inside dir.ino (walk_at t cred (key_of dir.ino name) (next ∷ names)) (subst IsEnded (passed t cred dir name next names granted) inside)))

  -- where a walk ends at a directory, each key of its way has one
  dirs_way : (names : List (List ℕ)) → IsEnded (walk t cred names) → All IsDirAt (way t cred names)
  dirs_way [] ended = All-nil IsDirAt
  dirs_way (name ∷ names) ended = dirs_from root_key name names ended

through_none : (row : Option Inode) (go : Inode → List Key) → is_directory row ≡ false → through row go ≡ []
through_none None go is = refl
through_none (Some inode) go is = ap (λ b. if b then go inode else []) is

-- ---- walks that stay

module _ (t u : Tree) (Safe : Key → Type 0) (cred : Cred) (changed : IsChanged t u Safe) where
  abbrev SameAt : Key → Type 0
  SameAt q = row_at u q ≡ row_at t q

  -- the rows on a way that is safe, where each is a directory
  same_way : (keys : List Key) → All Safe keys → All (IsDirAt t cred) keys → All SameAt keys
  same_way keys safe dirs = λ k d below. changed.others _ (safe k d below) (dirs k d below)

  pub walk_kept : (names : List (List ℕ)) → All Safe (way t cred names) → IsEnded (walk t cred names) → walk u cred names ≡ walk t cred names
  walk_kept names safe ended = walk_agree t u cred names (same_way (way t cred names) safe (dirs_way t cred names ended))

  -- ---- ways that stay

  way_granted : (dir : Inode) (name : List ℕ) (names : List (List ℕ)) → All SameAt (on_way t cred name names dir)
      → (All SameAt (way_from t cred (key_of dir.ino name) names) → way_from u cred (key_of dir.ino name) names ≡ way_from t cred (key_of dir.ino name) names)
      → on_way u cred name names dir ≡ on_way t cred name names dir
  way_granted dir name names same later =
      elim (grants cred 1 dir) as (λ b. All SameAt (if b then way_from t cred (key_of dir.ino name) names else []) → (if b then way_from u cred (key_of dir.ino name) names else []) ≡ (if b then way_from t cred (key_of dir.ino name) names else [])) [
        | true ↦ λ same. later same
        | false ↦ λ same. refl
      ] same

  way_row : (name : List ℕ) (names : List (List ℕ)) (row : Option Inode) → All SameAt (through row (on_way t cred name names))
      → ((dir : Inode) → All SameAt (way_from t cred (key_of dir.ino name) names) → way_from u cred (key_of dir.ino name) names ≡ way_from t cred (key_of dir.ino name) names)
      → through row (on_way u cred name names) ≡ through row (on_way t cred name names)
  way_row name names None same later = refl
  way_row name names (Some dir) same later =
      elim (is_dir dir) as (λ b. All SameAt (if b then on_way t cred name names dir else []) → (if b then on_way u cred name names dir else []) ≡ (if b then on_way t cred name names dir else [])) [
        | true ↦ λ same. way_granted dir name names same (later dir)
        | false ↦ λ same. refl
      ] same

  way_agree : (at : Key) (names : List (List ℕ)) → All SameAt (way_from t cred at names) → way_from u cred at names ≡ way_from t cred at names
  way_agree at [] same = refl
  way_agree at (name ∷ names) same =
      ap (λ row. at ∷ through row (on_way u cred name names)) (All-head SameAt at _ same)
      ∙ ap (λ keys. at ∷ keys) (way_row name names (row_at t at) (All-tail SameAt at _ same) (λ dir. way_agree (key_of dir.ino name) names))

  pub way_kept : (names : List (List ℕ)) → All Safe (way t cred names) → IsEnded (walk t cred names) → way u cred names ≡ way t cred names
  way_kept names safe ended = way_agree root_key names (same_way (way t cred names) safe (dirs_way t cred names ended))

  -- ---- a walk that comes to a key

  module _ (q : Key) where
    -- what comes to the key in one list does so in the other, by the same keys
    abbrev Reached : List Key → List Key → Type 0
    Reached xs ys = All Safe (up_to q xs) → is_among q xs ≡ true → (is_among q ys ≡ true) × (up_to q ys ≡ up_to q xs)

    reached_on : (at : Key) (xs ys : List Key) → (Safe at → Reached xs ys) → Reached (at ∷ xs) (at ∷ ys)
    reached_on at xs ys more safe is =
        elim (same_key at q) as (λ b. All Safe (if b then at ∷ [] else at ∷ up_to q xs) → (b || is_among q xs) ≡ true → ((b || is_among q ys) ≡ true) × ((if b then at ∷ [] else at ∷ up_to q ys) ≡ (if b then at ∷ [] else at ∷ up_to q xs))) [
          | true ↦ λ safe is. (refl, refl)
          | false ↦ λ safe is. let rest = more (All-head Safe at _ safe) (All-tail Safe at _ safe) is in (rest.0, ap (λ keys. at ∷ keys) rest.1)
        ] safe is

    reached_granted : (dir : Inode) (xs ys : List Key) → Reached xs ys → Reached (if grants cred 1 dir then xs else []) (if grants cred 1 dir then ys else [])
    reached_granted dir xs ys more =
        elim (grants cred 1 dir) as (λ b. Reached (if b then xs else []) (if b then ys else [])) [ true ↦ more | false ↦ λ safe is. absurd (cc) ]

    reached_row : (row : Option Inode) (f g : Inode → List Key) → ((dir : Inode) → Reached (f dir) (g dir)) → Reached (through row f) (through row g)
    reached_row None f g more safe is = absurd (cc)
    reached_row (Some dir) f g more safe is =
        elim (is_dir dir) as (λ b. Reached (if b then f dir else []) (if b then g dir else [])) [ true ↦ more dir | false ↦ λ safe is. absurd (cc) ] safe is

    reached_through : (at : Key) (f g : Inode → List Key) → Safe at → ((dir : Inode) → Reached (f dir) (g dir)) → Reached (through (row_at t at) f) (through (row_at u at) g)
    reached_through at f g here more =
        elim (is_directory (row_at t at)) as (λ b. is_directory (row_at t at) ≡ b → Reached (through (row_at t at) f) (through (row_at u at) g)) [
          | true ↦ λ dir. subst (λ row. Reached (through (row_at t at) f) (through row g)) (sym (changed.others at here dir)) (reached_row (row_at t at) f g more)
          | false ↦ λ none safe is. let wrong : false ≡ true = ap (is_among q) (sym (through_none (row_at t at) f none)) ∙ is in absurd (cc)
        ] refl

    reached_from : (at : Key) (names : List (List ℕ)) → Reached (way_from t cred at names) (way_from u cred at names)
    reached_from at [] safe is = absurd (cc)
    reached_from at (name ∷ names) safe is =
        reached_on at _ _ (λ here. reached_through at (on_way t cred name names) (on_way u cred name names) here
        (λ dir. reached_granted dir (way_from t cred (key_of dir.ino name) names) (way_from u cred (key_of dir.ino name) names) (reached_from (key_of dir.ino name) names))) safe is

  pub reach_kept : (names : List (List ℕ)) (q : Key) → All Safe (up_to q (way t cred names)) → is_among q (way t cred names) ≡ true
      → (is_among q (way u cred names) ≡ true) × (up_to q (way u cred names) ≡ up_to q (way t cred names))
  reach_kept names q = reached_from q root_key names

  pub ready_kept : (names : List (List ℕ)) (dir : Option Inode) (passed : List ℕ) (last : Key) → All Safe (way t cred names) → walk t cred names ≡ Ready dir passed last
      → (walk u cred names ≡ Ready dir passed last) × (way u cred names ≡ way t cred names)
  ready_kept names dir passed last safe is = let ended = subst IsEnded (sym is) tt in (walk_kept names safe ended ∙ is, way_kept names safe ended)

  pub denied_kept : (names : List (List ℕ)) → All Safe (way t cred names) → walk t cred names ≡ Stop Eacces → (walk u cred names ≡ Stop Eacces) × (way u cred names ≡ way t cred names)
  denied_kept names safe is = let ended = subst IsEnded (sym is) refl in (walk_kept names safe ended ∙ is, way_kept names safe ended)

is_dir_of : (row : Option Inode) (dentry : Dentry) → IsSomeAnd row (λ dir. (is_dir dir ≡ true) × (dentry_of dir ≡ dentry)) → is_directory row ≡ true
is_dir_of None dentry is = absurd is
is_dir_of (Some dir) dentry is = is.0

pub dir_kept : (t u : Tree) (Safe : Key → Type 0) (q : Key) (dentry : Dentry) → IsChanged t u Safe → Safe q → HasDir t q dentry → HasDir u q dentry
dir_kept t u Safe q dentry changed safe is = subst (λ row. IsSomeAnd row (λ dir. (is_dir dir ≡ true) × (dentry_of dir ≡ dentry))) (sym (changed.others q safe (is_dir_of (row_at t q) dentry is))) is
