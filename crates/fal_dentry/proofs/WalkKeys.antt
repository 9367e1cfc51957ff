-- The tree's walk reads only the keys on its way.
use Rattle.std.proofs.Common.{◌≡◌, ◌≢◌, ℕ, Bool, true, false, inl, inr, List, [], ◌∷◌, Option, Some, None, IsSome, is_some, subst, if◌then◌else◌, refl, sym, ap, ◌∙◌}
use Rattle.std.specs.List.{All}
use Rattle.std.proofs.lemmas.List.Elements.{All-head, All-tail, All-weaker, All-cons, All-nil}
use Rattle.fal_base.specs.declared.call.Cred.{Cred}
use Rattle.fal_base.specs.declared.inode.Inode.{Inode}
use Rattle.fal_base.specs.declared.key.Key.{Key}
use Rattle.fal_base.specs.declared.reply.Errno.TheVariants.{Enotdir}
use Rattle.fal_base.specs.Tree.{Tree, row_at, with_row, without_row, key_of, root_key}
use Rattle.fal_base.specs.Walk.{Walked, Stop, Ready, is_dir, grants, into, passing, walk, walk_from}
use Rattle.fal_base.proofs.Maps.{put_cases, removed_cases}
use Rattle.fal_dentry.specs.TreeWalk.{through, way_from, way}
use Rattle.fal_dentry.proofs.TreeSteps.{walk_at, refused, passed}

module _ (t u : Tree) (cred : Cred) where
  abbrev SameAt : Key → Type 0
  SameAt key = row_at u key ≡ row_at t key

  abbrev Agree : List Key → Type 0
  Agree keys = All SameAt keys

  abbrev later_keys : List ℕ → List (List ℕ) → Inode → Bool → List Key
  later_keys name names dir granted = if granted then way_from t cred (key_of dir.ino name) names else []

  at_granted : (dir : Inode) (name : List ℕ) (names : List (List ℕ)) (b : Bool) → grants cred 1 dir ≡ b → Agree (later_keys name names dir b)
      → (grants cred 1 dir ≡ true → Agree (way_from t cred (key_of dir.ino name) names) → walk_from u cred dir (name ∷ names) ≡ walk_from t cred dir (name ∷ names))
      → walk_from u cred dir (name ∷ names) ≡ walk_from t cred dir (name ∷ names)
  at_granted dir name names true is agree later = later is agree
  at_granted dir name names false is agree later = refused u cred dir name names is ∙ sym (refused t cred dir name names is)

  at_kind : (dir : Inode) (name : List ℕ) (names : List (List ℕ)) (b : Bool) → Agree (if b then later_keys name names dir (grants cred 1 dir) else [])
      → (grants cred 1 dir ≡ true → Agree (way_from t cred (key_of dir.ino name) names) → walk_from u cred dir (name ∷ names) ≡ walk_from t cred dir (name ∷ names))
      → (if b then walk_from u cred dir (name ∷ names) else Stop Enotdir) ≡ (if b then walk_from t cred dir (name ∷ names) else Stop Enotdir)
  at_kind dir name names true agree later = at_granted dir name names _ refl agree later
  at_kind dir name names false agree later = refl

  at_row : (name : List ℕ) (names : List (List ℕ)) (row : Option Inode) → Agree (through row (λ dir. later_keys name names dir (grants cred 1 dir)))
      → ((dir : Inode) → grants cred 1 dir ≡ true → Agree (way_from t cred (key_of dir.ino name) names) → walk_from u cred dir (name ∷ names) ≡ walk_from t cred dir (name ∷ names))
      → into row (λ dir. walk_from u cred dir (name ∷ names)) ≡ into row (λ dir. walk_from t cred dir (name ∷ names))
  at_row name names None agree later = refl
  at_row name names (Some dir) agree later = at_kind dir name names (is_dir dir) agree (later dir)

  step : (key : Key) (name : List ℕ) (names : List (List ℕ)) → Agree (way_from t cred key (name ∷ names))
      → ((dir : Inode) → grants cred 1 dir ≡ true → Agree (way_from t cred (key_of dir.ino name) names) → walk_from u cred dir (name ∷ names) ≡ walk_from t cred dir (name ∷ names))
      → walk_at u cred key (name ∷ names) ≡ walk_at t cred key (name ∷ names)
  step key name names agree later =
      let rest = through (row_at t key) (λ dir. later_keys name names dir (grants cred 1 dir)) in
      ap (λ row. into row (λ dir. walk_from u cred dir (name ∷ names))) (All-head SameAt key rest agree)
      ∙ at_row name names (row_at t key) (All-tail SameAt key rest agree) later

  agree_at : (key : Key) (name : List ℕ) (names : List (List ℕ)) → Agree (way_from t cred key (name ∷ names)) → walk_at u cred key (name ∷ names) ≡ walk_at t cred key (name ∷ names)
  agree_at key name [] agree = step key name [] agree (λ dir granted _. refl)
  agree_at key name (next ∷ names) agree =
      step key name (next ∷ names) agree (λ dir granted rest.
      passed u cred dir name next names granted ∙ ap (passing dir.ino) (agree_at (key_of dir.ino name) next names rest) ∙ sym (passed t cred dir name next names granted))

-- where two trees have the same rows under the keys on the way in one of them, their walks are one
pub walk_agree : (t u : Tree) (cred : Cred) (names : List (List ℕ)) → All (λ key. row_at u key ≡ row_at t key) (way t cred names) → walk u cred names ≡ walk t cred names
walk_agree t u cred [] agree = refl
walk_agree t u cred (name ∷ names) agree = agree_at t u cred root_key name names agree

other_put : (t : Tree) (key q : Key) (inode : Inode) → q ≢ key → row_at (with_row t key inode) q ≡ row_at t q
other_put t key q inode apart = elim (put_cases q key inode t) [ inl same ↦ absurd (apart same.0) | inr other ↦ other.1 ]

other_taken : (t : Tree) (key q : Key) → q ≢ key → row_at (without_row t key) q ≡ row_at t q
other_taken t key q apart = elim (removed_cases q key t) [ inl same ↦ absurd (apart same.0) | inr other ↦ other.1 ]

-- a row that is put under a key off the way keeps the walk
pub walk_other : (t : Tree) (key : Key) (inode : Inode) (cred : Cred) (names : List (List ℕ)) → All (λ q. q ≢ key) (way t cred names) → walk (with_row t key inode) cred names ≡ walk t cred names
walk_other t key inode cred names off =
    walk_agree t (with_row t key inode) cred names (All-weaker (λ q. q ≢ key) (λ q. row_at (with_row t key inode) q ≡ row_at t q) (λ q apart. other_put t key q inode apart) (way t cred names) off)

-- so does one that is taken
pub walk_without : (t : Tree) (key : Key) (cred : Cred) (names : List (List ℕ)) → All (λ q. q ≢ key) (way t cred names) → walk (without_row t key) cred names ≡ walk t cred names
walk_without t key cred names off =
    walk_agree t (without_row t key) cred names (All-weaker (λ q. q ≢ key) (λ q. row_at (without_row t key) q ≡ row_at t q) (λ q apart. other_taken t key q apart) (way t cred names) off)

module _ (t : Tree) (cred : Cred) where
  abbrev IsFound : Key → Type 0
  IsFound key = IsSome (row_at t key)

  abbrev IsReady : Walked → Type 0
  IsReady (Stop errno) = ⊥
  IsReady (Ready parent passed last) = Unit {0}

  ready_inside : (ino : ℕ) (walked : Walked) → IsReady (passing ino walked) → IsReady walked
  ready_inside ino (Stop errno) is = is
  ready_inside ino (Ready parent passed last) is = tt

  found_granted : (dir : Inode) (name : List ℕ) (names : List (List ℕ)) (b : Bool) → grants cred 1 dir ≡ b → IsReady (walk_from t cred dir (name ∷ names))
      → (grants cred 1 dir ≡ true → All IsFound (way_from t cred (key_of dir.ino name) names)) → All IsFound (if b then way_from t cred (key_of dir.ino name) names else [])
  found_granted dir name names true is ready later = later is
  found_granted dir name names false is ready later = absurd (subst IsReady (refused t cred dir name names is) ready)

  found_kind : (dir : Inode) (name : List ℕ) (names : List (List ℕ)) (b : Bool) → IsReady (if b then walk_from t cred dir (name ∷ names) else Stop Enotdir)
      → (grants cred 1 dir ≡ true → IsReady (walk_from t cred dir (name ∷ names)) → All IsFound (way_from t cred (key_of dir.ino name) names))
      → All IsFound (if b then (if grants cred 1 dir then way_from t cred (key_of dir.ino name) names else []) else [])
  found_kind dir name names true ready later = found_granted dir name names _ refl ready (λ granted. later granted ready)
  found_kind dir name names false ready later = absurd ready

  found_row : (key : Key) (name : List ℕ) (names : List (List ℕ)) (row : Option Inode) → row_at t key ≡ row → IsReady (into row (λ dir. walk_from t cred dir (name ∷ names)))
      → ((dir : Inode) → grants cred 1 dir ≡ true → IsReady (walk_from t cred dir (name ∷ names)) → All IsFound (way_from t cred (key_of dir.ino name) names))
      → All IsFound (key ∷ through row (λ dir. if grants cred 1 dir then way_from t cred (key_of dir.ino name) names else []))
  found_row key name names None is ready later = absurd ready
  found_row key name names (Some dir) is ready later =
      All-cons IsFound key _ (ap is_some is) (found_kind dir name names (is_dir dir) ready (later dir))

  found_at : (key : Key) (name : List ℕ) (names : List (List ℕ)) → IsReady (walk_at t cred key (name ∷ names)) → All IsFound (way_from t cred key (name ∷ names))
  found_at key name [] ready = found_row key name [] (row_at t key) refl ready (λ dir granted _. All-nil IsFound)
  found_at key name (next ∷ names) ready =
      found_row key name (next ∷ names) (row_at t key) refl ready (λ dir granted inside.
      found_at (key_of dir.ino name) next names (ready_inside dir.ino (walk_at t cred (key_of dir.ino name) (next ∷ names)) (subst IsReady (passed t cred dir name next names granted) inside)))

  found_way : (names : List (List ℕ)) → IsReady (walk t cred names) → All IsFound (way t cred names)
  found_way [] ready = All-nil IsFound
  found_way (name ∷ names) ready = found_at root_key name names ready

-- a walk that is ready goes on being so when a row is put where there was none
pub walk_grows : (t : Tree) (key : Key) (inode : Inode) (cred : Cred) (names : List (List ℕ)) (parent : Option Inode) (passed : List ℕ) (last : Key) → row_at t key ≡ None
    → walk t cred names ≡ Ready parent passed last → walk (with_row t key inode) cred names ≡ Ready parent passed last
walk_grows t key inode cred names parent passed last none ready =
    let there = found_way t cred names (subst (IsReady t cred) (sym ready) tt) in
    walk_other t key inode cred names (All-weaker (IsFound t cred) (λ q. q ≢ key) (λ q found same. let wrong : true ≡ false = sym found ∙ ap is_some (ap (row_at t) same ∙ none) in cc) (way t cred names) there) ∙ ready
