-- What becomes of a call that waits at a node, by what the node has at hand and by the tree: it is skipped, leaves, waits for a directory on its way, or is ready.
use Rattle.std.proofs.Common.{◌≡◌, ◌≢◌, ◌⊎◌, inl, inr, ⊎_elim, ℕ, suc, ◌-◌, ◌==◌, Bool, true, false, not, ◌&&◌, if◌then◌else◌, List, [], ◌∷◌, ◌++◌, length, Option, Some, None, IsSomeAnd, refl, sym, ap, subst, ◌∙◌, append-nil, arith}
use Rattle.std.specs.Prelude.{slice_get}
use Rattle.std.specs.List.{All}
use Rattle.std.specs.Option.{option_map}
use Rattle.std.proofs.lemmas.Bool.Decides.{nat_tests}
use Rattle.std.proofs.lemmas.List.Elements.{All-nil, All-push}
use Rattle.fal_base.specs.declared.call.CallRec.{CallRec}
use Rattle.fal_base.specs.declared.inode.Dentry.{Dentry}
use Rattle.fal_base.specs.declared.inode.Inode.{Inode}
use Rattle.fal_base.specs.declared.key.Key.{Key}
use Rattle.fal_base.specs.declared.op.Op.{Op}
use Rattle.fal_base.specs.declared.reply.Errno.{Errno}
use Rattle.fal_base.specs.declared.reply.Errno.TheVariants.{Eacces}
use Rattle.fal_base.specs.declared.rule.Rule.{Rule}
use Rattle.fal_base.specs.declared.rule.Rule.TheVariants.{Hash, ByParent, Node as Placed}
use Rattle.fal_base.specs.Names.{is_name}
use Rattle.fal_base.specs.OpPaths.{op_names}
use Rattle.fal_base.specs.Tree.{Tree, root_key}
use Rattle.fal_base.specs.Walk.{dentry_of, walk}
use Rattle.fal_base.specs.Walk as tree_walk
use Rattle.fal_batch.specs.Fate.{Setting, Fate, Skips, Leaves, Waits, Joins, fate, fate_by, fate_at, fate_walked, bars, is_blocked, is_by_parent, is_elsewhere, last_of, walk_of, away_to, goes_by_parent}
use Rattle.fal_batch.proofs.Truth.{and_is_false}
use Rattle.fal_dentry.specs.TreeWalk.{way, last_name, last_key}
use Rattle.fal_dentry.specs.Walk.{ReplicaWalk, Shut, Missing, Stop, Ready, is_among}
use Rattle.fal_exec.specs.RowCall.{is_rmdir, row_names}
use Rattle.fal_place.specs.Placement.{Placement, is_root_key, owner, owner_by, route, route_by, route_of_last, rule_of}
use Rattle.fal_wire.specs.Format.{AreItems}
use Rattle.fal_wire.specs.Names.{name_field, path_names, path_field}
use Rattle.fal_story.proofs.Families.Asking.{IsCrossed}
use Rattle.fal_story.proofs.Families.Plans.{IsPlannedAs}
use Rattle.fal_story.proofs.Lists.Grown.{tells}
use Rattle.fal_story.proofs.Lists.Members.{same_number}
use Rattle.fal_story.proofs.Trees.Changed.{up_to}
use Rattle.fal_story.proofs.Trees.Footprint.{footprint, footprint_of, last_of_walk, way_to, way_to_of, among_front, among_end, among_itself, comes_among}
use Rattle.fal_story.proofs.Trees.Met.{AreDirs, AreOpen, IsOpen, Met, met_way}
use Rattle.fal_story.proofs.Trees.Among.{all_among}

-- ---- what is said of a call by its fate

-- its last name is blocked, or its walk meets a shut key
abbrev pub IsSkipped : Setting → Tree → CallRec → List (List ℕ) → Type 0
IsSkipped s tree call names = (is_blocked s.blocked (last_of names) ≡ true) ⊎ ((key : Key) × IsCrossed (footprint_of tree call.cred (Some names)) key × (is_among key s.shut ≡ true))

-- its last name is not blocked, or it is the root's key, which has none
abbrev pub IsUnblocked : Setting → Key → Type 0
IsUnblocked s key = (key.name ≡ []) ⊎ (bars s.blocked key.name ≡ false)

-- its last key lives at another node, by the hash of parent and name
abbrev pub IsAwayByKey : Setting → Tree → CallRec → Option ℕ → List (List ℕ) → Type 0
IsAwayByKey s tree call to names =
    (goes_by_parent s.table (last_of names) ≡ true)
    × ((dir : Option Inode) × (passed : List ℕ) × (last : Key) × (walk tree call.cred names ≡ tree_walk.Ready dir passed last) × (owner s.table last ≢ s.me) × (to ≡ Some (owner s.table last)) × IsUnblocked s last)

-- it belongs to another node by its last name alone, or by its last key
abbrev pub IsAway : Setting → Tree → CallRec → Option ℕ → List (List ℕ) → Type 0
IsAway s tree call to names = ((is_elsewhere s names ≡ true) × (to ≡ away_to s.table call (route s.table names))) ⊎ IsAwayByKey s tree call to names

-- of a call with these names, if it has any
abbrev pub IsFateOf : Setting → Tree → CallRec → Option (List (List ℕ)) → Fate → Type 0
IsFateOf s tree call named Skips = IsSomeAnd named (λ names. IsSkipped s tree call names)
IsFateOf s tree call named (Leaves to) = IsSomeAnd named (λ names. (is_blocked s.blocked (last_of names) ≡ false) × IsAway s tree call to names)
IsFateOf s tree call named (Waits key) =
    IsSomeAnd named (λ names. is_among key (way tree call.cred names) ≡ true)
    × IsSomeAnd named (λ names. All (IsCrossed (way_to_of tree call.cred key named)) (up_to key (way tree call.cred names)))
    × AreOpen s.shut (way_to_of tree call.cred key named) × IsOpen s.shut key
IsFateOf s tree call named (Joins denied parent last keys) =
    IsSomeAnd named (λ names. IsPlannedAs s.table tree s.me call (footprint_of tree call.cred named) (record { call = call; denied = denied; parent = parent; last = last }) denied names)
    × AreOpen s.shut (footprint_of tree call.cred named) × (keys ≡ footprint_of tree call.cred named) × (denied ≡ false → IsUnblocked s last)

-- it is skipped, or leaves, as said; or it waits for a key to which its walk comes, which is not shut, as none before it is;
-- or it is planned as the tree says, no key on which it rests is shut, its batch holds those keys for it, and its last name is not blocked
abbrev pub IsFate : Setting → Tree → CallRec → Fate → Type 0
IsFate s tree call f = IsFateOf s tree call (row_names call.op) f

-- the keys on which the place of the call rests then
abbrev pub rests_by : Tree → CallRec → Fate → List Key
rests_by tree call Skips = []
rests_by tree call (Leaves to) = []
rests_by tree call (Waits key) = way_to tree call key
rests_by tree call (Joins denied parent last keys) = footprint tree call

-- none of them is shut
pub rests_open : (s : Setting) (tree : Tree) (call : CallRec) (f : Fate) → IsFate s tree call f → AreOpen s.shut (rests_by tree call f)
rests_open s tree call Skips is = All-nil (IsOpen s.shut)
rests_open s tree call (Leaves to) is = All-nil (IsOpen s.shut)
rests_open s tree call (Waits key) is = is.2
rests_open s tree call (Joins denied parent last keys) is = is.1

-- ---- the names of a call

last_fits : (before : Option (List ℕ)) (name : List ℕ) (names : List (List ℕ)) → AreItems (λ _. name_field) before (name ∷ names) → is_name (last_name (name ∷ names)) ≡ true
unfolding name_field
last_fits before name [] fit = fit.0.1
last_fits before name (next ∷ names) fit = last_fits (Some name) next names fit.1

not_empty : (name : List ℕ) → is_name name ≡ true → (length name == 0) ≡ false
unfolding is_name
not_empty [] is = absurd (cc)
not_empty (b ∷ bs) is = grind (arith, nat_tests)

last_there : (name : List ℕ) (names : List (List ℕ)) → slice_get (name ∷ names) (length names) ≡ Some (last_name (name ∷ names))
last_there name [] = refl
last_there name (next ∷ names) = last_there next names

-- the names of a call that one row decides are its names
pub named_op : (call : Op) (names : List (List ℕ)) → row_names call ≡ Some names → op_names call ≡ Some names
named_op call names =
    elim (is_rmdir call) as (λ b. (if b then None else op_names call) ≡ Some names → op_names call ≡ Some names) [
      | true ↦ λ e. absurd (cc)
      | false ↦ λ e. e
    ]

last_is : (name : List ℕ) (names : List (List ℕ)) → last_of (name ∷ names) ≡ Some (last_name (name ∷ names))
last_is name names = let back : length names ≡ suc (length names) - 1 = omega arith in ap (λ k. slice_get (name ∷ names) k) (sym back) ∙ last_there name names

-- ---- where the last key lives

owner_by_name : (nodes : ℕ) (key : Key) (rule : Rule) → is_by_parent rule ≡ false → owner_by nodes key rule ≡ route_by nodes key.name rule
owner_by_name nodes key Hash by = refl
owner_by_name nodes key ByParent by = absurd (cc)
owner_by_name nodes key (Placed node) by = refl

-- where the last name leads, unless its keys live by the hash of parent and name
last_owner : (table : Placement) (key : Key) (name : List ℕ) (names : List (List ℕ)) → key.name ≡ last_name (name ∷ names) → is_name (last_name (name ∷ names)) ≡ true → goes_by_parent table (last_of (name ∷ names)) ≡ false
    → owner table key ≡ route table (name ∷ names)
last_owner table key name names named fits by =
    let last = last_name (name ∷ names) in
    let no_root : is_root_key key ≡ false = ap (λ b. (key.parent == 0) && b) (ap (λ n. length n == 0) named ∙ not_empty last fits) ∙ and_is_false (key.parent == 0) in
    let rule : is_by_parent (rule_of table key.name) ≡ false = ap (λ n. is_by_parent (rule_of table n)) named ∙ ap (goes_by_parent table) (sym (last_is name names)) ∙ by in
    ap (λ b. if b then 0 else owner_by table.nodes key (rule_of table key.name)) no_root
    ∙ owner_by_name table.nodes key (rule_of table key.name) rule
    ∙ ap (λ n. route_of_last table (Some n)) named
    ∙ ap (route_of_last table) (sym (last_is name names))

-- ---- fates

module _ (s : Setting) (tree : Tree) (call : CallRec) where
  abbrev Is : List (List ℕ) → Fate → Type 0
  Is names f = IsFateOf s tree call (Some names) f

  abbrev rests : List (List ℕ) → List Key
  rests names = footprint_of tree call.cred (Some names)

  -- the call rests on its way, and on the last key that its walk comes to
  crossed_way : (names : List (List ℕ)) → All (IsCrossed (rests names)) (way tree call.cred names)
  crossed_way names = among_front (way tree call.cred names) (last_of_walk (walk tree call.cred names))

  crossed_last : (names : List (List ℕ)) (dir : Option Inode) (passed : List ℕ) (last : Key) → walk tree call.cred names ≡ tree_walk.Ready dir passed last → IsCrossed (rests names) last
  crossed_last names dir passed last is = ap (λ w. is_among last (way tree call.cred names ++ last_of_walk w)) is ∙ among_end (way tree call.cred names) last

  open_ready : (names : List (List ℕ)) (dir : Option Inode) (passed : List ℕ) (last : Key) → walk tree call.cred names ≡ tree_walk.Ready dir passed last → AreOpen s.shut (way tree call.cred names) → IsOpen s.shut last
      → AreOpen s.shut (rests names)
  open_ready names dir passed last is off own =
      subst (λ w. AreOpen s.shut (way tree call.cred names ++ last_of_walk w)) (sym is) (All-push (IsOpen s.shut) (way tree call.cred names) last off own)

  open_stopped : (names : List (List ℕ)) (errno : Errno) → walk tree call.cred names ≡ tree_walk.Stop errno → AreOpen s.shut (way tree call.cred names) → AreOpen s.shut (rests names)
  open_stopped names errno is off =
      subst (λ w. AreOpen s.shut (way tree call.cred names ++ last_of_walk w)) (sym is) (subst (AreOpen s.shut) (sym (append-nil (way tree call.cred names))) off)

  held_stopped : (names : List (List ℕ)) (errno : Errno) (keys : List Key) → walk tree call.cred names ≡ tree_walk.Stop errno → way tree call.cred names ≡ keys → keys ≡ rests names
  held_stopped names errno keys is by = sym by ∙ sym (append-nil (way tree call.cred names)) ∙ ap (λ w. way tree call.cred names ++ last_of_walk w) (sym is)

  -- the walk is ready
  module _ (names : List (List ℕ)) (dir : Option Inode) (parent : Option Dentry) (passed : List ℕ) (last : Key) (keys : List Key)
      (ends : walk tree call.cred names ≡ tree_walk.Ready dir passed last) (same : option_map dentry_of dir ≡ parent) (by : way tree call.cred names ≡ keys) (off : AreOpen s.shut (way tree call.cred names))
      (unblocked : is_blocked s.blocked (last_of names) ≡ false) (free : IsUnblocked s last) where
    abbrev joins : Fate
    joins = Joins false parent last (keys ++ last ∷ [])

    -- the keys that are held are those on which the call rests
    held : keys ++ last ∷ [] ≡ rests names
    held = λ i. sym by i ++ last_of_walk (sym ends i)

    own_key : owner s.table last ≡ s.me → Is names (if is_among last s.shut then Skips else joins)
    own_key own =
        elim (is_among last s.shut) as (λ b. is_among last s.shut ≡ b → Is names (if b then Skips else joins)) [
          | true ↦ λ is. inr (last, crossed_last names dir passed last ends, is)
          | false ↦ λ is. (((dir, (passed, ends, same)), crossed_way names, own, crossed_last names dir passed last ends), open_ready names dir passed last ends off is, held, λ _. free)
        ] refl

    by_parent : goes_by_parent s.table (last_of names) ≡ true → Is names (fate_at s true parent keys last)
    by_parent by =
        let at = λ (b : Bool). if not b then Leaves (Some (owner s.table last)) else if is_among last s.shut then Skips else joins in
        ⊎_elim
        (λ own. subst (λ b. Is names (at b)) (sym own.0) (own_key own.1))
        (λ other. subst (λ b. Is names (at b)) (sym other.0) (unblocked, inr (by, (dir, passed, last, ends, other.1, refl, free))))
        (tells (owner s.table last) s.me)

    at_last : (goes_by_parent s.table (last_of names) ≡ false → owner s.table last ≡ s.me) → Is names (fate_at s (goes_by_parent s.table (last_of names)) parent keys last)
    at_last own =
        elim (goes_by_parent s.table (last_of names)) as (λ b. goes_by_parent s.table (last_of names) ≡ b → Is names (fate_at s b parent keys last)) [
          | true ↦ λ by. by_parent by
          | false ↦ λ by. own_key (own by)
        ] refl

  -- unless the last name's keys live by the hash of parent and name, it leads here
  abbrev LeadsHere : List (List ℕ) → Type 0
  LeadsHere names = goes_by_parent s.table (last_of names) ≡ false → route s.table names ≡ s.me

  fate_at_end : (name : List ℕ) (names : List (List ℕ)) (end : ReplicaWalk) → is_blocked s.blocked (last_of (name ∷ names)) ≡ false → LeadsHere (name ∷ names) → is_name (last_name (name ∷ names)) ≡ true
      → Met tree s.dentries call.cred s.shut (name ∷ names) (way tree call.cred (name ∷ names)) (walk tree call.cred (name ∷ names)) end → Is (name ∷ names) (fate_walked s (name ∷ names) end)
  fate_at_end name names (Shut key) unblocked here fit met =
      let keys = way tree call.cred (name ∷ names) in
      inr (key, all_among (IsCrossed (rests (name ∷ names))) keys key (crossed_way (name ∷ names)) (comes_among key keys met.0 met.1), met.3)
  fate_at_end name names (Missing key keys) unblocked here fit met =
      let found = way tree call.cred (name ∷ names) in
      (comes_among key found keys met.0, among_itself (up_to key found), subst (AreOpen s.shut) (sym met.0) met.2, all_among (IsOpen s.shut) (keys ++ key ∷ []) key met.2 (among_end keys key))
  fate_at_end name names (Stop errno keys) unblocked here fit met =
      ((met.0, crossed_way (name ∷ names)), open_stopped (name ∷ names) Eacces met.0 (subst (AreOpen s.shut) (sym met.1) met.2), held_stopped (name ∷ names) Eacces keys met.0 met.1, λ ready. absurd (cc))
  fate_at_end name names (Ready parent inos keys) unblocked here fit met =
      let last = last_key parent (last_name (name ∷ names)) in
      at_last (name ∷ names) met.0.0 parent inos last keys met.0.1 met.0.2 met.1 (subst (AreOpen s.shut) (sym met.1) met.2) unblocked
      (inr (ap (bars s.blocked) met.0.3 ∙ ap (is_blocked s.blocked) (sym (last_is name names)) ∙ unblocked)) (λ by. last_owner s.table last name names met.0.3 fit by ∙ here by)

  fate_walks : AreDirs tree s.dentries → (names : List (List ℕ)) → path_field.Fits names → is_blocked s.blocked (last_of names) ≡ false → LeadsHere names → Is names (fate_walked s names (walk_of s call names))
  unfolding path_field path_names
  fate_walks dirs [] fit unblocked here = at_last [] None None [] root_key [] refl refl refl (All-nil (IsOpen s.shut)) unblocked (inl refl) (λ by. here by)
  fate_walks dirs (name ∷ names) fit unblocked here = fate_at_end name names (walk_of s call (name ∷ names)) unblocked here (last_fits None name names fit.0.1.1) (met_way tree s.dentries call.cred s.shut dirs (name ∷ names))

  fate_named : AreDirs tree s.dentries → (names : List (List ℕ)) → path_field.Fits names → Is names (fate_by s call (Some names))
  fate_named dirs names fit =
      elim (is_blocked s.blocked (last_of names)) as (λ b. is_blocked s.blocked (last_of names) ≡ b
      → Is names (if b then Skips else if is_elsewhere s names then Leaves (away_to s.table call (route s.table names)) else fate_walked s names (walk_of s call names))) [
        | true ↦ λ is. inl is
        | false ↦ λ unblocked.
            elim (is_elsewhere s names) as (λ b. is_elsewhere s names ≡ b → Is names (if b then Leaves (away_to s.table call (route s.table names)) else fate_walked s names (walk_of s call names))) [
              | true ↦ λ is. (unblocked, inl (is, refl))
              | false ↦ λ is. fate_walks dirs names fit unblocked (λ by. same_number (route s.table names) s.me (leads (goes_by_parent s.table (last_of names)) (route s.table names == s.me) is by))
            ] refl
      ] refl
    where
      leads : (a b : Bool) → (not a && not b) ≡ false → a ≡ false → b ≡ true
      leads true b is none = absurd (cc)
      leads false true is none = refl
      leads false false is none = absurd (cc)

-- the fate of a call with fitting names, over directories that are the tree's
pub fate_is : (s : Setting) (tree : Tree) (call : CallRec) (names : List (List ℕ)) → AreDirs tree s.dentries → row_names call.op ≡ Some names → path_field.Fits names → IsFate s tree call (fate s call)
unfolding fate
fate_is s tree call names dirs named fit =
    subst (λ o. IsFateOf s tree call o (fate_by s call (op_names call.op))) (sym named)
    (subst (λ o. IsFateOf s tree call (Some names) (fate_by s call o)) (sym (named_op call.op names named)) (fate_named s tree call dirs names fit))
