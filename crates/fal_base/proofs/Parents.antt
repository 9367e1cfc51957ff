-- Each key stands under a directory, and does so after a change that leaves none without one.
use Rattle.std.proofs.Common.{◌≡◌, ◌≢◌, ⊎_elim, inl, inr, Bool, true, false, ◌||◌, ℕ, List, [], ◌∷◌, cond, Option, Some, None, refl, sym, ap, ◌∙◌, subst, arith}
use Rattle.std.specs.Prelude.{◌==◌}
use Rattle.std.specs.List.{list_any}
use Rattle.std.proofs.lemmas.Bool.{eq-eqb}
use Rattle.std.proofs.lemmas.Bool.Decides.{nat_tests}
use Rattle.std.proofs.lemmas.Option.{same_Some}
use Rattle.fal_base.specs.declared.call.Cred.{Cred}
use Rattle.fal_base.specs.declared.inode.Inode.{Inode}
use Rattle.fal_base.specs.declared.key.Key.{Key}
use Rattle.fal_base.specs.declared.reply.Errno.TheVariants.{Eacces, Enotdir}
use Rattle.fal_base.specs.Answer.{has_entries}
use Rattle.fal_base.specs.Tree.{Tree, key_of, root_key, row_at, with_row, without_row}
use Rattle.fal_base.specs.Walk.{Walked, Stop, Ready, walk, walk_from, into, passing, is_dir, grants}
use Rattle.fal_base.proofs.Entries.{nothing_under}
use Rattle.fal_base.proofs.Maps.{put_cases, removed_cases}

-- a directory with this number
pub record HasDir (tree : Tree) (number : ℕ) : Type 0 where
  pub key : Key
  pub dir : Inode
  pub there : row_at tree key ≡ Some dir
  pub is : is_dir dir ≡ true
  pub same : dir.ino ≡ number

pub record AreUnder (tree : Tree) : Type 0 where
  pub root : Inode
  pub root_there : row_at tree root_key ≡ Some root
  pub root_is : is_dir root ≡ true
  pub parents : (key : Key) (row : Inode) → row_at tree key ≡ Some row → key ≢ root_key → HasDir tree key.parent

-- ---- a walk ends under a directory that it passed

abbrev pub EndsUnder : Tree → Walked → Type 0
EndsUnder tree (Stop errno) = Unit {0}
EndsUnder tree (Ready parent passed last) = HasDir tree last.parent × (list_any (λ ino. ino == last.parent) passed ≡ true)

second : (a b : Bool) → b ≡ true → (a || b) ≡ true
second true b is = refl
second false b is = is

ends_passing : (tree : Tree) (ino : ℕ) (w : Walked) → EndsUnder tree w → EndsUnder tree (passing ino w)
ends_passing tree ino (Stop errno) is = tt
ends_passing tree ino (Ready parent passed last) is = (is.0, second (ino == last.parent) _ is.1)

ends_into : (tree : Tree) (key : Key) (go : Inode → Walked) → ((dir : Inode) → row_at tree key ≡ Some dir → is_dir dir ≡ true → EndsUnder tree (go dir)) → EndsUnder tree (into (row_at tree key) go)
ends_into tree key go later =
    elim (row_at tree key) as (λ (o : Option Inode). row_at tree key ≡ o → EndsUnder tree (into o go)) [
      | None ↦ λ there. tt
      | Some dir ↦ λ there. elim (is_dir dir) as (λ b. is_dir dir ≡ b → EndsUnder tree (cond b (go dir) (Stop Enotdir))) [ true ↦ later dir there | false ↦ λ is. tt ] refl
    ] refl

ends_from : (tree : Tree) (cred : Cred) (name : List ℕ) (names : List (List ℕ)) (key : Key) (dir : Inode) → row_at tree key ≡ Some dir → is_dir dir ≡ true → EndsUnder tree (walk_from tree cred dir (name ∷ names))
ends_from tree cred name [] key dir there is =
    elim (grants cred 1 dir) as (λ b. EndsUnder tree (cond b (Ready (Some dir) (dir.ino ∷ []) (key_of dir.ino name)) (Stop Eacces))) [
      | true ↦ (record { key = key; dir = dir; there = there; is = is; same = refl }, ap (λ b. b || false) (eq-eqb dir.ino dir.ino refl))
      | false ↦ tt
    ]
ends_from tree cred name (next ∷ names) key dir there is =
    elim (grants cred 1 dir) as (λ b. EndsUnder tree (cond b (into (row_at tree (key_of dir.ino name)) (λ inner. passing dir.ino (walk_from tree cred inner (next ∷ names)))) (Stop Eacces))) [
      | true ↦ ends_into tree (key_of dir.ino name) (λ inner. passing dir.ino (walk_from tree cred inner (next ∷ names)))
          (λ inner at inner_is. ends_passing tree dir.ino (walk_from tree cred inner (next ∷ names)) (ends_from tree cred next names (key_of dir.ino name) inner at inner_is))
      | false ↦ tt
    ]

-- where the walk of a path with names ends
pub ends_under : (tree : Tree) (cred : Cred) (name : List ℕ) (names : List (List ℕ)) (parent : Option Inode) (passed : List ℕ) (last : Key) → walk tree cred (name ∷ names) ≡ Ready parent passed last → EndsUnder tree (Ready parent passed last)
ends_under tree cred name names parent passed last ready =
    subst (EndsUnder tree) ready (ends_into tree root_key (λ root. walk_from tree cred root (name ∷ names)) (λ dir there is. ends_from tree cred name names root_key dir there is))

-- ---- changes

-- a new key under a directory
pub new_under : (tree : Tree) (key : Key) (inode : Inode) → row_at tree key ≡ None → HasDir tree key.parent → AreUnder tree → AreUnder (with_row tree key inode)
new_under tree key inode none dir x = record {
  root = x.root;
  root_there = kept root_key x.root x.root_there;
  root_is = x.root_is;
  parents = λ q row there other. ⊎_elim (λ y. subst (λ (k : Key). HasDir (with_row tree key inode) k.parent) (sym y.0) (lifts key.parent dir)) (λ y. lifts q.parent (x.parents q row (sym y.1 ∙ there) other)) (put_cases q key inode tree);
}
  where
    kept : (q : Key) (row : Inode) → row_at tree q ≡ Some row → row_at (with_row tree key inode) q ≡ Some row
    kept q row there = ⊎_elim (λ y. let both : row_at tree q ≡ None = ap (row_at tree) y.0 ∙ none in absurd (cc)) (λ y. y.1 ∙ there) (put_cases q key inode tree)

    lifts : (n : ℕ) → HasDir tree n → HasDir (with_row tree key inode) n
    lifts n d = record { key = d.key; dir = d.dir; there = kept d.key d.dir d.there; is = d.is; same = d.same }

-- under this key stands a directory with this number
record IsDirAt (tree : Tree) (q : Key) (number : ℕ) : Type 0 where
  dir : Inode
  there : row_at tree q ≡ Some dir
  is : is_dir dir ≡ true
  same : dir.ino ≡ number

-- a row of which neither kind nor number changes
pub kept_under : (tree : Tree) (key : Key) (old inode : Inode) → row_at tree key ≡ Some old → is_dir inode ≡ is_dir old → inode.ino ≡ old.ino → AreUnder tree → AreUnder (with_row tree key inode)
kept_under tree key old inode was kind number x =
    let root = still root_key x.root x.root_there x.root_is in
    record {
      root = root.dir;
      root_there = root.there;
      root_is = root.is;
      parents = λ q row there other. lifts q.parent (⊎_elim (λ y. subst (λ (k : Key). HasDir tree k.parent) (sym y.0) (x.parents key old was (λ e. other (y.0 ∙ e)))) (λ y. x.parents q row (sym y.1 ∙ there) other) (put_cases q key inode tree));
    }
  where
    still : (q : Key) (dir : Inode) → row_at tree q ≡ Some dir → is_dir dir ≡ true → IsDirAt (with_row tree key inode) q dir.ino
    still q dir there is = ⊎_elim
        (λ y. let one : old ≡ dir = same_Some old dir (sym was ∙ ap (row_at tree) (sym y.0) ∙ there) in record { dir = inode; there = y.1; is = kind ∙ ap is_dir one ∙ is; same = number ∙ ap (λ (z : Inode). z.ino) one })
        (λ y. record { dir = dir; there = y.1 ∙ there; is = is; same = refl })
        (put_cases q key inode tree)

    lifts : (n : ℕ) → HasDir tree n → HasDir (with_row tree key inode) n
    lifts n d = let s = still d.key d.dir d.there d.is in record { key = d.key; dir = s.dir; there = s.there; is = s.is; same = s.same ∙ d.same }

-- a row that goes, where no other one stands under it
pub gone_under : (tree : Tree) (key : Key) → key ≢ root_key
    → ((dir : Inode) → row_at tree key ≡ Some dir → is_dir dir ≡ true → (q : Key) (row : Inode) → row_at tree q ≡ Some row → q.parent ≢ dir.ino) → AreUnder tree → AreUnder (without_row tree key)
gone_under tree key not_root empty x = record {
  root = x.root;
  root_there = ⊎_elim (λ y. absurd (not_root (sym y.0))) (λ y. y.1 ∙ x.root_there) (removed_cases root_key key tree);
  root_is = x.root_is;
  parents = λ q row there other. ⊎_elim (λ y. let none = y.1 in absurd (cc)) (λ y. lifts q row (sym y.1 ∙ there) (x.parents q row (sym y.1 ∙ there) other)) (removed_cases q key tree);
}
  where
    lifts : (q : Key) (row : Inode) → row_at tree q ≡ Some row → HasDir tree q.parent → HasDir (without_row tree key) q.parent
    lifts q row there d = ⊎_elim
        (λ y. absurd (empty d.dir (ap (row_at tree) (sym y.0) ∙ d.there) d.is q row there (sym d.same)))
        (λ y. record { key = d.key; dir = d.dir; there = y.1 ∙ d.there; is = d.is; same = d.same })
        (removed_cases d.key key tree)

-- a row that moves under another key
pub moved_under : (tree : Tree) (from to : Key) (moved : Inode) → row_at tree from ≡ Some moved → from ≢ root_key → to ≢ root_key → HasDir tree to.parent
    → (is_dir moved ≡ true → to.parent ≢ moved.ino)
    → ((dir : Inode) → row_at tree to ≡ Some dir → is_dir dir ≡ true → (q : Key) (row : Inode) → row_at tree q ≡ Some row → q.parent ≢ dir.ino)
    → AreUnder tree → AreUnder (with_row (without_row tree from) to moved)
moved_under tree from to moved was from_not to_not above outside empty x = record {
  root = x.root;
  root_there = after root_key x.root x.root_there (λ e. from_not (sym e)) (λ e. to_not (sym e));
  root_is = x.root_is;
  parents = λ q row there other. ⊎_elim
      (λ y. subst (λ (k : Key). HasDir (with_row (without_row tree from) to moved) k.parent) (sym y.0) new)
      (λ y. ⊎_elim (λ z. let none : row_at (with_row (without_row tree from) to moved) q ≡ None = y.1 ∙ z.1 in absurd (cc)) (λ z. lifts q row (sym z.1 ∙ sym y.1 ∙ there) (x.parents q row (sym z.1 ∙ sym y.1 ∙ there) other)) (removed_cases q from tree))
      (put_cases q to moved (without_row tree from));
}
  where
    after : (q : Key) (row : Inode) → row_at tree q ≡ Some row → q ≢ from → q ≢ to → row_at (with_row (without_row tree from) to moved) q ≡ Some row
    after q row there not_from not_to = ⊎_elim (λ y. absurd (not_to y.0)) (λ y. ⊎_elim (λ z. absurd (not_from z.0)) (λ z. y.1 ∙ z.1 ∙ there) (removed_cases q from tree)) (put_cases q to moved (without_row tree from))

    lands : row_at (with_row (without_row tree from) to moved) to ≡ Some moved
    lands = ⊎_elim (λ y. y.1) (λ y. absurd (y.0 refl)) (put_cases to to moved (without_row tree from))

    -- a directory of the tree still is one, where something that stays under it shows that it was not replaced
    stays : (n : ℕ) (d : HasDir tree n) → (d.key ≡ from → HasDir (with_row (without_row tree from) to moved) n) → (d.key ≢ to) → HasDir (with_row (without_row tree from) to moved) n
    stays n d at_from not_to =
        ⊎_elim at_from (λ not_from. record { key = d.key; dir = d.dir; there = after d.key d.dir d.there not_from not_to; is = d.is; same = d.same })
        (⊎_elim (λ z. inl z.0) (λ z. inr z.0) (removed_cases d.key from tree))

    moved_is : (n : ℕ) (d : HasDir tree n) → d.key ≡ from → d.dir ≡ moved
    moved_is n d e = sym (same_Some moved d.dir (sym was ∙ ap (row_at tree) (sym e) ∙ d.there))

    lifts : (q : Key) (row : Inode) → row_at tree q ≡ Some row → HasDir tree q.parent → HasDir (with_row (without_row tree from) to moved) q.parent
    lifts q row there d = stays q.parent d
        (λ e. let one = moved_is q.parent d e in record { key = to; dir = moved; there = lands; is = ap is_dir (sym one) ∙ d.is; same = ap (λ (z : Inode). z.ino) (sym one) ∙ d.same })
        (λ e. empty d.dir (ap (row_at tree) (sym e) ∙ d.there) d.is q row there (sym d.same))

    new : HasDir (with_row (without_row tree from) to moved) to.parent
    new = stays to.parent above
        (λ e. let one = moved_is to.parent above e in absurd (outside (ap is_dir (sym one) ∙ above.is) (sym above.same ∙ ap (λ (z : Inode). z.ino) one)))
        (λ e. let there : row_at tree to ≡ Some above.dir = ap (row_at tree) (sym e) ∙ above.there in empty above.dir there above.is to above.dir there (sym above.same))

-- ---- an empty directory

pub empty_is : (tree : Tree) (dir : Inode) → has_entries tree dir ≡ false → (q : Key) (row : Inode) → row_at tree q ≡ Some row → q.parent ≢ dir.ino
empty_is tree dir none = nothing_under dir.ino tree (grind (arith, nat_tests))
