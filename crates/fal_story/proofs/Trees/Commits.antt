-- The tree grows by commits.
use Rattle.std.proofs.Common.{◌≡◌, ◌≢◌, ℕ, suc, ◌+◌, ◌≤◌, Bool, true, false, not, ◌||◌, List, [], ◌∷◌, ◌++◌, length, Some, refl, sym, ap, ◌∙◌, length-append}
use Rattle.std.specs.Prelude.{slice_get, IsTrue, ◌==◌}
use Rattle.std.specs.List.{list_any}
use Rattle.std.proofs.lemmas.List.{take-append-le}
use Rattle.std.proofs.Math.Seq.{take-length}
use Rattle.fal_base.specs.declared.op.Op.{Op}
use Rattle.fal_base.specs.declared.op.Op.TheVariants as op
use Rattle.fal_base.specs.Change.{makes, change}
use Rattle.fal_base.specs.Commits.{Commit, tree_after, tree_at, HasNumber, AreLegalFrom, AreLegal}
use Rattle.fal_base.specs.Tree.{Tree, tree0}
use Rattle.fal_run.specs.Calls.{is_making}
use Rattle.fal_story.proofs.Lists.Grown.{unequal}
use Rattle.fal_story.proofs.Trees.Standing.{tree_now}

pub after_append : (tree : Tree) (cs ds : List Commit) → tree_after tree (cs ++ ds) ≡ tree_after (tree_after tree cs) ds
after_append tree [] ds = refl
after_append tree (c ∷ cs) ds = after_append (change tree c.cred c.op c.ino) cs ds

-- the tree at a point that was passed
pub tree_at_front : (cs ds : List Commit) (k : ℕ) → k ≤ length cs → tree_at (cs ++ ds) k ≡ tree_at cs k
tree_at_front cs ds k h = ap (tree_after tree0) (take-append-le k cs ds h)

pub tree_at_end : (cs : List Commit) → tree_now cs ≡ tree_after tree0 cs
tree_at_end cs = ap (tree_after tree0) (take-length cs)

pub tree_now_snoc : (cs : List Commit) (c : Commit) → tree_now (cs ++ c ∷ []) ≡ change (tree_now cs) c.cred c.op c.ino
tree_now_snoc cs c = tree_at_end (cs ++ c ∷ []) ∙ after_append tree0 cs (c ∷ []) ∙ ap (λ t. change t c.cred c.op c.ino) (sym (tree_at_end cs))

-- a number that the commit may have, after those of earlier ones
pub record IsNewNumber (commits : List Commit) (ino : ℕ) : Type 0 where
  pub not_root : 1 ≢ ino
  pub some : 0 ≢ ino
  pub unused : (i : ℕ) (c : Commit) → slice_get commits i ≡ Some c → c.ino ≢ ino

-- the numbers of the commits, the last one first, before earlier ones
abbrev numbers_after : List ℕ → List Commit → List ℕ
numbers_after earlier [] = earlier
numbers_after earlier (c ∷ cs) = numbers_after (c.ino ∷ earlier) cs

abbrev IsUnused : ℕ → List ℕ → Type 0
IsUnused ino earlier = IsTrue (not (list_any (λ n. n == ino) earlier))

not_first : (a b : Bool) → a ≡ false → not b ≡ true → not (a || b) ≡ true
not_first true b off is = cc
not_first false b off is = is

unused_after : (earlier : List ℕ) (cs : List Commit) (ino : ℕ) → IsUnused ino earlier → ((i : ℕ) (c : Commit) → slice_get cs i ≡ Some c → c.ino ≢ ino) → IsUnused ino (numbers_after earlier cs)
unused_after earlier [] ino unused others = unused
unused_after earlier (c ∷ cs) ino unused others =
    unused_after (c.ino ∷ earlier) cs ino (not_first (c.ino == ino) (list_any (λ n. n == ino) earlier) (unequal c.ino ino (others 0 c refl)) unused) (λ i d is. others (suc i) d is)

has_number : (call : Op) (ino : ℕ) (earlier : List ℕ) → (is_making call ≡ true → (1 ≢ ino) × (0 ≢ ino) × IsUnused ino earlier) → (is_making call ≢ true → ino ≡ 0) → HasNumber call ino earlier
has_number (op.Mkdir path mode) ino earlier new none = new refl
has_number (op.Create path mode) ino earlier new none = new refl
has_number other ino earlier new none = none (λ is. cc)

legal_after : (tree : Tree) (earlier : List ℕ) (cs : List Commit) (c : Commit) → AreLegalFrom tree earlier cs → makes (tree_after tree cs) c.cred c.op ≡ true → HasNumber c.op c.ino (numbers_after earlier cs)
    → AreLegalFrom tree earlier (cs ++ c ∷ [])
legal_after tree earlier [] c legal is has = (is, has, tt)
legal_after tree earlier (d ∷ cs) c legal is has = (legal.0, legal.1, legal_after (change tree d.cred d.op d.ino) (d.ino ∷ earlier) cs c legal.2 is has)

pub legal_snoc : (cs : List Commit) (c : Commit) → AreLegal cs → makes (tree_now cs) c.cred c.op ≡ true
    → (is_making c.op ≡ true → IsNewNumber cs c.ino) → (is_making c.op ≢ true → c.ino ≡ 0) → AreLegal (cs ++ c ∷ [])
legal_snoc cs c legal is new none =
    legal_after tree0 [] cs c legal (ap (λ t. makes t c.cred c.op) (sym (tree_at_end cs)) ∙ is)
    (has_number c.op c.ino (numbers_after [] cs) (λ making. let number = new making in (number.not_root, number.some, unused_after [] cs c.ino refl number.unused)) none)

pub longer : (cs : List Commit) (c : Commit) → length (cs ++ c ∷ []) ≡ length cs + 1
longer cs c = length-append cs (c ∷ [])
