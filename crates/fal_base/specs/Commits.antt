-- The commits of a run, and the trees that they leave.
use Rattle.std.specs.Prelude.{◌≡◌, ◌≢◌, ℕ, not, List, [], ◌∷◌, take, IsTrue, ◌==◌}
use Rattle.std.specs.List.{list_any}
use Rattle.fal_base.specs.declared.call.Cred.{Cred}
use Rattle.fal_base.specs.declared.op.Op.{Op}
use Rattle.fal_base.specs.declared.op.Op.TheVariants as op
use Rattle.fal_base.specs.Tree.{Tree, tree0}
use Rattle.fal_base.specs.Change.{makes, change}

-- a call that changed the tree; a new row has this number, and every other commit has 0
pub record Commit : Type 0 where
  pub lane : ℕ
  pub seq : ℕ
  pub cred : Cred
  pub op : Op
  pub ino : ℕ

-- the tree after some commits
abbrev pub tree_after : Tree → List Commit → Tree
tree_after tree [] = tree
tree_after tree (c ∷ cs) = tree_after (change tree c.cred c.op c.ino) cs

-- the tree after the first k commits
abbrev pub tree_at : List Commit → ℕ → Tree
tree_at commits k = tree_after tree0 (take k commits)

-- a number that the call's kind of commit may have, after these numbers
abbrev pub HasNumber : Op → ℕ → List ℕ → Type 0
HasNumber (op.Mkdir path mode) ino earlier = (1 ≢ ino) × (0 ≢ ino) × IsTrue (not (list_any (λ n. n == ino) earlier))
HasNumber (op.Create path mode) ino earlier = (1 ≢ ino) × (0 ≢ ino) × IsTrue (not (list_any (λ n. n == ino) earlier))
HasNumber other ino earlier = ino ≡ 0

-- each commit is made by its call in the tree before it
abbrev pub AreLegalFrom : Tree → List ℕ → List Commit → Type 0
AreLegalFrom tree earlier [] = Unit {0}
AreLegalFrom tree earlier (c ∷ cs) =
    IsTrue (makes tree c.cred c.op) × HasNumber c.op c.ino earlier × AreLegalFrom (change tree c.cred c.op c.ino) (c.ino ∷ earlier) cs

abbrev pub AreLegal : List Commit → Type 0
AreLegal commits = AreLegalFrom tree0 [] commits
