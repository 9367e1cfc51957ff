-- In a tree of legal commits two rows with one number stand under one key, and none has number 0.
use Rattle.std.proofs.Common.{◌≡◌, ◌≢◌, ℕ, List, Some, sym, subst}
use Rattle.fal_base.specs.declared.inode.Inode.{Inode}
use Rattle.fal_base.specs.declared.key.Key.{Key}
use Rattle.fal_base.specs.Commits.{Commit, AreLegal}
use Rattle.fal_base.specs.Tree.{row_at}
use Rattle.fal_base.proofs.Numbers.{AreNumbered, DoNumbersDiffer, numbers_after}
use Rattle.fal_story.proofs.Trees.Commits.{tree_at_end}
use Rattle.fal_story.proofs.Trees.Standing.{tree_now}

numbered : (commits : List Commit) → AreLegal commits → (numbers : List ℕ) × AreNumbered (tree_now commits) numbers
numbered commits legal = subst (λ t. (numbers : List ℕ) × AreNumbered t numbers) (sym (tree_at_end commits)) (numbers_after commits legal)

pub numbers_differ : (commits : List Commit) → AreLegal commits → DoNumbersDiffer (tree_now commits)
numbers_differ commits legal = (numbered commits legal).1.differ

pub numbers_some : (commits : List Commit) → AreLegal commits → (key : Key) (row : Inode) → row_at (tree_now commits) key ≡ Some row → 0 ≢ row.ino
numbers_some commits legal = (numbered commits legal).1.some
