-- How many rows the tree has that commits leave, and under which keys they stand.
use Rattle.std.proofs.Common.{◌≡◌, ◌⊎◌, inl, inr, ℕ, ◌+◌, ◌≤◌, true, false, cond, List, [], ◌∷◌, length, map, Option, Some, None, refl, sym, subst, arith}
use Rattle.std.specs.Prelude.{IsSome}
use Rattle.fal_base.specs.declared.call.Cred.{Cred}
use Rattle.fal_base.specs.declared.inode.Inode.{Inode}
use Rattle.fal_base.specs.declared.inode.Kind.TheVariants.{Dir, File}
use Rattle.fal_base.specs.declared.key.Key.{Key}
use Rattle.fal_base.specs.declared.op.Op.{Op}
use Rattle.fal_base.specs.declared.op.Op.TheVariants as op
use Rattle.fal_base.specs.Change.{change, last_key_of, move, new_row, update}
use Rattle.fal_base.specs.Commits.{Commit, tree_after}
use Rattle.fal_base.specs.Tree.{Tree, tree0, row_at, same_key, with_row, without_row, IsInOrder}
use Rattle.fal_base.proofs.Maps.{same_key_is}
use Rattle.fal_base.proofs.Order.{in_order_change, in_order_without}
use Rattle.fal_story.proofs.Lists.Members.{IsIn}
use Rattle.fal_story.proofs.Ranges.RowCounts.{with_most, without_most}
use Rattle.fal_story.proofs.Trees.Commits.{tree_at_end}
use Rattle.fal_story.proofs.Trees.Standing.{tree_now}

-- ---- how many rows

abbrev HasMost : ℕ → Tree → Type 0
HasMost count tree = length tree ≤ count

update_most : (tree : Tree) (key : Key) (f : Inode → Inode) → IsInOrder tree → length (update tree key f) ≤ length tree + 1
update_most tree key f sorted =
    elim (row_at tree key) as (λ (row : Option Inode). HasMost (length tree + 1) (elim row [ None ↦ tree | Some inode ↦ with_row tree key (f inode) ])) [
      | None ↦ omega arith
      | Some inode ↦ with_most tree key (f inode) sorted
    ]

move_most : (tree : Tree) (from to : Key) → IsInOrder tree → length (move tree from to) ≤ length tree + 1
move_most tree from to sorted =
    let fewer = without_most tree from in
    elim (row_at tree from) as (λ (row : Option Inode). HasMost (length tree + 1) (elim row [ None ↦ tree | Some inode ↦ with_row (without_row tree from) to inode ])) [
      | None ↦ omega arith
      | Some inode ↦ let most = with_most (without_row tree from) to inode (in_order_without tree from sorted) in omega arith
    ]

removed_most : (tree : Tree) (key : Key) → length (without_row tree key) ≤ length tree + 1
removed_most tree key = let fewer = without_most tree key in omega arith

change_most : (tree : Tree) (cred : Cred) (call : Op) (ino : ℕ) → IsInOrder tree → length (change tree cred call ino) ≤ length tree + 1
change_most tree cred (op.Mkdir path mode) ino sorted = with_most tree (last_key_of tree cred path) (new_row cred Dir mode ino) sorted
change_most tree cred (op.Create path mode) ino sorted = with_most tree (last_key_of tree cred path) (new_row cred File mode ino) sorted
change_most tree cred (op.Stat path) ino sorted = omega arith
change_most tree cred (op.Access path want) ino sorted = omega arith
change_most tree cred (op.Chmod path mode) ino sorted = update_most tree (last_key_of tree cred path) _ sorted
change_most tree cred (op.Chown path uid gid) ino sorted = update_most tree (last_key_of tree cred path) _ sorted
change_most tree cred (op.Truncate path size) ino sorted = update_most tree (last_key_of tree cred path) _ sorted
change_most tree cred (op.Unlink path) ino sorted = removed_most tree (last_key_of tree cred path)
change_most tree cred (op.Rmdir path) ino sorted = removed_most tree (last_key_of tree cred path)
change_most tree cred (op.Rename old new) ino sorted = move_most tree (last_key_of tree cred old) (last_key_of tree cred new) sorted
change_most tree cred (op.List path) ino sorted = omega arith
change_most tree cred (op.Place name rule) ino sorted = omega arith

after_most : (tree : Tree) (commits : List Commit) → IsInOrder tree → length (tree_after tree commits) ≤ length tree + length commits
after_most tree [] sorted = omega arith
after_most tree (c ∷ cs) sorted =
    let one = change_most tree c.cred c.op c.ino sorted in
    let rest = after_most (change tree c.cred c.op c.ino) cs (in_order_change tree c.cred c.op c.ino sorted) in
    omega arith

-- each commit makes one row at most
pub tree_most : (commits : List Commit) → length (tree_now commits) ≤ 1 + length commits
tree_most commits = subst (λ (t : Tree). length t ≤ 1 + length commits) (sym (tree_at_end commits)) (let most = after_most tree0 commits refl in omega arith)

-- ---- which keys they have

abbrev pub keys_in : Tree → List Key
keys_in tree = map (λ e. e.0) tree

pub stands_in : (tree : Tree) (key : Key) → IsSome (row_at tree key) → IsIn key (keys_in tree)
stands_in [] key some = absurd (cc)
stands_in (e ∷ es) key some =
    elim (same_key key e.0) as (λ b. same_key key e.0 ≡ b → IsSome (cond b (Some e.1) (row_at es key)) → (e.0 ≡ key) ⊎ IsIn key (keys_in es)) [
      | true ↦ λ same _. inl (sym ((same_key_is key e.0).0 same))
      | false ↦ λ _ later. inr (stands_in es key later)
    ] refl some
