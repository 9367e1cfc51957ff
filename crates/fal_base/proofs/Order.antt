-- The order of keys is total, and changes of the tree keep it.
use Rattle.std.proofs.Common.{◌≡◌, ℕ, Bool, true, false, Some, None, refl}
use Rattle.std.specs.Prelude.{T, IsTrue}
use Rattle.std.specs.declared.cmp.Ordering.TheVariants.{Less, Equal, Greater}
use Rattle.std.specs.Ordering.{nat_cmp, ordering_then}
use Rattle.std.specs.Cmp.Lexicographic.{slice_cmp}
use Rattle.std.specs.FinMap.{nat_cmp-IsAntisymmetric, slice_cmp-IsAntisymmetric}
use Rattle.std.specs.Cmp.{IsTotalOrder, then_total, on_total, nat_cmp_total}
use Rattle.std.specs.Cmp.Lexicographic.{nat_list_cmp_total}
use Rattle.std.specs.FinMap.Entries.{is_sorted-put, is_sorted-where_key}
use Rattle.fal_base.specs.declared.call.Cred.{Cred}
use Rattle.fal_base.specs.declared.inode.Inode.{Inode}
use Rattle.fal_base.specs.declared.inode.Kind.TheVariants.{Dir, File}
use Rattle.fal_base.specs.declared.key.Key.{Key}
use Rattle.fal_base.specs.declared.op.Op.{Op}
use Rattle.fal_base.specs.declared.op.Op.TheVariants as op
use Rattle.fal_base.specs.Change.{change, last_key_of, move, new_row, update}
use Rattle.fal_base.specs.Tree.{Tree, key_cmp, row_at, with_row, without_row, IsInOrder}

pub key_cmp_total : IsTotalOrder key_cmp
unfolding key_cmp
key_cmp_total = then_total (on_total (λ k. k.parent) nat_cmp_total) (on_total (λ k. k.name) nat_list_cmp_total)

-- keys that tie are one
pub same_of_tied : (a b : Key) → key_cmp a b ≡ Equal → a ≡ b
unfolding key_cmp
same_of_tied a b tied =
    elim (nat_cmp a.parent b.parent) as (λ r. nat_cmp a.parent b.parent ≡ r → ordering_then r (slice_cmp nat_cmp a.name b.name) ≡ Equal → a ≡ b) [
      | Less ↦ λ _ wrong. cc
      | Equal ↦ λ parents names. let one = nat_cmp-IsAntisymmetric a.parent b.parent parents in let other = slice_cmp-IsAntisymmetric nat_cmp-IsAntisymmetric a.name b.name names in λ i. record { parent = one i; name = other i }
      | Greater ↦ λ _ wrong. cc
    ] refl tied

pub held : (b : Bool) → IsTrue b → T b
held true is = tt
held false is = cc

pub told : (b : Bool) → T b → IsTrue b
told true is = refl
told false is = absurd is

pub in_order_with : (tree : Tree) (key : Key) (inode : Inode) → IsInOrder tree → IsInOrder (with_row tree key inode)
in_order_with tree key inode sorted = told _ (is_sorted-put key_cmp key_cmp_total key inode tree (held _ sorted))

pub in_order_without : (tree : Tree) (key : Key) → IsInOrder tree → IsInOrder (without_row tree key)
in_order_without tree key sorted = told _ (is_sorted-where_key key_cmp _ tree (held _ sorted))

in_order_update : (tree : Tree) (key : Key) (f : Inode → Inode) → IsInOrder tree → IsInOrder (update tree key f)
in_order_update tree key f sorted =
    elim (row_at tree key) as (λ row. IsInOrder (elim row [ None ↦ tree | Some inode ↦ with_row tree key (f inode) ])) [
      | None ↦ sorted
      | Some inode ↦ in_order_with tree key (f inode) sorted
    ]

in_order_move : (tree : Tree) (from to : Key) → IsInOrder tree → IsInOrder (move tree from to)
in_order_move tree from to sorted =
    elim (row_at tree from) as (λ row. IsInOrder (elim row [ None ↦ tree | Some inode ↦ with_row (without_row tree from) to inode ])) [
      | None ↦ sorted
      | Some inode ↦ in_order_with (without_row tree from) to inode (in_order_without tree from sorted)
    ]

pub in_order_change : (tree : Tree) (cred : Cred) (call : Op) (ino : ℕ) → IsInOrder tree → IsInOrder (change tree cred call ino)
in_order_change tree cred (op.Mkdir path mode) ino sorted = in_order_with tree (last_key_of tree cred path) (new_row cred Dir mode ino) sorted
in_order_change tree cred (op.Create path mode) ino sorted = in_order_with tree (last_key_of tree cred path) (new_row cred File mode ino) sorted
in_order_change tree cred (op.Stat path) ino sorted = sorted
in_order_change tree cred (op.Access path want) ino sorted = sorted
in_order_change tree cred (op.Chmod path mode) ino sorted = in_order_update tree (last_key_of tree cred path) _ sorted
in_order_change tree cred (op.Chown path uid gid) ino sorted = in_order_update tree (last_key_of tree cred path) _ sorted
in_order_change tree cred (op.Truncate path size) ino sorted = in_order_update tree (last_key_of tree cred path) _ sorted
in_order_change tree cred (op.Unlink path) ino sorted = in_order_without tree (last_key_of tree cred path) sorted
in_order_change tree cred (op.Rmdir path) ino sorted = in_order_without tree (last_key_of tree cred path) sorted
in_order_change tree cred (op.Rename old new) ino sorted = in_order_move tree (last_key_of tree cred old) (last_key_of tree cred new) sorted
in_order_change tree cred (op.List path) ino sorted = sorted
in_order_change tree cred (op.Place name rule) ino sorted = sorted
