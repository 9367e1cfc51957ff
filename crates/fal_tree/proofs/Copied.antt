-- Rows that are put in the order of their keys stand in that order.
use Rattle.std.proofs.Common.{◌≡◌, Bool, true, false, ◌&&◌, [], ◌∷◌, ◌++◌, refl, ap, ◌∙◌, append_assoc}
use Rattle.std.specs.Prelude.{IsTrue}
use Rattle.std.specs.declared.cmp.Ordering.{Ordering}
use Rattle.std.specs.declared.cmp.Ordering.TheVariants.{Less, Equal, Greater}
use Rattle.std.specs.Ordering.{is_lt, ordering_reverse}
use Rattle.std.specs.FinMap.Entries.{by_order, below_all}
use Rattle.fal_base.specs.declared.inode.Inode.{Inode}
use Rattle.fal_base.specs.declared.key.Key.{Key}
use Rattle.fal_base.specs.Tree.{Tree, key_cmp, with_row, IsInOrder}
use Rattle.fal_base.proofs.Order.{key_cmp_total}

and_first : (a b : Bool) → IsTrue (a && b) → IsTrue a
and_first true b both = refl
and_first false b both = both

and_second : (a b : Bool) → IsTrue (a && b) → IsTrue b
and_second true b both = both
and_second false b both = cc

less_of : (r : Ordering) → IsTrue (is_lt r) → r ≡ Less
less_of Less is = refl
less_of Equal is = cc
less_of Greater is = cc

-- a key below all rows is below this one among them
below_each : (key : Key) (before : Tree) (e : Key × Inode) (after : Tree) → IsTrue (below_all key_cmp key (before ++ e ∷ after)) → key_cmp key e.0 ≡ Less
below_each key [] e after below = less_of _ (and_first _ _ below)
below_each key (b ∷ before) e after below = below_each key before e after (and_second _ _ below)

-- a row whose key is above all others goes to the end
pub put_last : (before : Tree) (e : Key × Inode) (after : Tree) → IsInOrder (before ++ e ∷ after) → with_row before e.0 e.1 ≡ before ++ e ∷ []
put_last [] e after order = refl
put_last (b ∷ before) e after order =
    let greater : key_cmp e.0 b.0 ≡ Greater = key_cmp_total.antisymm e.0 b.0 ∙ ap ordering_reverse (below_each b.0 before e after (and_first _ _ order)) in
    ap (λ r. by_order r ((e.0, e.1) ∷ b ∷ before) ((b.0, e.1) ∷ before) (b ∷ with_row before e.0 e.1)) greater ∙ ap (λ rest. b ∷ rest) (put_last before e after (and_second _ _ order))

-- one row more is copied
pub copied_more : (before : Tree) (e : Key × Inode) (after all : Tree) → before ++ e ∷ after ≡ all → IsInOrder all → with_row before e.0 e.1 ++ after ≡ all
copied_more before e after all is order =
    ap (λ rows. rows ++ after) (put_last before e after (ap_order is order)) ∙ append_assoc before (e ∷ []) after ∙ is
  where
    ap_order : {a b : Tree} → a ≡ b → IsInOrder b → IsInOrder a
    ap_order one other = rw one other
