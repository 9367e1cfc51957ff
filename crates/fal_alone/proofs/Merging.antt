-- Rows of two trees, put under their keys one after another.
use Rattle.std.proofs.Common.{◌≡◌, ◌≢◌, ◌⊎◌, ⊎_elim, ◌+◌, suc, ◌&&◌, Bool, true, false, cond, List, [], ◌∷◌, length, map, Option, Some, None, refl, sym, ap, ◌∙◌, subst, subst₂, arith, T}
use Rattle.std.specs.Option.{option_or}
use Rattle.std.specs.Ordering.{is_eq, is_lt}
use Rattle.std.specs.declared.cmp.Ordering.{Ordering}
use Rattle.std.specs.declared.cmp.Ordering.TheVariants.{Less, Equal, Greater}
use Rattle.std.specs.FinMap.Entries.{find-put, below_all}
use Rattle.fal_base.specs.declared.inode.Inode.{Inode}
use Rattle.fal_base.specs.declared.key.Key.{Key}
use Rattle.fal_base.specs.declared.row.TreeLine.{TreeLine}
use Rattle.fal_base.specs.Tree.{Tree, key_cmp, same_key, row_at, with_row, lines_of, IsInOrder}
use Rattle.fal_base.proofs.Order.{key_cmp_total, held, told, in_order_with}
use Rattle.fal_base.proofs.Maps.{same_key_is}
use Rattle.fal_story.specs.AllRows.{with_tree}
use Rattle.fal_story.proofs.Trees.TreeRows.{same_tree, in_order_with_tree, row_with_tree}
use Rattle.fal_alone.specs.Merged.{is_second_next, TakesNext}

or_none : (x : Option Inode) → option_or x None ≡ x
or_none None = refl
or_none (Some inode) = refl

-- rows put under their keys where nothing stood
pub with_own : (rows : Tree) → IsInOrder rows → with_tree [] rows ≡ rows
with_own rows sorted = same_tree (with_tree [] rows) rows (in_order_with_tree [] rows refl) sorted (λ q. row_with_tree [] rows q ∙ or_none (row_at rows q))

put_early : (b : Bool) (x : Inode) (there rest : Option Inode) → (b ≡ true → there ≡ None) → cond b (Some x) (option_or there rest) ≡ option_or there (cond b (Some x) rest)
put_early true x there rest none = sym (ap (λ o. option_or o (Some x)) (none refl))
put_early false x there rest none = refl

-- a row whose key is none of those may be put before them
pub put_first : (tree rows : Tree) (key : Key) (inode : Inode) → IsInOrder tree → row_at rows key ≡ None → with_row (with_tree tree rows) key inode ≡ with_tree (with_row tree key inode) rows
put_first tree rows key inode sorted none =
    same_tree (with_row (with_tree tree rows) key inode) (with_tree (with_row tree key inode) rows) (in_order_with (with_tree tree rows) key inode (in_order_with_tree tree rows sorted))
    (in_order_with_tree (with_row tree key inode) rows (in_order_with tree key inode sorted))
    (λ q. find-put key_cmp key_cmp_total q key inode (with_tree tree rows) ∙ ap (λ o. cond (same_key q key) (Some inode) o) (row_with_tree tree rows q)
    ∙ put_early (same_key q key) inode (row_at rows q) (row_at tree q) (λ same. ap (row_at rows) ((same_key_is q key).0 same) ∙ none)
    ∙ ap (option_or (row_at rows q)) (sym (find-put key_cmp key_cmp_total q key inode tree)) ∙ sym (row_with_tree (with_row tree key inode) rows q))

-- ---- what stands above a key

both : (a b : Bool) → T a → T b → T (a && b)
both true b p q = q
both false b p q = p

front : (a b : Bool) → T (a && b) → T a
front true b p = tt
front false b p = p

back : (a b : Bool) → T (a && b) → T b
back true b p = p
back false b p = absurd p

apart_of : (r : Ordering) → T (is_lt r) → is_eq r ≡ false
apart_of Less is = refl
apart_of Equal is = absurd is
apart_of Greater is = absurd is

less_of : (r : Ordering) → T (is_lt r) → r ≡ Less
less_of Less is = refl
less_of Equal is = absurd is
less_of Greater is = absurd is

above_none : (key : Key) (rows : Tree) → T (below_all key_cmp key rows) → row_at rows key ≡ None
above_none key [] below = refl
above_none key (row ∷ rows) below =
    ap (λ b. cond b (Some row.1) (row_at rows key)) (apart_of (key_cmp key row.0) (front _ _ below)) ∙ above_none key rows (back _ _ below)

above_all : (key other : Key) (rows : Tree) → key_cmp key other ≡ Less → T (below_all key_cmp other rows) → T (below_all key_cmp key rows)
above_all key other [] less below = tt
above_all key other (row ∷ rows) less below =
    both _ _ (subst (λ r. T (is_lt r)) (sym (key_cmp_total.trans key other row.0 less (less_of _ (front _ _ below)))) tt) (above_all key other rows less (back _ _ below))

-- the first of rows in order is none of the others
pub head_once : (row : Key × Inode) (rows : Tree) → IsInOrder (row ∷ rows) → row_at rows row.0 ≡ None
head_once row rows sorted = above_none row.0 rows (front _ _ (held _ sorted))

pub in_order_rest : (row : Key × Inode) (rows : Tree) → IsInOrder (row ∷ rows) → IsInOrder rows
in_order_rest row rows sorted = told _ (back _ _ (held _ sorted))

-- a key below the first of rows in order is none of them
pub before_none : (key : Key) (row : Key × Inode) (rows : Tree) → is_lt (key_cmp key row.0) ≡ true → IsInOrder (row ∷ rows) → row_at (row ∷ rows) key ≡ None
before_none key row rows less sorted =
    let lower : T (is_lt (key_cmp key row.0)) = held _ less in
    above_none key (row ∷ rows) (both _ _ lower (above_all key row.0 rows (less_of _ lower) (front _ _ (held _ sorted))))

-- ---- lines taken one after another

-- the rows that lines tell
abbrev pub tree_of : List TreeLine → Tree
tree_of lines = map (λ line. (line.key, line.inode)) lines

pub tree_of_own : (tree : Tree) → tree_of (lines_of tree) ≡ tree
tree_of_own [] = refl
tree_of_own (row ∷ rows) = ap (λ others. row ∷ others) (tree_of_own rows)

-- the rows of both lists, put into a tree
abbrev pub with_both : Tree → List TreeLine → List TreeLine → Tree
with_both tree first second = with_tree (with_tree tree (tree_of first)) (tree_of second)

-- the line that was taken may be put in first
pub record Goes (tree : Tree) (ones others : List TreeLine) (line : TreeLine) (ones-left others-left : List TreeLine) : Type 0 where
  pub rows : with_both tree ones others ≡ with_both (with_row tree line.key line.inode) ones-left others-left
  pub first : IsInOrder (tree_of ones-left)
  pub second : IsInOrder (tree_of others-left)
  pub fewer : length ones + length others ≡ suc (length ones-left + length others-left)

of_first : (tree : Tree) (line : TreeLine) (first second : List TreeLine) → IsInOrder tree → IsInOrder (tree_of (line ∷ first)) → IsInOrder (tree_of second) → Goes tree (line ∷ first) second line first second
of_first tree line first second sorted ones others =
    record {
      rows = ap (λ t. with_tree t (tree_of second)) (put_first tree (tree_of first) line.key line.inode sorted (head_once (line.key, line.inode) (tree_of first) ones));
      first = in_order_rest (line.key, line.inode) (tree_of first) ones;
      second = others;
      fewer = omega arith;
    }

none_of : (first second : List TreeLine) (line : TreeLine) → is_second_next first (line ∷ second) ≡ true → IsInOrder (tree_of first) → row_at (tree_of first) line.key ≡ None
none_of [] second line next sorted = refl
none_of (other ∷ first) second line next sorted = before_none line.key (other.key, other.inode) (tree_of first) next sorted

of_second : (tree : Tree) (line : TreeLine) (first second : List TreeLine) → is_second_next first (line ∷ second) ≡ true → IsInOrder tree → IsInOrder (tree_of first) → IsInOrder (tree_of (line ∷ second)) → Goes tree first (line ∷ second) line first second
of_second tree line first second next sorted ones others =
    record {
      rows =
          put_first (with_tree tree (tree_of first)) (tree_of second) line.key line.inode (in_order_with_tree tree (tree_of first) sorted) (head_once (line.key, line.inode) (tree_of second) others)
          ∙ ap (λ t. with_tree t (tree_of second)) (put_first tree (tree_of first) line.key line.inode sorted (none_of first second line next ones));
      first = ones;
      second = in_order_rest (line.key, line.inode) (tree_of second) others;
      fewer = omega arith;
    }

pub goes : (tree : Tree) (first second : List TreeLine) (line : TreeLine) (first-left second-left : List TreeLine) → IsInOrder tree → IsInOrder (tree_of first) → IsInOrder (tree_of second)
    → TakesNext first second line first-left second-left → Goes tree first second line first-left second-left
goes tree first second line first-left second-left sorted sorted-first sorted-second =
    ⊎_elim
    (λ h. subst₂ (λ f s. IsInOrder (tree_of f) → IsInOrder (tree_of s) → Goes tree f s line first-left second-left) (sym h.0) (sym h.1) (of_first tree line first-left second-left sorted) sorted-first sorted-second)
    (λ h. subst₂ (λ f s. is_second_next f s ≡ true → IsInOrder (tree_of f) → IsInOrder (tree_of s) → Goes tree f s line first-left second-left) (sym h.1) (sym h.2)
    (λ next. of_second tree line first-left second-left next sorted) h.0 sorted-first sorted-second)
