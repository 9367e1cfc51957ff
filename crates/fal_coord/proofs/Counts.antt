-- The counts of a tree's parts tell whether a directory is empty.
use Rattle.std.proofs.Common.{◌≡◌, ℕ, zero, suc, ◌<◌, ◌==◌, Bool, true, false, List, [], ◌∷◌, length, map, sum, Contains, refl, sym, ap, subst, cond, arith}
use Rattle.std.proofs.lemmas.List.Sums.{sum_by-cons}
use Rattle.std.proofs.lemmas.Bool.Decides.{nat_tests}
use Rattle.fal_base.specs.declared.reply.Errno.TheVariants.{Enotempty}
use Rattle.fal_base.specs.declared.row.Update.{Update}
use Rattle.fal_base.specs.Tree.{Tree, names_under}
use Rattle.fal_base.proofs.Entries.{SomeUnder, name_of_row, row_of_name}
use Rattle.fal_coord.specs.Decided.{SaysOfTree, ArePartsOf, SaysOfParts}
use Rattle.fal_coord.specs.Judged.{Fail, Change}

module _ (dir : ℕ) where
  abbrev count : Tree → ℕ
  count tree = length (names_under tree dir)

  -- some part has entries where the counts do not make 0
  part_of : (parts : List Tree) → 0 < sum (map count parts) → (part : Tree) × Contains parts part × (0 < count part)
  part_of [] some = absurd (omega arith)
  part_of (part ∷ parts) some =
      let both = sum_by-cons (λ n. n) (count part) (map count parts) in
      elim (count part) as (λ n. count part ≡ n → (other : Tree) × Contains (part ∷ parts) other × (0 < count other)) [
        | zero ↦ λ none. let later : (other : Tree) × Contains parts other × (0 < count other) = part_of parts (omega arith) in (later.0, (suc later.1.0, omega arith, later.1.2), later.2)
        | suc n ↦ λ here. (part, (0, omega arith, refl), omega arith)
      ] refl

  part_counts : (parts : List Tree) (part : Tree) → Contains parts part → 0 < count part → 0 < sum (map count parts)
  part_counts [] part (k, below, is) some = absurd (omega arith)
  part_counts (first ∷ parts) part (zero, below, is) some =
      let both = sum_by-cons (λ n. n) (count first) (map count parts) in
      let same : count first ≡ count part = ap count is in omega arith
  part_counts (first ∷ parts) part (suc k, below, is) some =
      let both = sum_by-cons (λ n. n) (count first) (map count parts) in
      let later : 0 < sum (map count parts) = part_counts parts part (k, omega arith, is) some in omega arith

  module _ (parts : List Tree) (tree : Tree) (are : ArePartsOf parts tree) where
    counted_there : 0 < sum (map count parts) → 0 < count tree
    counted_there some =
        let part = part_of parts some in
        let entry : SomeUnder part.0 dir = row_of_name dir part.0 part.2 in
        name_of_row dir tree (entry.0, entry.1, are.within part.0 part.1 entry.0 entry.2)

    counted_here : 0 < count tree → 0 < sum (map count parts)
    counted_here some =
        let entry : SomeUnder tree dir = row_of_name dir tree some in
        let part = are.covers entry.0 entry.2 in
        part_counts parts part.0 part.1 (name_of_row dir part.0 (entry.0, entry.1, part.2))

zero_of : (n m : ℕ) → (0 < n → 0 < m) → m ≡ 0 → n ≡ 0
zero_of zero m go none = refl
zero_of (suc n) m go none = let more : 0 < m = go (omega arith) in absurd (omega arith)

-- what the counts decide is what the tree says
pub in_parts : (counts : List ℕ) (updates : List Update) (b : Bool) → b ≡ (sum counts == 0) → SaysOfParts counts updates (cond b (Change updates) (Fail Enotempty))
unfolding SaysOfParts
in_parts counts updates b sums tree parts cred call dir are is says =
    let here : 0 < length (names_under tree dir) → 0 < sum counts = λ some. subst (λ ns. 0 < sum ns) (sym is) (counted_here dir parts tree are some) in
    let there : 0 < sum counts → 0 < length (names_under tree dir) = λ some. counted_there dir parts tree are (subst (λ ns. 0 < sum ns) is some) in
    elim b as (λ b. b ≡ (sum counts == 0) → SaysOfTree tree cred call (cond b (Change updates) (Fail Enotempty))) [
      | true ↦ λ none. let zero_sum : sum counts ≡ 0 = grind (arith, nat_tests) in says.empty (zero_of _ _ here zero_sum)
      | false ↦ λ some. let more : 0 < sum counts = grind (arith, nat_tests) in says.full (there more)
    ] sums
