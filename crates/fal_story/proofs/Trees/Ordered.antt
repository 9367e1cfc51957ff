-- The rows of one name by the numbers of their parents: laid, they are what they were, and a node's share of them is what it owns.
use Rattle.std.proofs.Common.{◌≡◌, ℕ, ◌<◌, Bool, true, false, ◌||◌, cond, List, [], ◌∷◌, Some, refl, sym, ap, ◌∙◌, arith}
use Rattle.std.specs.Prelude.{nat_lt, ◌==◌}
use Rattle.std.proofs.lemmas.Bool.Decides.{nat_tests}
use Rattle.fal_base.specs.declared.key.Key.{Key}
use Rattle.fal_base.specs.declared.row.NamedRow.{NamedRow}
use Rattle.fal_base.specs.Tree.{Tree, key_of, row_at, same_key, with_row}
use Rattle.fal_base.specs.Updates.{keys_of, laid, putting}
use Rattle.fal_base.proofs.Maps.{same_key_is}
use Rattle.fal_base.proofs.Updates.{laid_same, laid_swap}
use Rattle.fal_dentry.specs.Walk.{is_among}
use Rattle.fal_duty.specs.Duties.{owned}
use Rattle.fal_inode.specs.Named.{puts}
use Rattle.fal_move.specs.Moving as moving
use Rattle.fal_move.specs.Moving.{by_parent, share_of}
use Rattle.fal_place.specs.Placement.{Placement, owner}
use Rattle.fal_story.proofs.Steps.Placed.{IsOrdered}

or_swap : (a b c : Bool) → (a || (b || c)) ≡ (b || (a || c))
or_swap true true c = refl
or_swap true false c = refl
or_swap false b c = refl

module _ (name : List ℕ) where
  abbrev at : NamedRow → Key
  at row = key_of row.parent name

  -- rows of two parents have two keys
  apart : (low high : NamedRow) → nat_lt low.parent high.parent ≡ true → same_key (at high) (at low) ≡ false
  apart low high less =
      elim (same_key (at high) (at low)) as (λ b. same_key (at high) (at low) ≡ b → b ≡ false) [
        | true ↦ λ same.
            let one : high.parent ≡ low.parent = ap (λ (k : Key). k.parent) ((same_key_is (at high) (at low)).0 same) in
            let below : low.parent < high.parent = grind (arith, nat_tests) in
            absurd (omega arith)
        | false ↦ λ _. refl
      ] refl

  -- a row that is put behind rows of lower parents stands as if it were the first
  with_laid : (row : NamedRow) (rows : List NamedRow) (t : Tree) (q : Key) → row_at (laid (puts name (moving.with_row row rows)) t) q ≡ row_at (laid (puts name (row ∷ rows)) t) q
  with_laid row [] t q = refl
  with_laid row (other ∷ rows) t q =
      elim (nat_lt other.parent row.parent) as (λ b. nat_lt other.parent row.parent ≡ b
      → row_at (laid (puts name (cond b (other ∷ moving.with_row row rows) (row ∷ other ∷ rows))) t) q ≡ row_at (laid (puts name (row ∷ other ∷ rows)) t) q) [
        | true ↦ λ less.
            let off = ap (λ b. b || false) (apart other row less) in
            let here = with_row t (at other) other.inode in
            let there = with_row t (at row) row.inode in
            with_laid row rows here q
            ∙ laid_same (puts name rows) (with_row here (at row) row.inode) (with_row there (at other) other.inode) q
            (laid_swap (putting (at row) row.inode ∷ []) t (at other) q (Some other.inode) off)
        | false ↦ λ _. refl
      ] refl

  by_laid : (rows : List NamedRow) (t : Tree) (q : Key) → row_at (laid (puts name (by_parent rows)) t) q ≡ row_at (laid (puts name rows) t) q
  by_laid [] t q = refl
  by_laid (row ∷ rows) t q = with_laid row (by_parent rows) t q ∙ by_laid rows (with_row t (at row) row.inode) q

  -- their keys are the same ones
  with_among : (row : NamedRow) (rows : List NamedRow) (q : Key) → is_among q (keys_of (puts name (moving.with_row row rows))) ≡ is_among q (keys_of (puts name (row ∷ rows)))
  with_among row [] q = refl
  with_among row (other ∷ rows) q =
      elim (nat_lt other.parent row.parent) as (λ b. is_among q (keys_of (puts name (cond b (other ∷ moving.with_row row rows) (row ∷ other ∷ rows)))) ≡ is_among q (keys_of (puts name (row ∷ other ∷ rows)))) [
        | true ↦ ap (λ b. same_key (at other) q || b) (with_among row rows q) ∙ or_swap (same_key (at other) q) (same_key (at row) q) (is_among q (keys_of (puts name rows)))
        | false ↦ refl
      ]

  by_among : (rows : List NamedRow) (q : Key) → is_among q (keys_of (puts name (by_parent rows))) ≡ is_among q (keys_of (puts name rows))
  by_among [] q = refl
  by_among (row ∷ rows) q = with_among row (by_parent rows) q ∙ ap (λ b. same_key (at row) q || b) (by_among rows q)

  pub by_parent_ordered : (rows : List NamedRow) → IsOrdered (puts name rows) (puts name (by_parent rows))
  by_parent_ordered rows = record { same = λ t key. by_laid rows t key; among = λ key is. sym (by_among rows key) ∙ is }

  -- the share of a node is what it owns
  pub share_owned : (table : Placement) (node : ℕ) (rows : List NamedRow) → owned table node (puts name rows) ≡ puts name (share_of table name node rows)
  share_owned table node [] = refl
  share_owned table node (row ∷ rows) =
      let first = putting (at row) row.inode in
      elim (owner table (at row) == node) as (λ b. cond b (first ∷ owned table node (puts name rows)) (owned table node (puts name rows)) ≡ puts name (cond b (row ∷ share_of table name node rows) (share_of table name node rows))) [
        | true ↦ ap (λ us. first ∷ us) (share_owned table node rows)
        | false ↦ share_owned table node rows
      ]
