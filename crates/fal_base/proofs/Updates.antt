-- What stands under a key once updates are laid on a tree, and what updates tell of it.
use Rattle.std.proofs.Common.{◌≡◌, ◌≢◌, ◌⊎◌, ⊎_elim, suc, Bool, true, false, ◌||◌, cond, List, [], ◌∷◌, Option, Some, None, Contains, refl, sym, ap, ◌∙◌, arith}
use Rattle.fal_base.specs.declared.inode.Inode.{Inode}
use Rattle.fal_base.specs.declared.key.Key.{Key}
use Rattle.fal_base.specs.declared.row.Update.{Update}
use Rattle.fal_base.specs.Tree.{Tree, row_at, same_key}
use Rattle.fal_base.specs.Updates.{is_told, laid, laid_at, row_among}
use Rattle.fal_base.proofs.Maps.{put_cases, removed_cases, same_key_is}

-- under the key stands what was laid there, and under each other one what stood there
pub laid_cases : (t : Tree) (key q : Key) (row : Option Inode) → ((q ≡ key) × (row_at (laid_at t key row) q ≡ row)) ⊎ ((q ≢ key) × (row_at (laid_at t key row) q ≡ row_at t q))
laid_cases t key q None = removed_cases q key t
laid_cases t key q (Some inode) = put_cases q key inode t

neither : (a b : Bool) → (a || b) ≡ false → (a ≡ false) × (b ≡ false)
neither true b off = absurd (cc)
neither false b off = (refl, off)

off_key : (key q : Key) → same_key key q ≡ false → q ≢ key
off_key key q apart same = let wrong : true ≡ false = sym ((same_key_is key q).1 (sym same)) ∙ apart in absurd (cc)

-- under a key that no update is for, all stays
pub laid_off : (us : List Update) (t : Tree) (key : Key) → is_told key us ≡ false → row_at (laid us t) key ≡ row_at t key
laid_off [] t key off = refl
laid_off (u ∷ us) t key off =
    let both = neither (same_key u.key key) (is_told key us) off in
    laid_off us (laid_at t u.key u.row) key both.1 ∙ ⊎_elim (λ x. absurd (off_key u.key key both.0 x.0)) (λ x. x.1) (laid_cases t u.key key u.row)

-- where one row stood under a key, one row stands there after the same updates
pub laid_same : (us : List Update) (r s : Tree) (q : Key) → row_at r q ≡ row_at s q → row_at (laid us r) q ≡ row_at (laid us s) q
laid_same [] r s q same = same
laid_same (u ∷ us) r s q same = laid_same us (laid_at r u.key u.row) (laid_at s u.key u.row) q
    (⊎_elim
    (λ x. x.1 ∙ sym (⊎_elim (λ y. y.1) (λ y. absurd (y.0 x.0)) (laid_cases s u.key q u.row)))
    (λ x. x.1 ∙ same ∙ sym (⊎_elim (λ y. absurd (x.0 y.0)) (λ y. y.1) (laid_cases s u.key q u.row)))
    (laid_cases r u.key q u.row))

-- it makes no difference which comes first, where the updates are for other keys
pub laid_swap : (us : List Update) (r : Tree) (key q : Key) (row : Option Inode) → is_told key us ≡ false → row_at (laid us (laid_at r key row)) q ≡ row_at (laid_at (laid us r) key row) q
laid_swap us r key q row off = ⊎_elim
    (λ x. laid_off us (laid_at r key row) q (ap (λ k. is_told k us) x.0 ∙ off) ∙ ⊎_elim (λ y. y.1) (λ y. absurd (y.0 x.0)) (laid_cases r key q row) ∙ sym x.1)
    (λ x. laid_same us (laid_at r key row) r q (⊎_elim (λ y. absurd (x.0 y.0)) (λ y. y.1) (laid_cases r key q row)) ∙ sym x.1)
    (laid_cases (laid us r) key q row)

-- updates that tell one row of a key, and at least once, tell that row
pub row_among_is : (updates : List Update) (key : Key) (row : Option Inode) → ((u : Update) → Contains updates u → u.key ≡ key → u.row ≡ row) → is_told key updates ≡ true → row_among updates key ≡ row
row_among_is [] key row same told = cc
row_among_is (u ∷ us) key row same told =
    elim (same_key u.key key) as (λ b. same_key u.key key ≡ b → (b || is_told key us) ≡ true → cond b u.row (row_among us key) ≡ row) [
      | true ↦ λ here _. same u (0, omega arith, refl) ((same_key_is u.key key).0 here)
      | false ↦ λ _ later. row_among_is us key row (λ v among. same v (suc among.0, omega arith, among.2)) later
    ] refl told
