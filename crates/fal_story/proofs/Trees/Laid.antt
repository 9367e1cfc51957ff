-- Of updates that are laid on rows, those that live at a node.
use Rattle.std.proofs.Common.{◌≡◌, ◌≢◌, ⊎_elim, ℕ, Bool, true, false, ◌||◌, cond, List, [], ◌∷◌, Option, None, refl, sym, ap, ◌∙◌}
use Rattle.std.specs.Prelude.{◌==◌, if◌then◌else◌}
use Rattle.fal_base.specs.declared.inode.Inode.{Inode}
use Rattle.fal_base.specs.declared.key.Key.{Key}
use Rattle.fal_base.specs.declared.row.Update.{Update}
use Rattle.fal_base.specs.Tree.{Tree, row_at, same_key}
use Rattle.fal_base.specs.Updates.{keys_of, laid, laid_at}
use Rattle.fal_base.proofs.Updates.{laid_cases}
use Rattle.fal_dentry.specs.Walk.{is_among}
use Rattle.fal_duty.specs.Duties.{owned}
use Rattle.fal_place.specs.Placement.{Placement, owner}
use Rattle.fal_story.proofs.Lists.Grown.{tells, unequal, or_second}
use Rattle.fal_story.proofs.Trees.Standing.{row_of}

module _ (table : Placement) (n : ℕ) where
  abbrev AreOf : Tree → Tree → Type 0
  AreOf rows tree = (key : Key) → row_at rows key ≡ row_of table tree n key

  pub own_laid : (rows tree : Tree) (key : Key) (row : Option Inode) → owner table key ≡ n → (owner table key == n) ≡ true → AreOf rows tree → AreOf (laid_at rows key row) (laid_at tree key row)
  own_laid rows tree key row own is are q = ⊎_elim
      (λ x. x.1 ∙ sym (⊎_elim (λ z. z.1) (λ z. absurd (z.0 x.0)) (laid_cases tree key q row)) ∙ sym (ap (λ b. cond b (row_at (laid_at tree key row) q) None) (ap (λ k. owner table k == n) x.0 ∙ is)))
      (λ x. x.1 ∙ are q ∙ ap (λ o. cond (owner table q == n) o None) (sym (⊎_elim (λ z. absurd (x.0 z.0)) (λ z. z.1) (laid_cases tree key q row))))
      (laid_cases rows key q row)

  pub other_laid : (rows tree : Tree) (key : Key) (row : Option Inode) → (owner table key == n) ≡ false → AreOf rows tree → AreOf rows (laid_at tree key row)
  other_laid rows tree key row is are q = are q ∙ ⊎_elim
      (λ x. let off : (owner table q == n) ≡ false = ap (λ k. owner table k == n) x.0 ∙ is in
      ap (λ b. cond b (row_at tree q) None) off ∙ sym (ap (λ b. cond b (row_at (laid_at tree key row) q) None) off))
      (λ x. ap (λ o. cond (owner table q == n) o None) (sym x.1))
      (laid_cases tree key q row)

  -- a node's rows with its own updates made are those of the tree with all made
  pub laid_owned : (us : List Update) (rows tree : Tree) → AreOf rows tree → AreOf (laid (owned table n us) rows) (laid us tree)
  laid_owned [] rows tree are = are
  laid_owned (u ∷ us) rows tree are = ⊎_elim
      (λ x. λ q. ap (λ b. row_at (laid (cond b (u ∷ owned table n us) (owned table n us)) rows) q) x.0 ∙ laid_owned us (laid_at rows u.key u.row) (laid_at tree u.key u.row) (own_laid rows tree u.key u.row x.1 x.0 are) q)
      (λ x. λ q. ap (λ b. row_at (laid (cond b (u ∷ owned table n us) (owned table n us)) rows) q) x.0 ∙ laid_owned us rows (laid_at tree u.key u.row) (other_laid rows tree u.key u.row x.0 are) q)
      (tells (owner table u.key) n)

  -- none lives where no key does
  pub owned_none : (us : List Update) → ((key : Key) → owner table key ≢ n) → owned table n us ≡ []
  owned_none [] off = refl
  owned_none (u ∷ us) off = ap (λ b. cond b (u ∷ owned table n us) (owned table n us)) (unequal _ _ (off u.key)) ∙ owned_none us off

-- the keys of a node's own updates are keys of updates
one_or : (a b c : Bool) → (b ≡ true → c ≡ true) → (a || b) ≡ true → (a || c) ≡ true
one_or true b c more is = refl
one_or false b c more is = more is

pub owned_among : (table : Placement) (n : ℕ) (us : List Update) (key : Key) → is_among key (keys_of (owned table n us)) ≡ true → is_among key (keys_of us) ≡ true
owned_among table n [] key is = is
owned_among table n (u ∷ us) key is =
    elim (owner table u.key == n) as (λ b. is_among key (keys_of (if b then u ∷ owned table n us else owned table n us)) ≡ true → (same_key u.key key || is_among key (keys_of us)) ≡ true) [
      | true ↦ λ is. one_or (same_key u.key key) _ _ (owned_among table n us key) is
      | false ↦ λ is. or_second (same_key u.key key) _ (owned_among table n us key is)
    ] is
