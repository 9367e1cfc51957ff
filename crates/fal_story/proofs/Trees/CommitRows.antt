-- A row of the tree that changes, and the number that its commit is noted with.
use Rattle.std.proofs.Common.{◌≡◌, ◌≢◌, ◌⊎◌, ⊎_elim, ℕ, true, false, Option, Some, None, refl, ap}
use Rattle.std.specs.Prelude.{if◌then◌else◌}
use Rattle.fal_base.specs.declared.call.Cred.{Cred}
use Rattle.fal_base.specs.declared.inode.Inode.{Inode}
use Rattle.fal_base.specs.declared.key.Key.{Key}
use Rattle.fal_base.specs.declared.op.Op.{Op}
use Rattle.fal_base.specs.declared.op.Op.TheVariants as op
use Rattle.fal_base.specs.Change.{change}
use Rattle.fal_base.specs.Tree.{Tree, row_at}
use Rattle.fal_base.proofs.Maps.{put_cases, removed_cases}
use Rattle.fal_exec.specs.declared.outcome.Change.{Change}
use Rattle.fal_exec.specs.declared.outcome.Change.TheVariants as row
use Rattle.fal_exec.specs.Executed.{is_directory}
use Rattle.fal_run.specs.Calls.{is_making, noted_number}
use Rattle.fal_run.specs.Rows.{rows_after}

-- what stands under the key of the row
abbrev pub row_left : Change → Option Inode
row_left row.Keep = None
row_left (row.Put inode) = Some inode
row_left row.Remove = None

-- under the key stands what was put there, if anything, and under each other one what stood there
changed_cases : (t : Tree) (key q : Key) (ch : Change) → ch ≢ row.Keep
    → ((q ≡ key) × (row_at (rows_after t key ch) q ≡ row_left ch)) ⊎ ((q ≢ key) × (row_at (rows_after t key ch) q ≡ row_at t q))
changed_cases t key q row.Keep changes = absurd (changes refl)
changed_cases t key q (row.Put inode) changes = put_cases q key inode t
changed_cases t key q row.Remove changes = removed_cases q key t

-- the trees differ under this key alone, and the first has no directory there
pub record IsChangedAt (t u : Tree) (key : Key) : Type 0 where
  pub others : (q : Key) → q ≢ key → row_at u q ≡ row_at t q
  pub no_dir : is_directory (row_at t key) ≡ false

pub changed_at : (t : Tree) (key : Key) (ch : Change) → ch ≢ row.Keep → is_directory (row_at t key) ≡ false → IsChangedAt t (rows_after t key ch) key
changed_at t key ch changes none = record {
  others = λ q apart. ⊎_elim (λ y. absurd (apart y.0)) (λ y. y.1) (changed_cases t key q ch changes);
  no_dir = none;
}

-- ---- the number that a commit is noted with

-- the tree changes as with the number drawn
pub change_noted : (tree : Tree) (cred : Cred) (call : Op) (fresh : ℕ) → change tree cred call (noted_number call fresh) ≡ change tree cred call fresh
change_noted tree cred (op.Mkdir path mode) fresh = refl
change_noted tree cred other fresh = refl

pub noted_made : (call : Op) (fresh : ℕ) → is_making call ≡ true → noted_number call fresh ≡ fresh
noted_made call fresh is = ap (λ b. if b then fresh else 0) is

pub noted_none : (call : Op) (fresh : ℕ) → is_making call ≡ false → noted_number call fresh ≡ 0
noted_none call fresh is = ap (λ b. if b then fresh else 0) is
