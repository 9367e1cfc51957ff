-- A node that counts its rows under a directory tells of the tree.
use Rattle.std.proofs.Common.{◌≡◌, ◌≢◌, ℕ, zero, suc, ◌<◌, Bool, true, false, cond, [], length, Option, Some, None, IsSome, refl, sym, ap, ◌∙◌, subst, arith}
use Rattle.std.specs.Prelude.{◌==◌}
use Rattle.std.proofs.lemmas.Bool.{eq-eqb}
use Rattle.fal_base.specs.declared.call.Config.{Config}
use Rattle.fal_base.specs.declared.inode.Inode.{Inode}
use Rattle.fal_base.specs.declared.key.Key.{Key}
use Rattle.fal_base.specs.Tree.{row_at, names_under}
use Rattle.fal_base.specs.Updates.{laid}
use Rattle.fal_base.proofs.Entries.{nothing_under, row_of_name}
use Rattle.fal_place.specs.Placement.{owner}
use Rattle.fal_story.proofs.Families.Operation.{IsCounted}
use Rattle.fal_story.proofs.Good.{Good}
use Rattle.fal_story.proofs.Trees.Standing.{row_of}
use Rattle.fal_story.proofs.View.{View, now}

above_zero : (n : ℕ) → n ≢ 0 → 0 < n
above_zero zero some = absurd (some refl)
above_zero (suc n) some = omega arith

-- a row that the node has is one that it owns, and the tree's
own_row : (b : Bool) (held row : Option Inode) → held ≡ cond b row None → IsSome held → IsSome row
own_row true held row is some = subst IsSome is some
own_row false held row is some = let none = subst IsSome is some in absurd (cc)

pub counts_rows : (config : Config) (v : View) (n dir : ℕ) → v.op.due n ≡ [] → Good config v → IsCounted v.map.table (now v) n dir (length (names_under (v.rows n) dir))
counts_rows config v n dir none g =
    let held : (key : Key) → row_at (v.rows n) key ≡ row_of v.map.table (now v) n key = λ key. sym (ap (λ us. row_at (laid us (v.rows n)) key) none) ∙ g.ground.rows n key in (
      (λ zero_count key under own.
          let mine : row_at (v.rows n) key ≡ row_at (now v) key = held key ∙ ap (λ b. cond b (row_at (now v) key) None) (eq-eqb _ _ own) in
          sym mine ∙ elim (row_at (v.rows n) key) as (λ o. row_at (v.rows n) key ≡ o → o ≡ None) [
            | None ↦ λ _. refl
            | Some row ↦ λ there.
                absurd (nothing_under dir (v.rows n) zero_count key row there under)
          ] refl),
      (λ some. let x = row_of_name dir (v.rows n) (above_zero _ some) in (x.0, x.1, own_row (owner v.map.table x.0 == n) (row_at (v.rows n) x.0) (row_at (now v) x.0) (held x.0) x.2)),
    )
