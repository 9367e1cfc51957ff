-- What is found under a key after changes of rows.
use Rattle.std.proofs.Common.{◌≡◌, Bool, true, false, not, cond, Option, None, refl, sym, ap, ◌∙◌}
use Rattle.std.specs.FinMap.Entries.{find-put, find-where_key}
use Rattle.fal_base.specs.declared.inode.Inode.{Inode}
use Rattle.fal_base.specs.declared.key.Key.{Key}
use Rattle.fal_base.specs.Tree.{Tree, key_cmp, row_at, same_key, without_row}
use Rattle.fal_base.proofs.Maps.{same_key_is}
use Rattle.fal_base.proofs.Order.{key_cmp_total, same_of_tied}
use Rattle.fal_exec.specs.declared.outcome.Change.{Change}
use Rattle.fal_exec.specs.declared.outcome.Change.TheVariants as change
use Rattle.fal_run.specs.declared.change.RowChange.{RowChange}
use Rattle.fal_run.specs.Rows.{rows_after, found_after, found_after_change}

kept_either : {X : Type 0} (b : Bool) (x : X) → x ≡ cond b x x
kept_either true x = refl
kept_either false x = refl

removed : (found : Option Inode) (key q : Key) → cond (not (same_key key q)) found None ≡ cond (same_key q key) None found
removed found key q =
    elim (same_key key q) as (λ b. same_key key q ≡ b → cond (not b) found None ≡ cond (same_key q key) None found) [
      | true ↦ λ same. ap (λ b. cond b None found) (sym ((same_key_is q key).1 (sym ((same_key_is key q).0 same))))
      | false ↦ λ other.
          elim (same_key q key) as (λ b. same_key q key ≡ b → found ≡ cond b None found) [
            | true ↦ λ same. let turned = (same_key_is key q).1 (sym ((same_key_is q key).0 same)) in absurd (cc)
            | false ↦ λ _. refl
          ] refl
    ] refl

found_removed : (rows : Tree) (key q : Key) → row_at (without_row rows key) q ≡ cond (same_key q key) None (row_at rows q)
found_removed rows key q =
    find-where_key key_cmp (λ other. not (same_key key other)) q (λ x tied. ap (λ k. not (same_key key k)) (sym (same_of_tied q x tied))) rows
    ∙ removed (row_at rows q) key q

found_changed : (rows : Tree) (key q : Key) (ch : Change) → row_at (rows_after rows key ch) q ≡ cond (same_key q key) (found_after_change (row_at rows q) ch) (row_at rows q)
found_changed rows key q change.Keep = kept_either (same_key q key) (row_at rows q)
found_changed rows key q (change.Put inode) = find-put key_cmp key_cmp_total q key inode rows
found_changed rows key q change.Remove = found_removed rows key q

-- what is found after a change is told by what was found before
pub row_at-rows_after : (rows : Tree) (q : Key) (c : RowChange) → row_at (rows_after rows c.key c.change) q ≡ found_after q (row_at rows q) c
row_at-rows_after rows q c = found_changed rows c.key q c.change
