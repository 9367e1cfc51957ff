-- One more at the end of a list of changes.
use Rattle.std.proofs.Common.{◌≡◌, List, [], ◌∷◌, ◌++◌, refl}
use Rattle.fal_base.specs.Tree.{Tree}
use Rattle.fal_run.specs.declared.change.RowChange.{RowChange}
use Rattle.fal_run.specs.Rows.{rows_after, rows_changed}

pub rows_changed-push : (rows : Tree) (cs : List RowChange) (c : RowChange) → rows_changed rows (cs ++ c ∷ []) ≡ rows_after (rows_changed rows cs) c.key c.change
rows_changed-push rows [] c = refl
rows_changed-push rows (x ∷ cs) c = rows_changed-push (rows_after rows x.key x.change) cs c
