use Rattle.std.proofs.Common.{◌≡◌, ◌≤◌, ◌+◌, length}
use Rattle.fal_base.specs.Tree.{IsInOrder}
use Rattle.fal_story.specs.AllRows.{with_tree}
use Rattle.fal_alone.proofs.Merging.{tree_of, with_both}
use Rattle.fal_alone.proofs.lines.merged.Given as goal

-- with the lines that are left of both, the rows so far are all
abbrev pub invariant-loop-key : goal.invariant-loop-key
invariant-loop-key l =
    record {
      rows : with_both l.merged.rows l.first.items l.second.items ≡ with_tree l.all.rows l.rows.rows;
      sorted : IsInOrder l.merged.rows;
      first : IsInOrder (tree_of l.first.items);
      second : IsInOrder (tree_of l.second.items);
      room : length l.first.items + length l.second.items ≤ l.merged.spare;
    }

abbrev pub decreases-loop-key : goal.decreases-loop-key
decreases-loop-key l = length l.first.items + length l.second.items
