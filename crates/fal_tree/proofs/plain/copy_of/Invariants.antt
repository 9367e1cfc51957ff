use Rattle.std.proofs.Common.{◌≡◌, ◌≤◌, ◌++◌, length}
use Rattle.fal_base.specs.Tree.{IsInOrder}
use Rattle.fal_tree.proofs.plain.copy_of.Given as goal

-- the entries so far are copied, and there is room for the rest
abbrev pub invariant-loop-first : goal.invariant-loop-first
invariant-loop-first l =
    record {
      copied : l.copied.entries ++ l.rest ≡ l.rows.entries;
      room : length l.rest ≤ l.copied.spare;
      order : IsInOrder l.rows.entries;
    }

abbrev pub decreases-loop-first : goal.decreases-loop-first
decreases-loop-first l = length l.rest
