use Rattle.std.proofs.Common.{◌≡◌, ◌≤◌, length}
use Rattle.fal_inode.specs.Named.{without_named}
use Rattle.fal_inode.proofs.rows.Rows.drop_named.Given as goal

-- the rows of other names are there still
abbrev pub invariant-loop-parent : goal.invariant-loop-parent
invariant-loop-parent l = record {
  rows : without_named l.self-inside.map.entries l.key.name ≡ without_named l.initial.self-inside.map.entries l.initial.key.name;
  name : l.key.name ≡ l.initial.key.name;
  room : l.initial.self-inside.map.spare ≤ l.self-inside.map.spare;
}

abbrev pub decreases-loop-parent : goal.decreases-loop-parent
decreases-loop-parent l = length l.self-inside.map.entries
