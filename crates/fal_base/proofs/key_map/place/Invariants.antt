use Rattle.std.proofs.Common.{◌-◌, ◌≤◌, length}
use Rattle.fal_base.specs.Tree.{key_of}
use Rattle.fal_base.specs.Maps.{place_of}
use Rattle.fal_base.proofs.key_map.place.Given as goal

-- the place lies between the two bounds
abbrev pub invariant-loop-from : goal.invariant-loop-from
invariant-loop-from g l =
    record {
      low : l.from ≤ place_of (key_of l.parent l.name) l.entries;
      high : place_of (key_of l.parent l.name) l.entries ≤ l.to;
      within : l.to ≤ length l.entries;
    }

abbrev pub decreases-loop-from : goal.decreases-loop-from
decreases-loop-from g l = l.to - l.from
