use Rattle.std.proofs.Common.{◌≡◌, ◌≤◌, ℕ, List, length, drop}
use Rattle.fal_place.specs.Starts.{start_of, first_of}
use Rattle.fal_place.proofs.starts.first_places.Given as goal

-- each name's rules from its place on are those from here on
abbrev pub invariant-loop-place : goal.invariant-loop-place
invariant-loop-place l =
    record {
      slots : length l.starts.items ≡ 1024;
      inside : l.place ≤ length l.rules;
      there : (name : List ℕ) → start_of l.starts.items name ≤ length l.rules;
      first : (name : List ℕ) → first_of name (drop (start_of l.starts.items name) l.rules) ≡ first_of name (drop l.place l.rules);
    }

abbrev pub decreases-loop-place : goal.decreases-loop-place
decreases-loop-place l = l.place
