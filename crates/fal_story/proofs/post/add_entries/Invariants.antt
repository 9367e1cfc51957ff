use Rattle.std.proofs.Common.{◌≡◌, ◌≤◌, ◌+◌, ◌++◌, length}
use Rattle.std.specs.Prelude.{vec_len, vec_capacity}
use Rattle.fal_story.specs.World.{entries_of}
use Rattle.fal_story.proofs.post.add_entries.Given as goal

abbrev pub invariant-loop-note : goal.invariant-loop-note
invariant-loop-note l = record {
  items : l.entries.items ≡ l.fn.entries.items ++ entries_of l.commits l.yielded;
  room : vec_len l.entries + length l.fn.notes ≤ vec_capacity l.entries + length l.yielded;
}
