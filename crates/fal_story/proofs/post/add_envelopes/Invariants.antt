use Rattle.std.proofs.Common.{◌≡◌, ◌≤◌, ◌+◌, ◌++◌, length}
use Rattle.std.specs.Prelude.{vec_len, vec_capacity}
use Rattle.fal_story.specs.World.{envelopes_of}
use Rattle.fal_story.proofs.post.add_envelopes.Given as goal

abbrev pub invariant-loop-output : goal.invariant-loop-output
invariant-loop-output l = record {
  items : l.sent.items ≡ l.fn.sent.items ++ envelopes_of l.from l.event l.commits l.yielded;
  room : vec_len l.sent + length l.fn.outputs ≤ vec_capacity l.sent + length l.yielded;
}
