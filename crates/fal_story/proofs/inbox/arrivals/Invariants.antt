use Rattle.std.proofs.Common.{◌≡◌, ◌+◌, take}
use Rattle.fal_story.specs.Arriving.{arrived_next}
use Rattle.fal_story.proofs.inbox.arrivals.Given as goal

abbrev pub invariant-loop-envelope : goal.invariant-loop-envelope
invariant-loop-envelope l = record {
  items : l.items.items ≡ arrived_next l.next l.actor l.from (take l.envelope-index l.news);
  number : l.number ≡ l.next + l.envelope-index;
}
