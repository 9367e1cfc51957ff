use Rattle.std.proofs.Common.{◌-◌, length, take}
use Rattle.fal_story.specs.Fresh.{came}
use Rattle.fal_alone.specs.Queues.{HoldDue, HaveRoom}
use Rattle.fal_alone.proofs.queues.catch_up.Given as goal

abbrev pub invariant-loop-i : goal.invariant-loop-i
invariant-loop-i l = record {
  queues : HoldDue l.lanes (came l.book.told.events) (take l.i l.sent) l.queues;
  room : HaveRoom (length l.sent - l.i) l.queues;
}
