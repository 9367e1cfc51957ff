use Rattle.std.proofs.Common.{◌-◌, ◌^◌, length}
use Rattle.fal_alone.proofs.Drains.{Drains}
use Rattle.fal_alone.proofs.cluster.Cluster.drain.Given as goal

-- each event so far was the first fresh one
abbrev pub invariant-loop-event : goal.invariant-loop-event
invariant-loop-event l = Drains l.initial.self l.self

abbrev pub decreases-loop-event : goal.decreases-loop-event
decreases-loop-event l = 2 ^ 64 - length l.self.events
