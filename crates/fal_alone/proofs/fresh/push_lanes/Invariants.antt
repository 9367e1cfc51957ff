use Rattle.std.proofs.Common.{◌≡◌, ◌+◌, ◌++◌, ◌≤◌, length}
use Rattle.fal_alone.specs.Shown.{all_lane_events}
use Rattle.fal_alone.proofs.fresh.push_lanes.Given as goal

-- the events so far, and those of the other lanes, are all of them
abbrev pub invariant-loop-client : goal.invariant-loop-client
invariant-loop-client l = record {
  whole : l.events.items ++ all_lane_events l.lane l.left l.rest ≡ l.initial.events.items ++ all_lane_events 1 l.queues l.clients;
  few : l.lane + length l.rest ≤ 17;
}

abbrev pub decreases-loop-client : goal.decreases-loop-client
decreases-loop-client l = length l.rest
