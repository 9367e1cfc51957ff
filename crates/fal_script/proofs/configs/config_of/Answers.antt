use Rattle.fal_script.proofs.Lanes.{next_lane}
use Rattle.fal_script.proofs.configs.config_of.Goals as goal

pub loop-place-preserved : goal.loop-place-preserved
loop-place-preserved c = next_lane c.args.script.now.lines c.as_slice.result.now c.loop-place.place c.loop-place.lanes c.push.new.self c.in_ok-lane_calls.field-0 c.as_slice.ensures c.loop-place.invariant c.in_ok-lane_calls.ensures c.in_ok-push.ensures.ok
