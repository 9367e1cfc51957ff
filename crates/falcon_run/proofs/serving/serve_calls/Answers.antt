use Rattle.std.proofs.Common.{get_or, refl, ◌∙◌}
use Rattle.std.proofs.lemmas.Option.{slice_get-get_or}
use Rattle.falcon_run.proofs.OpeningServed.{none_served}
use Rattle.falcon_run.proofs.ServedLines.{call_left, call_served}
use Rattle.falcon_run.proofs.serving.serve_calls.Goals as goal

pub loop-lane-init : goal.loop-lane-init
loop-lane-init c = record { config = refl; served = none_served c.args.cluster.now.config c.args.cluster.now.events c.requires.none }

pub serve_call-requires-clause-left : goal.serve_call-requires-clause-left
serve_call-requires-clause-left c =
    call_left c.loop-lane.cluster.config c.args.cluster.now.config c.args.lanes.now c.loop-lane.lane-index (get_or c.args.lanes.now c.loop-lane.lane-index 0) c.loop-lane.cluster.events c.loop-lane.invariant.config c.requires.calls
    c.loop-lane.invariant.served (slice_get-get_or c.args.lanes.now c.loop-lane.lane-index 0 c.loop-lane-test.true)

pub loop-lane-preserved : goal.loop-lane-preserved
loop-lane-preserved c =
    let call = c.in_ok-serve_call.ensures in
    let served =
    call_served c.loop-lane.cluster.config c.serve_call.new.cluster.config c.args.lanes.now c.loop-lane.lane-index (get_or c.args.lanes.now c.loop-lane.lane-index 0) c.loop-lane.cluster.events c.serve_call.new.cluster.events
    c.serve_call.ensures.config c.loop-lane-test.true (slice_get-get_or c.args.lanes.now c.loop-lane.lane-index 0 c.loop-lane-test.true) c.loop-lane.invariant.served call.served call.sent call.quiet call.answered in
    record { config = c.serve_call.ensures.config ∙ c.loop-lane.invariant.config; served = served }
