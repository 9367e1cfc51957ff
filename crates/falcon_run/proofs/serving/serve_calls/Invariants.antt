use Rattle.std.proofs.Common.{◌≡◌, take}
use Rattle.falcon_run.specs.Serving.{AreServed}
use Rattle.falcon_run.proofs.serving.serve_calls.Given as goal

abbrev pub invariant-loop-lane : goal.invariant-loop-lane
invariant-loop-lane l = record { config : l.cluster.config ≡ l.fn.cluster.config; served : AreServed l.cluster.config (take l.lane-index l.lanes) l.cluster.events }
