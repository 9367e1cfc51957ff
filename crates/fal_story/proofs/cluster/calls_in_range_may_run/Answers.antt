use Rattle.fal_story.proofs.Ranges.Fitting.{call_in_range}
use Rattle.fal_story.proofs.cluster.calls_in_range_may_run.Goals as goal

pub returns : goal.returns
returns c = call_in_range
