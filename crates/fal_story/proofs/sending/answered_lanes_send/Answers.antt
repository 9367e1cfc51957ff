use Rattle.fal_story.proofs.Drain.SendCounts.{answered_sends}
use Rattle.fal_story.proofs.sending.answered_lanes_send.Goals as goal

pub returns : goal.returns
returns c = answered_sends
