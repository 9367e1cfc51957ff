use Rattle.fal_story.proofs.Drain.SendCounts.{drained_sends, legal_sents}
use Rattle.fal_story.proofs.sending.sends_are_recorded.Goals as goal

pub returns-clause-recorded : goal.returns-clause-recorded
returns-clause-recorded c = legal_sents

pub returns-clause-drained : goal.returns-clause-drained
returns-clause-drained c = drained_sends
