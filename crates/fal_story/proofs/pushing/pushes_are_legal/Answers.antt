use Rattle.fal_story.proofs.Histories.Pushed.{sound_is_legal, pushed_is_next, legal_sent, legal_commits}
use Rattle.fal_story.proofs.pushing.pushes_are_legal.Goals as goal

pub returns-clause-runs : goal.returns-clause-runs
returns-clause-runs c = sound_is_legal

pub returns-clause-next : goal.returns-clause-next
returns-clause-next c = pushed_is_next

pub returns-clause-sent : goal.returns-clause-sent
returns-clause-sent c = legal_sent

pub returns-clause-commits : goal.returns-clause-commits
returns-clause-commits c = legal_commits
