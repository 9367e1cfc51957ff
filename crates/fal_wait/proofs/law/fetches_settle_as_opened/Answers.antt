use Rattle.fal_wait.proofs.Numbered.{pending_until_ended}
use Rattle.fal_wait.proofs.law.fetches_settle_as_opened.Goals as goal

pub returns : goal.returns
returns c = λ list h. pending_until_ended list h
