use Rattle.fal_story.proofs.Histories.Replays.{legal_is_replayed}
use Rattle.fal_law.proofs.replay.replayed.Goals as goal

pub returns : goal.returns
returns c = legal_is_replayed c.args.book.now.told.config c.args.book.now.told.events c.legal.ensures
