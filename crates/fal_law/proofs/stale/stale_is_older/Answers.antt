use Rattle.fal_story.proofs.Histories.RunLaws.{legal_older}
use Rattle.fal_law.proofs.stale.stale_is_older.Goals as goal

pub returns : goal.returns
returns c = legal_older c.args.book.now.told.config c.args.book.now.told.events c.legal.ensures
