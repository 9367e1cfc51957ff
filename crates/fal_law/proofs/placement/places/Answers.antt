use Rattle.fal_story.proofs.Histories.RunLaws.{legal_places}
use Rattle.fal_law.proofs.placement.places.Goals as goal

pub returns : goal.returns
returns c = legal_places c.args.book.now.told.config c.args.book.now.told.events c.legal.ensures
