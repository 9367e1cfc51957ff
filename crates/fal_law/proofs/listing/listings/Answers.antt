use Rattle.fal_story.proofs.Histories.RunLaws.{legal_listings}
use Rattle.fal_law.proofs.listing.listings.Goals as goal

pub returns : goal.returns
returns c = legal_listings c.args.book.now.told.config c.args.book.now.told.events c.legal.ensures
