use Rattle.fal_story.proofs.Histories.RunLaws.{legal_each_once, legal_linear, legal_listings}
use Rattle.fal_story.specs.Run.{transcript}
use Rattle.fal_law.proofs.Histories.{legal_history}
use Rattle.fal_law.proofs.points.linear.Goals as goal

pub returns-clause-linear : goal.returns-clause-linear
returns-clause-linear c = legal_linear c.args.book.now.told.config c.args.book.now.told.events c.legal.ensures

pub returns-clause-history : goal.returns-clause-history
returns-clause-history c =
    let config = c.args.book.now.told.config in
    let events = c.args.book.now.told.events in
    legal_history config (transcript config events) (legal_each_once config events c.legal.ensures) (legal_linear config events c.legal.ensures) (legal_listings config events c.legal.ensures)
