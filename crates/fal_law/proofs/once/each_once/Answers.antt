use Rattle.fal_story.proofs.Drain.OneByOne.{legal_one_by_one}
use Rattle.fal_story.proofs.Histories.RunLaws.{legal_each_once}
use Rattle.fal_law.proofs.once.each_once.Goals as goal

pub returns-clause-each : goal.returns-clause-each
returns-clause-each c = legal_each_once c.args.book.now.told.config c.args.book.now.told.events c.legal.ensures

pub returns-clause-one_by_one : goal.returns-clause-one_by_one
returns-clause-one_by_one c = legal_one_by_one c.args.book.now.told.config c.args.book.now.told.events c.legal.ensures
