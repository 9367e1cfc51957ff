use Rattle.fal_coord.proofs.Reading.{records_read}
use Rattle.fal_coord.proofs.law.records_are_read.Goals as goal

pub returns : goal.returns
returns c = records_read
