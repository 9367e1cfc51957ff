use Rattle.fal_client.proofs.Reading.{records_read}
use Rattle.fal_client.proofs.law.records_are_read.Goals as goal

pub returns : goal.returns
returns c = records_read
