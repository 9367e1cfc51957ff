use Rattle.fal_wire.proofs.ReadingLaws.{reading_spells, spelled_reads, no_prefix}
use Rattle.fal_wire.proofs.law.spelling_laws.Goals as goal

pub returns-clause-read : goal.returns-clause-read
returns-clause-read c = reading_spells

pub returns-clause-spelled : goal.returns-clause-spelled
returns-clause-spelled c = spelled_reads

pub returns-clause-alone : goal.returns-clause-alone
returns-clause-alone c = no_prefix
