use Rattle.fal_script.proofs.InRange.{script_in_range}
use Rattle.fal_script.proofs.law.scripts_are_in_range.Goals as goal

pub returns : goal.returns
returns c = script_in_range
