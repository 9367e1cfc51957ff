use Rattle.fal_base.proofs.WellFormed.{well_formed}
use Rattle.fal_base.proofs.law.trees_are_well_formed.Goals as goal

pub returns : goal.returns
returns c = well_formed
