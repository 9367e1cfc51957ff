use Rattle.falcon_run.proofs.Owed.{told}
use Rattle.falcon_run.proofs.reading.read_script.Goals as goal

pub returns-clause-owed : goal.returns-clause-owed
returns-clause-owed g c bytes tells calm = told bytes _ _ _ _ c.read_bytes.result tells c.read_bytes.ensures.gives calm
