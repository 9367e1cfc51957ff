use Rattle.fal_story.specs.Lasting.{lasts}
use Rattle.fal_story.proofs.pushing.pushes_last.Goals as goal

pub returns : goal.returns
returns c = lasts
