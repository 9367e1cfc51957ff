-- The invariant: eleven families, each over components of the view.
use Rattle.fal_base.specs.declared.call.Config.{Config}
use Rattle.fal_story.proofs.Families.Asking.{Askings}
use Rattle.fal_story.proofs.Families.Bars.{Bars}
use Rattle.fal_story.proofs.Families.Clear.{Clear}
use Rattle.fal_story.proofs.Families.Ground.{Ground}
use Rattle.fal_story.proofs.Families.Knowing.{Knowing}
use Rattle.fal_story.proofs.Families.Lanes.{Lanes}
use Rattle.fal_story.proofs.Families.Listings.{Listings}
use Rattle.fal_story.proofs.Families.Operation.{Operation}
use Rattle.fal_story.proofs.Families.Plans.{Planning}
use Rattle.fal_story.proofs.Families.Records.{Records}
use Rattle.fal_story.proofs.Families.Script.{Script}
use Rattle.fal_story.proofs.View.{View}

pub record Good (config : Config) (v : View) : Type 0 where
  pub ground : Ground config.nodes v.map.table v.rows v.op.due v.replica v.fetches v.commits
  pub clear : Clear v.op.shut v.replica v.fetches v.op.crossed v.phase
  pub asking : Askings config.nodes v.map.table v.fetches v.opened v.posts v.commits v.call v.since v.phase v.op.crossed
  pub plans : Planning config.nodes v.map.table v.commits v.call v.phase v.op.crossed
  pub lanes : Lanes config.nodes v.map.table v.commits v.seq v.call v.since v.phase
  pub script : Script config v.entries v.commits v.map.placings v.map.known v.seq v.call v.since v.phase v.drawn
  pub records : Records v.posts v.taken v.seq v.call v.phase
  pub operation : Operation config.nodes v.map.table v.op.shut v.op.queued v.op.last v.op.due v.op.operation v.op.work v.op.starts (v.fetches 255) v.posts v.commits v.seq v.call v.phase
  pub bars : Bars config.nodes v.map.table v.map.tables v.map.barred v.rows v.op.due v.op.queued v.op.last v.op.operation v.op.work v.posts v.commits v.phase
  pub knowing : Knowing config.nodes v.map.table v.map.placings v.map.known v.posts v.seq v.call v.phase
  pub listings : Listings config v.map.known v.posts v.entries v.commits v.seq v.call v.since v.phase
