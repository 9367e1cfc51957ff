-- A record is sent.
use Rattle.std.proofs.Common.{ℕ, [], ◌∷◌, ◌++◌}
use Rattle.fal_base.specs.declared.call.Config.{Config}
use Rattle.fal_base.specs.declared.event.Actor.{Actor}
use Rattle.fal_wire.specs.declared.message.Message.{Message}
use Rattle.fal_story.proofs.Families.Asking.{FineAsking, asking_posted}
use Rattle.fal_story.proofs.Families.Barring.{bars_posted}
use Rattle.fal_story.proofs.Families.Bars.{IsToldBar}
use Rattle.fal_story.proofs.Families.Knowing.{FineKnowing, knowing_posted}
use Rattle.fal_story.proofs.Families.Listings.{FineListings, listings_posted}
use Rattle.fal_story.proofs.Families.Operation.{IsTold}
use Rattle.fal_story.proofs.Families.OperationCalls.{operation_posted}
use Rattle.fal_story.proofs.Families.Records.{FineRecords, records_posted}
use Rattle.fal_story.proofs.Good.{Good}
use Rattle.fal_story.proofs.View.{post, View, now}

-- what has to hold of it, by family
pub record IsFine (config : Config) (v : View) (to : Actor) (p : ℕ) (m : Message) : Type 0 where
  pub asking : FineAsking config.nodes v.map.table v.fetches v.opened v.commits to p m
  pub records : FineRecords v.taken v.seq v.call v.phase to p m
  pub bars : IsToldBar config.nodes v.map.table v.op.operation v.op.work v.map.barred v.op.due v.op.last to m
  pub knowing : FineKnowing config.nodes v.map.placings v.map.known v.seq v.call v.phase to m
  pub listings : FineListings v.map.known v.commits v.seq v.call v.phase to p m
  pub operation : IsTold config.nodes v.map.table (now v) v.op.operation v.op.work v.op.shut v.op.last to m

pub posted_good : (config : Config) (v : View) (to : Actor) (p : ℕ) (m : Message) → IsFine config v to p m → Good config v → Good config (record v { posts = v.posts ++ post to p m ∷ [] })
posted_good config v to p m fine g = record {
  ground = g.ground;
  clear = g.clear;
  asking = asking_posted g.asking to p m fine.asking;
  plans = g.plans;
  lanes = g.lanes;
  script = g.script;
  records = records_posted g.records to p m fine.records;
  operation = operation_posted g.operation to p m fine.operation;
  bars = bars_posted g.bars to p m fine.bars;
  knowing = knowing_posted g.knowing to p m fine.knowing;
  listings = listings_posted g.listings to p m fine.listings;
}
