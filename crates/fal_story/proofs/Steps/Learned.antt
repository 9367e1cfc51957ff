-- A replica has one more directory, which stands there and is not shut.
use Rattle.std.proofs.Common.{◌≡◌, ◌⊎◌, ℕ, ◌<◌}
use Rattle.fal_base.specs.declared.call.Config.{Config}
use Rattle.fal_base.specs.declared.inode.Dentry.{Dentry}
use Rattle.fal_base.specs.declared.key.Key.{Key}
use Rattle.fal_base.specs.Maps.{with_value}
use Rattle.fal_story.proofs.Families.Clear.{IsShut, clear_learned}
use Rattle.fal_story.proofs.Families.Ground.{ground_learned}
use Rattle.fal_story.proofs.Good.{Good}
use Rattle.fal_story.proofs.Trees.Standing.{HasDir}
use Rattle.fal_story.proofs.View.{View, now}
use Rattle.fal_story.specs.World.{put}

pub learned_good : (config : Config) (v : View) (n : ℕ) (key : Key) (dentry : Dentry) → (n ≡ 255) ⊎ (n < config.nodes) → HasDir (now v) key dentry → (IsShut (v.op.shut n) key → ⊥) → Good config v
    → Good config (record v { replica = put v.replica n (with_value (v.replica n) key dentry) })
learned_good config v n key dentry who is off g = record {
  ground = ground_learned g.ground n key dentry who is;
  clear = clear_learned g.clear n key dentry off;
  asking = g.asking;
  plans = g.plans;
  lanes = g.lanes;
  script = g.script;
  records = g.records;
  operation = g.operation;
  bars = g.bars;
  knowing = g.knowing;
  listings = g.listings;
}
