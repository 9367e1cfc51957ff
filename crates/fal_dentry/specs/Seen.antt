-- What a walk that was answered is seen as.
use Rattle.fal_dentry.specs.declared.walk.Walk.{Walk}
use Rattle.fal_dentry.specs.declared.walk.Walk.TheVariants as answered
use Rattle.fal_dentry.specs.Walk.{ReplicaWalk, Shut, Missing, Stop, Ready}

abbrev pub walk_seen : Walk → ReplicaWalk
walk_seen (answered.Shut key) = Shut key
walk_seen (answered.Missing key keys) = Missing key keys.items
walk_seen (answered.Stop errno keys) = Stop errno keys.items
walk_seen (answered.Ready parent inos keys) = Ready parent inos.items keys.items
