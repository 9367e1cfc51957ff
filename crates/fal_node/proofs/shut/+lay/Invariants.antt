use Rattle.std.proofs.Common.{vec_len}
use Rattle.fal_node.proofs.shut.+lay.Given as goal

abbrev pub decreases-lay : goal.decreases-lay
decreases-lay l = vec_len l.updates
