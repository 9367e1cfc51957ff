use Rattle.std.proofs.Common.{sym}
use Rattle.fal_batch.specs.Plan.{is_idle}
use Rattle.fal_batch.proofs.Truth.{not_true}
use Rattle.fal_node.specs.Gather.{plan_at, gathered}
use Rattle.fal_node.proofs.Gathered.{gather_enabled}
use Rattle.fal_node.proofs.gather.draft_gather.Goals as goal

pub draft_of_plan-requires-clause-within : goal.draft_of_plan-requires-clause-within
draft_of_plan-requires-clause-within c =
    let n = c.args.node.now.state in
    let busy = not_true (is_idle (plan_at n)) (sym c.if-not-can_gather.ensures) in
    c.requires (gathered n (plan_at n)) (gather_enabled n busy)
