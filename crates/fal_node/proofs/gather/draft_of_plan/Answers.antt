use Rattle.std.proofs.Common.{sym, ap, ◌∙◌, subst}
use Rattle.fal_node.specs.Gather.{setting_at, plan_at}
use Rattle.fal_node.specs.Ready.{CanOpen}
use Rattle.fal_run.specs.Calls.{are_row_calls}
use Rattle.fal_node.proofs.Gathered.{row_batch_calls}
use Rattle.fal_node.proofs.Opens.{can_open_plan}
use Rattle.fal_node.proofs.gather.draft_of_plan.Goals as goal

pub returns-clause-patch : goal.returns-clause-patch
unfolding plan_at
returns-clause-patch c =
    let n = c.args.node.now.state in
    let list = c.node.inside.waiting.list in (
      subst (λ fetches. CanOpen n.waiting fetches) (sym (ap (λ p. p.fetches) c.requires.plan)) (can_open_plan (setting_at n) n.waiting c.requires.numbered),
      c.requires.open,
      ap are_row_calls c.in_ok-calls.ensures ∙ row_batch_calls list c.args.plan.calls.items c.node.invariant.calls_waiting,
    )
