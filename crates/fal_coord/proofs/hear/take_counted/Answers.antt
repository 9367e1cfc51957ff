use Rattle.std.proofs.Common.{sym, ap, ◌∙◌}
use Rattle.fal_coord.specs.Patch.{SeenCoord, operation_at, counted_stage}
use Rattle.fal_coord.proofs.hear.take_counted.Goals as goal

pub count_heard-requires-clause-at : goal.count_heard-requires-clause-at
unfolding operation_at
count_heard-requires-clause-at c = ap operation_at (ap (λ (s : SeenCoord). s.state.stage) (sym c.coord.view_is) ∙ sym c.stage.ensures ∙ c.in-Count.is)

pub count_heard-requires-clause-stage : goal.count_heard-requires-clause-stage
unfolding counted_stage
count_heard-requires-clause-stage c =
    ap (counted_stage c.in_ok-missing-in-Count.missing c.in_ok-counts-in-Count.counts) (ap (λ (s : SeenCoord). s.state.stage) (sym c.coord.view_is) ∙ sym c.stage.ensures ∙ c.in-Count.is)
