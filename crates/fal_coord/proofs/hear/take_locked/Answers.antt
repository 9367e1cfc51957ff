use Rattle.std.proofs.Common.{sym, ap, subst, ◌∙◌}
use Rattle.std.specs.Prelude.{IsTrue}
use Rattle.fal_coord.specs.declared.stage.Stage.{Stage}
use Rattle.fal_coord.specs.Patch.{SeenCoord, operation_at}
use Rattle.fal_coord.specs.Sound.{is_sound_stage}
use Rattle.fal_coord.proofs.hear.take_locked.Goals as goal

pub lock_heard-requires-clause-decidable : goal.lock_heard-requires-clause-decidable
unfolding is_sound_stage
lock_heard-requires-clause-decidable c = subst (λ (s : Stage). IsTrue (is_sound_stage c.coord.inside.table s)) (sym c.stage.ensures ∙ c.in-Lock.is) c.coord.invariant.stage_suits

pub lock_heard-requires-clause-at : goal.lock_heard-requires-clause-at
unfolding operation_at
lock_heard-requires-clause-at c = ap operation_at (ap (λ (s : SeenCoord). s.state.stage) (sym c.coord.view_is) ∙ sym c.stage.ensures ∙ c.in-Lock.is)
