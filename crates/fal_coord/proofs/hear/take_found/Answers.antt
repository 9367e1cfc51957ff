use Rattle.std.proofs.Common.{sym, ap, subst, ◌∙◌}
use Rattle.std.specs.Prelude.{IsTrue}
use Rattle.fal_coord.specs.declared.stage.Stage.{Stage}
use Rattle.fal_coord.specs.Patch.{SeenCoord, walked_call}
use Rattle.fal_coord.specs.Sound.{is_sound_stage}
use Rattle.fal_coord.proofs.hear.take_found.Goals as goal

pub take_awaited-requires-clause-walked : goal.take_awaited-requires-clause-walked
unfolding is_sound_stage
take_awaited-requires-clause-walked c = subst (λ (s : Stage). IsTrue (is_sound_stage c.coord.inside.table s)) (sym c.stage.ensures ∙ c.in-Walk.is) c.coord.invariant.stage_suits

pub take_awaited-requires-clause-at : goal.take_awaited-requires-clause-at
unfolding walked_call
take_awaited-requires-clause-at c = ap walked_call (ap (λ (s : SeenCoord). s.state.stage) (sym c.coord.view_is) ∙ sym c.stage.ensures ∙ c.in-Walk.is)
