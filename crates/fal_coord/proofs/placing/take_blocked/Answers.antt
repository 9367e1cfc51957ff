use Rattle.std.proofs.Common.{sym, ap, subst, ◌∙◌}
use Rattle.std.specs.Prelude.{IsTrue}
use Rattle.fal_coord.specs.declared.stage.Stage.{Stage}
use Rattle.fal_coord.specs.Nodes.{is_missing, without_node}
use Rattle.fal_coord.specs.Patch.{SeenCoord, placing_call}
use Rattle.fal_coord.specs.Place.{is_placeable}
use Rattle.fal_coord.specs.Sound.{is_sound_stage}
use Rattle.fal_coord.specs.Walks.{placing_of}
use Rattle.fal_coord.proofs.Blocked.{blocked_within}
use Rattle.fal_coord.proofs.placing.take_blocked.Goals as goal

pub block_heard-requires-clause-placeable : goal.block_heard-requires-clause-placeable
unfolding is_sound_stage
block_heard-requires-clause-placeable c =
    let call = c.in-Block.call in
    subst (λ (s : SeenCoord). IsTrue (is_placeable s.state.table call (placing_of call.op))) c.coord.view_is
    (subst (λ (s : Stage). IsTrue (is_sound_stage c.coord.inside.table s)) (sym c.stage.ensures ∙ c.in-Block.is) c.coord.invariant.stage_suits)

pub block_heard-requires-clause-at : goal.block_heard-requires-clause-at
unfolding placing_call
block_heard-requires-clause-at c = ap placing_call (ap (λ (s : SeenCoord). s.state.stage) (sym c.coord.view_is) ∙ sym c.stage.ensures ∙ c.in-Block.is)

pub block_heard-requires-clause-within : goal.block_heard-requires-clause-within
block_heard-requires-clause-within c =
    blocked_within c.args.coord.now.state c.args.number c.args.node c.args.told c.in-Block.call c.in-Block.missing c.in-Block.rows c.in_ok-rows-in-Block.rows c.in_ok-missing-in-Block.missing
    (ap (λ (s : SeenCoord). s.state.stage) (sym c.coord.view_is) ∙ sym c.stage.ensures ∙ c.in-Block.is)
    (c.if-number-coord.true ∙ ap (λ (s : SeenCoord). s.state.operation) c.coord.view_is)
    (ap (is_missing c.args.node) (sym c.as_slice.ensures) ∙ sym c.is_missing.ensures ∙ c.if-is_missing.true)
    c.in_ok-rows-in-Block.ensures
    (c.in_ok-missing-in-Block.ensures ∙ ap (without_node c.args.node) c.as_slice-then-is_missing.ensures)
    c.requires
