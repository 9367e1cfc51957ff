use Rattle.std.proofs.Common.{sym, ap, ◌∙◌}
use Rattle.fal_coord.specs.Nodes.{is_missing, without_node}
use Rattle.fal_coord.specs.Patch.{SeenCoord}
use Rattle.fal_coord.proofs.Blocked.{installed_draft}
use Rattle.fal_coord.proofs.placing.take_installed.Goals as goal

pub returns-else-is_empty : goal.returns-else-is_empty
returns-else-is_empty c =
    let draft = c.quiet_draft-else-is_empty in
    installed_draft c.args.coord.now.state c.args.number c.args.node c.in-Install.call c.in-Install.missing c.in_ok-left-in-Install.left draft.result
    (ap (λ (s : SeenCoord). s.state.stage) (sym c.coord.view_is) ∙ sym c.stage.ensures ∙ c.in-Install.is)
    (c.if-number-coord.true ∙ ap (λ (s : SeenCoord). s.state.operation) c.coord.view_is)
    (ap (is_missing c.args.node) (sym c.as_slice.ensures) ∙ sym c.is_missing.ensures ∙ c.if-is_missing.true)
    (c.in_ok-left-in-Install.ensures ∙ ap (without_node c.args.node) c.as_slice-then-is_missing.ensures)
    (sym c.is_empty.ensures ∙ c.if-is_empty.false)
    draft.ensures.patch draft.ensures.letters draft.ensures.notes
