use Rattle.std.proofs.Common.{refl, ap, ◌∙◌}
use Rattle.fal_coord.specs.Nodes.{numbers_below}
use Rattle.fal_coord.specs.Patch.{SeenCoord}
use Rattle.fal_coord.proofs.Deciding.{decided_draft}
use Rattle.fal_coord.proofs.decide.decide.Goals as goal

pub returns : goal.returns
returns c =
    decided_draft c.args.coord.now.state c.args.operation.now c.args.updates c.args.notes.items c.args.answer c.in_ok-missing.missing _
    c.requires
    (c.in_ok-missing.ensures ∙ ap numbers_below (c.nodes.ensures ∙ ap (λ (s : SeenCoord). s.state.table.nodes) c.coord.view_is))
    refl c.in_ok-letters.ensures refl
