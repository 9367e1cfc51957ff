use Rattle.std.proofs.Common.{[], ◌∷◌, refl, ap, ◌∙◌}
use Rattle.fal_base.specs.declared.event.Note.TheVariants.{Placed}
use Rattle.fal_coord.specs.Nodes.{numbers_below}
use Rattle.fal_coord.proofs.Blocked.{placed_draft}
use Rattle.fal_coord.proofs.placing.place_by.Goals as goal

pub returns : goal.returns
returns c =
    let call = c.args.call.now in
    placed_draft c.args.coord.now.state call (record { name = c.args.name.now; rule = c.args.rule }) c.args.rows.now c.args.table c.in_ok-missing.missing _
    c.requires.at c.requires.table
    (c.in_ok-missing.ensures ∙ ap numbers_below c.nodes.ensures)
    refl c.in_ok-letters.ensures
    (c.in_ok-notes.ensures ∙ ap (λ version. Placed call.id.client call.id.seq version ∷ []) c.version.ensures)
