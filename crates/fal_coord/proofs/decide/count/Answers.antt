use Rattle.std.proofs.Common.{ap, ◌∙◌, Vec, Global}
use Rattle.fal_wire.specs.declared.letter.Letter.{Letter}
use Rattle.fal_coord.specs.Nodes.{numbers_below}
use Rattle.fal_coord.specs.Patch.{SeenCoord}
use Rattle.fal_coord.proofs.Deciding.{counting_draft}
use Rattle.fal_coord.proofs.decide.count.Goals as goal

pub returns : goal.returns
returns c =
    counting_draft c.args.coord.now.state c.args.operation.now c.args.rows c.args.dir c.args.updates c.in_ok-missing.missing c.draft_of.result
    c.requires
    (c.in_ok-missing.ensures ∙ ap numbers_below (c.nodes-nodes.ensures ∙ ap (λ (s : SeenCoord). s.state.table.nodes) c.coord.view_is))
    c.draft_of.ensures.patch
    (ap (λ (v : Vec Letter Global). v.items) c.draft_of.ensures.letters ∙ c.in_ok-letters.ensures)
    c.draft_of.ensures.notes
