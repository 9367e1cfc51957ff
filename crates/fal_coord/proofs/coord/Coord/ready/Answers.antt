use Rattle.std.proofs.Common.{subst}
use Rattle.fal_coord.specs.Step.{coord_step}
use Rattle.fal_coord.specs.Ready.{DoesOf}
use Rattle.fal_coord.proofs.Drafts.{letters_fit}
use Rattle.fal_coord.proofs.coord.Coord.ready.Goals as goal

pub prepare-requires : goal.prepare-requires
prepare-requires c =
    let coord = c.args.self.now.state in
    let work = coord_step coord c.args.event.now in
    letters_fit coord work c.in-Ok-Some.draft (subst (λ draft. DoesOf coord work draft) c.in-Ok-Some.field-0-is c.in-Ok-Some.ensures.does) c.requires
