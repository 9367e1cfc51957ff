use Rattle.std.proofs.Common.{subst}
use Rattle.fal_node.specs.Step.{node_step}
use Rattle.fal_node.specs.Ready.{DoesOf}
use Rattle.fal_node.proofs.Drafts.{letters_fit}
use Rattle.fal_node.proofs.node.Node.ready.Goals as goal

pub prepare-requires : goal.prepare-requires
prepare-requires c =
    let node = c.args.self.now.state in
    let work = node_step node c.args.event.now in
    letters_fit node work c.in-Ok-Some.draft (subst (λ draft. DoesOf node work draft) c.in-Ok-Some.field-0-is c.in-Ok-Some.ensures.does) c.requires
