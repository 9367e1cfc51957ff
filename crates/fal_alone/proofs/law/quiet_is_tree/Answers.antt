use Rattle.std.proofs.Common.{subst}
use Rattle.fal_story.specs.Run.{IsLegal}
use Rattle.fal_story.specs.Told.{Told}
use Rattle.fal_alone.proofs.NodeRows.{quiet_once, quiet_rows}
use Rattle.fal_alone.proofs.law.quiet_is_tree.Goals as goal

pub returns-clause-once : goal.returns-clause-once
returns-clause-once c = quiet_once c.args.cluster.now (subst (λ (told : Told). IsLegal told.config told.events) c.cluster.view_is c.legal.ensures)

pub returns-clause-tree : goal.returns-clause-tree
returns-clause-tree c = quiet_rows c.args.cluster.now (subst (λ (told : Told). IsLegal told.config told.events) c.cluster.view_is c.legal.ensures)
