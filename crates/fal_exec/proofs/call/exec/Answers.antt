use Rattle.std.proofs.Common.{subst, sym}
use Rattle.std.specs.Option.{option_copied}
use Rattle.fal_exec.specs.Executed.{IsExecutedInTrees}
use Rattle.fal_exec.proofs.InTrees.{in_trees}
use Rattle.fal_exec.proofs.call.exec.Goals as goal

pub returns-clause-in_trees : goal.returns-clause-in_trees
returns-clause-in_trees c =
    subst (IsExecutedInTrees (option_copied c.args.row) (option_copied c.args.parent) c.args.cred.now c.args.op.now c.args.fresh) (sym c.outcome.ensures)
    (in_trees (option_copied c.args.row) (option_copied c.args.parent) c.args.cred.now c.args.op.now c.args.fresh)
