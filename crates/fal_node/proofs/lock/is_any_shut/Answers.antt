use Rattle.std.proofs.Common.{is_some, ap, ◌∙◌}
use Rattle.fal_node.proofs.Shutting.{some_shut}
use Rattle.fal_node.proofs.lock.is_any_shut.Goals as goal

pub returns : goal.returns
returns c = c.is_some.ensures ∙ ap is_some c.shut_op.ensures ∙ some_shut c.args.locks.now.table.shut
