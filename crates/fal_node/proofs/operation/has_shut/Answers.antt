use Rattle.std.proofs.Common.{ap, sym, ◌∙◌}
use Rattle.fal_node.proofs.Shutting.{is_that, is_of_op}
use Rattle.fal_node.proofs.operation.has_shut.Goals as goal

pub returns-in-None : goal.returns-in-None
returns-in-None c = ap (λ o. is_that o c.args.operation) (sym c.in-None.is) ∙ ap (λ o. is_that o c.args.operation) c.shut_op.ensures ∙ is_of_op c.args.locks.now.table.shut c.args.operation

pub returns-in-Some : goal.returns-in-Some
returns-in-Some c = ap (λ o. is_that o c.args.operation) (sym c.in-Some.is) ∙ ap (λ o. is_that o c.args.operation) c.shut_op.ensures ∙ is_of_op c.args.locks.now.table.shut c.args.operation
