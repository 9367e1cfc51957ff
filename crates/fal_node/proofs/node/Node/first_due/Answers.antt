use Rattle.std.proofs.Common.{sym, ap}
use Rattle.std.specs.List.{slice_get}
use Rattle.fal_node.proofs.Dues.{none_due}
use Rattle.fal_node.proofs.node.Node.first_due.Goals as goal

pub returns-then-quiet : goal.returns-then-quiet
returns-then-quiet c =
    let n = c.args.self.now.state in
    ap (λ events. slice_get events 0) (sym (none_due n (sym c.if-quiet.ensures)))
