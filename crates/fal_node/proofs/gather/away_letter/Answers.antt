use Rattle.std.proofs.Common.{subst}
use Rattle.fal_wire.specs.Messages.{Fits}
use Rattle.fal_node.specs.Gather.{away_letter}
use Rattle.fal_node.proofs.Gathered.{away_hop}
use Rattle.fal_node.proofs.gather.away_letter.Goals as goal

pub passed_on-requires : goal.passed_on-requires
passed_on-requires c =
    let n = c.args.node.now.state in
    away_hop n c.args.call.now c.in-Some.to (subst (λ to. Fits (away_letter n c.args.call.now to).message) c.in-Some.is c.requires)
