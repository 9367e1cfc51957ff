use Rattle.std.proofs.Common.{rules, arith}
use Rattle.std.proofs.lemmas.Grind.{common_steps}
use Rattle.fal_place.specs.Placement.{AllWithin}
use Rattle.fal_client.proofs.Ranges.{stale_in_range}
use Rattle.fal_client.proofs.hear.hear_stale.Goals as goal

pub retry-requires-clause-range : goal.retry-requires-clause-range
retry-requires-clause-range c =
    let all : AllWithin c.args.client.now.table.nodes c.args.changes.now = first_of (search rules, grind (arith, common_steps)) in
    stale_in_range c.args.client.now c.args.current.now c.args.old c.args.new c.args.changes.now c.requires.range all
