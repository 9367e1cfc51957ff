use Rattle.std.proofs.Common.{nat_lt}
use Rattle.fal_place.proofs.Rising.{rises_from-filter}
use Rattle.fal_place.proofs.table.Table.since.Goals as goal

-- some of the table's rules, which stand in the order of their versions
pub returns-clause-order : goal.returns-clause-order
returns-clause-order c = rw c.in_ok-late.ensures (rises_from-filter (λ change. nat_lt c.args.version change.version) 0 c.self.inside.rules.items c.self.invariant.0.by_version)
