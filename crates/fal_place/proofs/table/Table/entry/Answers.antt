use Rattle.std.proofs.Common.{◌≡◌, ap}
use Rattle.fal_place.specs.Placement.{same_name, rule_found}
use Rattle.fal_place.specs.Starts.{first_of}
use Rattle.fal_place.proofs.Firsts.{found_from}
use Rattle.fal_place.proofs.Within.{within-rule_found}
use Rattle.fal_place.proofs.table.Table.entry.Goals as goal

-- no rule of the name stands before the place from which on it is looked for
found : (c : goal.After-rule_of) → c.rule_of.result ≡ rule_found (first_of c.args.name.now c.self.inside.rules.items)
found c = rw (c.rule_of.ensures, c.deref.ensures.value, c.start_of.ensures, c.deref-2.ensures.value) (ap rule_found (found_from c.args.name.now c.self.inside.starts.items c.self.inside.rules.items (c.self.invariant.1 c.args.name.now)))

pub returns-clause-rule : goal.returns-clause-rule
returns-clause-rule c = rw (← c.self.view_is) (found c)

-- each rule of the table fits it, and so does the one that is found
pub returns-clause-within : goal.returns-clause-within
returns-clause-within c = rw (found c, ← c.self.view_is) (within-rule_found c.self.inside.nodes (λ change. same_name change.name c.args.name.now) c.self.inside.rules.items c.self.invariant.0.within)
