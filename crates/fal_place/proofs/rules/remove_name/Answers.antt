use Rattle.std.proofs.Common.{not, rules, tests}
use Rattle.std.proofs.lemmas.Fn.{filter_same}
use Rattle.fal_place.specs.Placement.{same_name}
use Rattle.fal_place.proofs.rules.remove_name.Goals as goal

-- the closure tests each rule, and stays as it was
pub returns-clause-rules : goal.returns-clause-rules
returns-clause-rules c = filter_same _ (λ change. not (same_name change.name c.args.name.now)) _ (λ x b q k. search (rules, tests)) _ _ c.retain.ensures.filtered
