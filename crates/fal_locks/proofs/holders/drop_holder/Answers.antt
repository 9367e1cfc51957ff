use Rattle.std.proofs.Common.{not, ◌==◌, rules, tests}
use Rattle.std.proofs.lemmas.Fn.{filter_same}
use Rattle.fal_locks.proofs.holders.drop_holder.Goals as goal

-- the closure tests each holder, and stays as it was
pub returns : goal.returns
returns c = filter_same _ (λ h. not (h.number == c.args.number)) _ (λ x b q k. search (rules, tests)) _ _ c.retain.ensures.filtered
