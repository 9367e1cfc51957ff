use Rattle.std.proofs.Common.{◌≡◌, List, true, sym, subst, ◌∙◌}
use Rattle.std.specs.Prelude.{length, nat_le, sum_by}
use Rattle.fal_base.specs.declared.call.Call.{Call}
use Rattle.fal_story.proofs.Ranges.Fitting.{at_most}
use Rattle.fal_story.proofs.cluster.may_run.Goals as goal

pub returns-else-has_few_calls : goal.returns-else-has_few_calls
returns-else-has_few_calls c = (
  λ yes. absurd cc,
  λ is. c.has_few_calls.ensures ∙ subst (λ (lanes : List (List Call)). nat_le (sum_by (λ calls. length calls) lanes) 10000 ≡ true) (sym c.as_slice-lanes.ensures) (at_most _ _ is.few_calls),
)
