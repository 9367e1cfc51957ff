use Rattle.std.proofs.Common.{List, ℕ, sym, ap, subst, ◌∙◌}
use Rattle.fal_base.specs.declared.call.Config.{Config}
use Rattle.fal_story.specs.Told.{Told}
use Rattle.falcon_run.specs.Headline.{cluster_of}
use Rattle.falcon_run.specs.Serving.{HasCallsFor}
use Rattle.falcon_run.proofs.ScriptLanes.{has_calls}
use Rattle.falcon_run.proofs.run.run_script.Goals as goal

pub run_cluster-text-requires-clause-calls : goal.run_cluster-text-requires-clause-calls
run_cluster-text-requires-clause-calls g c =
    let config = ap (λ (told : Told). told.config) c.in-Ok-new.ensures ∙ c.in-Ok.ensures.config in
    subst (λ (config : Config). HasCallsFor config c.deref.result.now) (sym config)
    (subst (λ (lanes : List ℕ). HasCallsFor (cluster_of c.args.script) lanes) (sym (c.deref.ensures.value ∙ c.in-Ok.ensures.order)) (has_calls c.args.script c.requires.range))
