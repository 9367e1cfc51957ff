use Rattle.std.proofs.Common.{◌∙◌}
use Rattle.falcon_run.specs.Headline.{script_line}
use Rattle.falcon_run.proofs.Wants.{refused_as}
use Rattle.falcon_run.proofs.run.refuse_script.Goals as goal

pub returns-in-Ok : goal.returns-in-Ok
returns-in-Ok g c =
    refused_as c.deref.result.now (script_line c.args.line c.args.rule) (g.K.Sink.holds c.args.sink.now) (g.K.Sink.holds c.refuse.new.sink) (g.K.Sink.faults c.args.sink.now) (g.K.Sink.faults c.refuse.new.sink) c.refuse.result
    (c.deref.ensures.value ∙ c.in-Ok.ensures) c.refuse.ensures
