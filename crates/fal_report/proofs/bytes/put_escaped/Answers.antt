-- Plain bytes go as they are.
use Rattle.std.proofs.Common.{◌++◌, ap, sym, ◌∙◌}
use Rattle.fal_report.proofs.Plain.{escaped-plain}
use Rattle.fal_report.proofs.bytes.put_escaped.Goals as goal

pub returns-then-are_plain : goal.returns-then-are_plain
returns-then-are_plain c =
    c.in_ok-put.ensures ∙ ap (λ bytes. c.args.out.now.items ++ bytes) (sym (escaped-plain c.args.bytes.now (sym c.are_plain.ensures ∙ c.if-are_plain.true)))
