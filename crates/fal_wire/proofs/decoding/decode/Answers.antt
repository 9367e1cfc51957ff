use Rattle.std.proofs.Common.{ap, subst, ◌∙◌, arith}
use Rattle.fal_base.specs.Unless.{UnlessMemory}
use Rattle.fal_wire.specs.declared.fault.WireFault.TheVariants.{OutOfMemory}
use Rattle.fal_wire.specs.Messages.{reading}
use Rattle.fal_wire.proofs.ReadingLaws.{is_spelled, spelled_reads}
use Rattle.fal_wire.proofs.decoding.decode.Goals as goal

pub returns-clause-spelled : goal.returns-clause-spelled
returns-clause-spelled c = is_spelled c.args.bytes.now c.answer_to.result (λ i. omega (arith, c.type_inv.bytes i)) c.answer_to.ensures

pub returns-clause-only : goal.returns-clause-only
returns-clause-only c = λ m fits e. subst (λ f. UnlessMemory OutOfMemory c.answer_to.result f) (ap reading e ∙ spelled_reads m fits) c.answer_to.ensures
