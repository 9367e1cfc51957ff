use Rattle.std.proofs.Common.{arith}
use Rattle.fal_script.proofs.Printable.{read_is_printable}
use Rattle.fal_script.proofs.reading.read.Goals as goal

pub returns-clause-printable : goal.returns-clause-printable
returns-clause-printable c = read_is_printable c.args.bytes.now c.in_ok-script.script (λ i. omega (arith, c.type_inv.bytes i)) c.in_ok-script.ensures
