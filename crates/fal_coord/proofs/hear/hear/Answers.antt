use Rattle.std.proofs.Common.{sym, subst, ◌∙◌}
use Rattle.fal_wire.specs.Messages.{reading}
use Rattle.fal_coord.specs.Hear.{take_read}
use Rattle.fal_coord.specs.Step.{IsInRange}
use Rattle.fal_coord.proofs.Reading.{heard_within}
use Rattle.fal_coord.proofs.hear.hear.Goals as goal

pub take_bytes-requires : goal.take_bytes-requires
take_bytes-requires c =
    let coord = c.args.coord.now.state in
    let envelope = c.args.envelope.now in
    subst (λ bytes. IsInRange (take_read coord envelope.point (reading bytes))) (sym c.as_slice.ensures)
    (heard_within coord envelope c.requires (sym c.is_to_coord.ensures ∙ c.if-not-is_to_coord.false))
