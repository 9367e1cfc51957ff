use Rattle.fal_wire.proofs.RowLaws.{errno_spelling}
use Rattle.fal_wire.proofs.answer.put_errno.Goals as goal

pub returns : goal.returns
returns c = rw (errno_spelling c.args.errno, ← c.errno_tag.ensures) c.in_ok-put_u8.ensures
