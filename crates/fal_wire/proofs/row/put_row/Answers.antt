use Rattle.fal_wire.specs.Rows.{row_field}
use Rattle.fal_wire.proofs.row.put_row.Goals as goal

pub returns-in_ok-put_u8-in-None : goal.returns-in_ok-put_u8-in-None
unfolding row_field
returns-in_ok-put_u8-in-None c = rw c.in-None.is c.in_ok-put_u8-in-None.ensures
