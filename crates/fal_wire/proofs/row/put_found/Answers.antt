use Rattle.fal_wire.specs.Rows.{found_field}
use Rattle.fal_wire.proofs.row.put_found.Goals as goal

pub returns-in_ok-put_u8-in-Nothing : goal.returns-in_ok-put_u8-in-Nothing
unfolding found_field
returns-in_ok-put_u8-in-Nothing c = rw c.in-Nothing.is c.in_ok-put_u8-in-Nothing.ensures

pub returns-in_ok-put_u8-in-File : goal.returns-in_ok-put_u8-in-File
unfolding found_field
returns-in_ok-put_u8-in-File c = rw c.in-File.is c.in_ok-put_u8-in-File.ensures
