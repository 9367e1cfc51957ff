use Rattle.fal_wire.specs.Rows.{kind_field}
use Rattle.fal_wire.proofs.row.put_kind.Goals as goal

pub returns-in_ok-put_u8-in-File : goal.returns-in_ok-put_u8-in-File
unfolding kind_field
returns-in_ok-put_u8-in-File c = rw c.in-File.is c.in_ok-put_u8-in-File.ensures

pub returns-in_ok-put_u8-in-Dir : goal.returns-in_ok-put_u8-in-Dir
unfolding kind_field
returns-in_ok-put_u8-in-Dir c = rw c.in-Dir.is c.in_ok-put_u8-in-Dir.ensures
