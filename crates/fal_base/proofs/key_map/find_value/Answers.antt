use Rattle.std.proofs.Common.{sym}
use Rattle.fal_base.proofs.Places.{found_at, absent_at}
use Rattle.fal_base.proofs.key_map.find_value.Goals as goal

pub returns-in-Ok : goal.returns-in-Ok
returns-in-Ok g c = sym (found_at _ c.args.entries.now c.in-Ok.at c.index-entries-at.result c.in-Ok.ensures)

pub returns-in-Err : goal.returns-in-Err
returns-in-Err g c = sym (absent_at _ c.args.entries.now c.in-Err.field-0 c.requires c.in-Err.ensures)
