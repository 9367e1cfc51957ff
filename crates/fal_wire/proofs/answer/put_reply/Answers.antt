use Rattle.fal_wire.specs.Rows.{reply_field}
use Rattle.fal_wire.proofs.answer.put_reply.Goals as goal

pub returns-in_ok-put_u8-in-Fine : goal.returns-in_ok-put_u8-in-Fine
unfolding reply_field
returns-in_ok-put_u8-in-Fine c = rw c.in-Fine.is c.in_ok-put_u8-in-Fine.ensures

pub returns-in_ok-put_u8-in-Names : goal.returns-in_ok-put_u8-in-Names
unfolding reply_field
returns-in_ok-put_u8-in-Names c = rw c.in-Names.is c.in_ok-put_u8-in-Names.ensures
