use Rattle.fal_wire.specs.Rows.{rule_field}
use Rattle.fal_wire.proofs.row.put_rule.Goals as goal

pub returns-in_ok-put_u8-in-Hash : goal.returns-in_ok-put_u8-in-Hash
unfolding rule_field
returns-in_ok-put_u8-in-Hash c = rw c.in-Hash.is c.in_ok-put_u8-in-Hash.ensures

pub returns-in_ok-put_u8-in-ByParent : goal.returns-in_ok-put_u8-in-ByParent
unfolding rule_field
returns-in_ok-put_u8-in-ByParent c = rw c.in-ByParent.is c.in_ok-put_u8-in-ByParent.ensures
