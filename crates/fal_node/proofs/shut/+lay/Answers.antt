use Rattle.std.proofs.Common.{◌≡◌, ◌+◌, cond, is_some, sym, ap, ◌∙◌, arith, rules}
use Rattle.fal_base.specs.Updates.{laid, laid_at}
use Rattle.fal_node.specs.Patch.{rows_put}
use Rattle.fal_node.proofs.Shutting.{laid-push, rows_put-push}
use Rattle.fal_node.proofs.shut.+lay.Goals as goal

pub lay-requires : goal.lay-requires
lay-requires t c =
    let puts : rows_put c.args.updates.items ≡ rows_put c.pop.new.self.items + cond (is_some c.in-Some.last.row) 1 0 = ap rows_put c.in-Some.ensures.items ∙ rows_put-push c.pop.new.self.items c.in-Some.last in
    (search rules, omega arith)

pub lay_row-requires : goal.lay_row-requires
lay_row-requires t c =
    let puts : rows_put c.args.updates.items ≡ rows_put c.pop.new.self.items + cond (is_some c.in-Some.last.row) 1 0 = ap rows_put c.in-Some.ensures.items ∙ rows_put-push c.pop.new.self.items c.in-Some.last in
    let left = c.lay.ensures.room in
    omega arith

pub returns-in-Some-clause-room : goal.returns-in-Some-clause-room
returns-in-Some-clause-room t c =
    let puts : rows_put c.args.updates.items ≡ rows_put c.pop.new.self.items + cond (is_some c.in-Some.last.row) 1 0 = ap rows_put c.in-Some.ensures.items ∙ rows_put-push c.pop.new.self.items c.in-Some.last in
    let left = c.lay.ensures.room in
    let here = c.lay_row.ensures.room in
    omega arith

pub returns-in-Some-clause-rows : goal.returns-in-Some-clause-rows
returns-in-Some-clause-rows t c =
    let rows = c.args.rows.now.rows in
    c.lay_row.ensures.rows
    ∙ ap (λ rs. laid_at rs c.in-Some.last.key c.in-Some.last.row) c.lay.ensures.rows
    ∙ sym (laid-push c.pop.new.self.items c.in-Some.last rows)
    ∙ ap (λ us. laid us rows) (sym c.in-Some.ensures.items)
