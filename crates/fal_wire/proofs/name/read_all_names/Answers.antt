use Rattle.std.proofs.Common.{ℕ, List, None}
use Rattle.std.proofs.lemmas.Result.{err_from_is_err_and}
use Rattle.fal_wire.specs.Format.{many_at}
use Rattle.fal_wire.specs.Names.{name_field}
use Rattle.fal_wire.proofs.Loop.{goes_on, ends, is_done, begins}
use Rattle.fal_wire.proofs.name.read_all_names.Goals as goal

pub loop-init : goal.loop-init
loop-init c = begins (List ℕ) (λ _. name_field) c.new-items.result c.args.count c.args.end c.args.bytes.now c.new-items.ensures

pub returns-in_err-item : goal.returns-in_err-item
returns-in_err-item c =
    let p = err_from_is_err_and c.from_residual.result c.from_residual.ensures.1 in
    rw (p.1, p.2) (ends (List ℕ) (λ _. name_field) c.in_err-item.field-0.0 c.loop.items c.args.count c.loop.counter c.args.end c.loop.rest.now (many_at (λ _. name_field) None c.args.count c.args.end c.args.bytes.now) c.loop-test.true c.in_err-item.ensures c.loop.invariant)

pub loop-preserved : goal.loop-preserved
loop-preserved c =
    rw c.in_ok-push.ensures.ok (goes_on (List ℕ) (λ _. name_field) c.loop.items c.args.count c.loop.counter c.args.end c.loop.rest.now c.in_ok-item.item c.in_ok-item.after.now (many_at (λ _. name_field) None c.args.count c.args.end c.args.bytes.now) c.loop-test.true c.in_ok-item.ensures c.loop.invariant)

pub returns : goal.returns
returns c = is_done (List ℕ) (λ _. name_field) c.loop.items c.args.count c.loop.counter c.args.end c.loop.rest.now (many_at (λ _. name_field) None c.args.count c.args.end c.args.bytes.now) c.loop-test.false c.loop.invariant
