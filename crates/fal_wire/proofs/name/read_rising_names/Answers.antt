use Rattle.std.proofs.Common.{◌≡◌, ℕ, List, Option, None, Ok, subst}
use Rattle.std.specs.Option.{option_copied}
use Rattle.fal_wire.specs.Gives.{Fails}
use Rattle.std.proofs.lemmas.Result.{err_from_is_err_and}
use Rattle.fal_wire.specs.Format.{many_at}
use Rattle.fal_wire.specs.Names.{next_name}
use Rattle.fal_wire.proofs.Loop.{goes_on, ends, is_done, begins, last_of}
use Rattle.fal_wire.proofs.name.read_rising_names.Goals as goal

pub loop-init : goal.loop-init
loop-init c = begins (List ℕ) next_name c.new-items.result c.args.count c.args.end c.args.bytes.now c.new-items.ensures

pub returns-in_err-item : goal.returns-in_err-item
returns-in_err-item c =
    let same : option_copied c.last.result ≡ last_of c.loop.items = cc (c.last.ensures.value, c.as_slice.ensures) in
    let p = err_from_is_err_and c.from_residual.result c.from_residual.ensures.1 in
    rw (p.1, p.2) (ends (List ℕ) next_name c.in_err-item.field-0.0 c.loop.items c.args.count c.loop.counter c.args.end c.loop.rest.now (many_at next_name None c.args.count c.args.end c.args.bytes.now) c.loop-test.true (subst (λ (k : Option (List ℕ)). Fails c.in_err-item.field-0.0 ((next_name k).read c.args.end c.loop.rest.now)) same c.in_err-item.ensures) c.loop.invariant)

pub loop-preserved : goal.loop-preserved
loop-preserved c =
    let same : option_copied c.last.result ≡ last_of c.loop.items = cc (c.last.ensures.value, c.as_slice.ensures) in
    rw c.in_ok-push.ensures.ok (goes_on (List ℕ) next_name c.loop.items c.args.count c.loop.counter c.args.end c.loop.rest.now c.in_ok-item.item c.in_ok-item.after.now (many_at next_name None c.args.count c.args.end c.args.bytes.now) c.loop-test.true (subst (λ (k : Option (List ℕ)). (next_name k).read c.args.end c.loop.rest.now ≡ Ok (c.in_ok-item.item, c.in_ok-item.after.now)) same c.in_ok-item.ensures) c.loop.invariant)

pub returns : goal.returns
returns c = is_done (List ℕ) next_name c.loop.items c.args.count c.loop.counter c.args.end c.loop.rest.now (many_at next_name None c.args.count c.args.end c.args.bytes.now) c.loop-test.false c.loop.invariant
