use Rattle.std.proofs.Common.{◌≡◌, ◌+◌, ◌-◌, ◌<◌, length, arith}
use Rattle.fal_script.proofs.Lanes.{line_put}
use Rattle.fal_script.proofs.handed.put_call.Goals as goal

pub returns-clause-put : goal.returns-clause-put
returns-clause-put c lines is =
    let same = c.from-place.ensures in
    let low = c.requires.from_one in
    let high = c.requires.within in
    let place : c.args.line.lane ≡ 1 + (c.from-place.result - 1) = omega arith in
    let within : c.from-place.result - 1 < length c.args.lists.now.items = omega arith in
    line_put lines c.args.line (length c.args.lists.now.items) (c.from-place.result - 1) c.args.lists.now.items c.push.new.self c.index_mut.result.now place within is c.index_mut.ensures.value c.in_ok-push.ensures.ok
