use Rattle.std.proofs.Common.{◌<◌, ◌^◌, arith}
use Rattle.fal_story.proofs.Ranges.Fitting.{chown_is}
use Rattle.fal_story.proofs.cluster.is_chown.Goals as goal

pub returns : goal.returns
returns c =
    let uid : c.args.uid < 2 ^ 32 = omega arith in
    let gid : c.args.gid < 2 ^ 32 = omega arith in
    let is = chown_is c.args.path.now c.args.uid c.args.gid uid gid in
    (λ yes. is.0 (c.is_held.ensures.0 yes), λ can. c.is_held.ensures.1 (is.1 can))
