use Rattle.std.proofs.Common.{◌<◌, ◌^◌, arith}
use Rattle.fal_wire.specs.Numbers.{cred_field}
use Rattle.fal_story.proofs.cluster.is_call.Goals as goal

pub returns : goal.returns
unfolding cred_field
returns c =
    let uid : c.args.call.now.cred.uid < 256 ^ 4 = omega arith in
    let gid : c.args.call.now.cred.gid < 256 ^ 4 = omega arith in (
      λ yes. let is = c.is_op.ensures.0 yes in record { read = is.0; fits = λ good. ((uid, gid), is.1 good) },
      λ is. c.is_op.ensures.1 (is.read, λ good. (is.fits good).1),
    )
