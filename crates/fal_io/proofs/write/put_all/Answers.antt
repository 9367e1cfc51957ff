use Rattle.std.proofs.Common.{arith}
use Rattle.fal_io.proofs.Pieces.{appends_more}
use Rattle.fal_io.proofs.write.put_all.Goals as goal

pub loop-start-preserved : goal.loop-start-preserved
loop-start-preserved g c =
    record {
      within = grind arith;
      front = appends_more _ _ _ _ _ _ _ c.in_ok-start.ensures.bound c.loop-start.invariant.front c.in_ok-start.ensures.bytes;
      never_falls = omega (arith, c.loop-start.invariant.never_falls, c.in_ok-start.ensures.cause.never_falls);
    }
