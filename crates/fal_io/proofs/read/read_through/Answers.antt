use Rattle.std.proofs.Common.{◌++◌, take, arith}
use Rattle.std.proofs.KnownBytes.{Consumes-trans}
use Rattle.std.proofs.lemmas.Grind.{common_steps}
use Rattle.fal_io.proofs.read.read_through.Goals as goal

pub returns-then-count-limit-clause-bytes : goal.returns-then-count-limit-clause-bytes
returns-then-count-limit-clause-bytes g c =
    let taken = c.loop-count.bytes.items ++ take c.in-Ok.count c.take.new.buf in
    record {
      never_falls = omega (arith, c.loop-count.invariant.never_falls, c.in-Ok.ensures.cause.never_falls);
      bytes = (taken, Consumes-trans _ _ _ _ _ c.loop-count.invariant.taken c.in-Ok.ensures.bytes.0, (grind (arith, common_steps), grind (arith, common_steps)));
    }

pub returns-then-is_err-clause-bytes : goal.returns-then-is_err-clause-bytes
returns-then-is_err-clause-bytes g c =
    let taken = c.loop-count.bytes.items ++ take c.in-Ok.count c.take.new.buf in
    record {
      never_falls = omega (arith, c.loop-count.invariant.never_falls, c.in-Ok.ensures.cause.never_falls);
      bytes = (taken, Consumes-trans _ _ _ _ _ c.loop-count.invariant.taken c.in-Ok.ensures.bytes.0, grind (arith, common_steps));
    }
