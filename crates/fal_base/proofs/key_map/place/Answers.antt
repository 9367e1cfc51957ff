use Rattle.std.proofs.Common.{arith}
use Rattle.fal_base.proofs.Places.{step_after, step_before, place_within}
use Rattle.fal_base.proofs.key_map.place.Goals as goal

pub loop-from-init : goal.loop-from-init
loop-from-init g c = record { low = omega arith; high = place_within _ _; within = omega arith }

pub loop-from-preserved-then-is_gt : goal.loop-from-preserved-then-is_gt
loop-from-preserved-then-is_gt g c =
    record {
      low = step_after _ _ _ _ _ c.requires (omega arith) c.compare_parts.ensures c.if-is_gt.ensures;
      high = c.loop-from.invariant.high;
      within = c.loop-from.invariant.within;
    }

pub loop-from-preserved : goal.loop-from-preserved
loop-from-preserved g c =
    record {
      low = c.loop-from.invariant.low;
      high = step_before _ _ _ _ _ (omega arith) c.compare_parts.ensures c.if-is_gt.ensures;
      within = omega arith;
    }
