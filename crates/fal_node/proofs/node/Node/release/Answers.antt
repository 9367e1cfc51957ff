use Rattle.std.proofs.Common.{◌==◌, sym, subst}
use Rattle.fal_wait.specs.Lists.{without_first}
use Rattle.fal_node.specs.declared.batch.Batch.{Batch}
use Rattle.fal_node.specs.Sound.{AreBatches}
use Rattle.fal_node.proofs.Sound.{batches_without}
use Rattle.fal_node.proofs.node.Node.release.Goals as goal

pub invariant_of-self : goal.invariant_of-self
invariant_of-self c =
    let left = batches_without c.self.inside.batches.items c.self.inside.locks.table c.self.inside.batches_numbered c.args.batch c.self.invariant.batches_made in
    record {
      calls_waiting = c.self.invariant.calls_waiting;
      items_kept = c.self.invariant.items_kept;
      batches_made = subst (λ batches. AreBatches batches c.release.new.self.table c.self.inside.batches_numbered) (sym c.drop_batch.ensures)
          (subst (λ locks. AreBatches (without_first (λ (batch : Batch). batch.number == c.args.batch) c.self.inside.batches.items) locks c.self.inside.batches_numbered) (sym c.release.ensures) left);
    }
