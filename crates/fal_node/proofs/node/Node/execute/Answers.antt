use Rattle.std.proofs.Common.{sym, subst}
use Rattle.fal_node.specs.Sound.{AreBatches}
use Rattle.fal_node.proofs.Sound.{batches_executed}
use Rattle.fal_node.proofs.node.Node.execute.Goals as goal

pub invariant_of-self : goal.invariant_of-self
invariant_of-self c = record {
  calls_waiting = c.self.invariant.calls_waiting;
  items_kept = c.self.invariant.items_kept;
  batches_made = subst (λ batches. AreBatches batches c.self.inside.locks.table c.self.inside.batches_numbered) (sym c.mark_batch.ensures)
      (batches_executed c.self.inside.batches.items c.self.inside.locks.table c.self.inside.batches_numbered c.args.batch c.self.invariant.batches_made);
}
