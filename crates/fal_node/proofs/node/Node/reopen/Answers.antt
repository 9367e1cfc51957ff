use Rattle.std.proofs.Common.{sym, subst}
use Rattle.fal_node.specs.Sound.{AreBatches}
use Rattle.fal_node.proofs.node.Node.reopen.Goals as goal

pub invariant_of-self : goal.invariant_of-self
invariant_of-self c =
    let sound = c.self.invariant.batches_made in
    record {
      calls_waiting = c.self.invariant.calls_waiting;
      items_kept = c.self.invariant.items_kept;
      batches_made = subst (λ locks. AreBatches c.self.inside.batches.items locks c.self.inside.batches_numbered) (sym c.reopen.ensures)
          (record { row_calls = sound.row_calls; numbers = sound.numbers; holders = sound.holders });
    }
