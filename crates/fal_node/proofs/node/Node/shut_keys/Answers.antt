use Rattle.std.proofs.Common.{◌≡◌, true, IsTrue, sym, subst}
use Rattle.fal_wait.specs.Waiting.{WaitList}
use Rattle.fal_node.specs.Patch.{SeenNode}
use Rattle.fal_node.specs.Serve.{can_shut}
use Rattle.fal_node.specs.Sound.{AreBatches, are_row_waiters}
use Rattle.fal_node.proofs.Shutting.{sound_cancel, nothing_shut, none_held}
use Rattle.fal_node.proofs.node.Node.shut_keys.Goals as goal

pub shut-requires-clause-open : goal.shut-requires-clause-open
shut-requires-clause-open c =
    let can = subst (λ (s : SeenNode). IsTrue (can_shut s.state.locks c.args.keys.items)) (sym c.self.view_is) c.requires.can in
    nothing_shut c.self.inside.locks.table c.args.keys.items can

pub shut-requires-clause-not_held : goal.shut-requires-clause-not_held
shut-requires-clause-not_held c =
    let can = subst (λ (s : SeenNode). IsTrue (can_shut s.state.locks c.args.keys.items)) (sym c.self.view_is) c.requires.can in
    none_held c.self.inside.locks.table c.args.keys.items can

pub invariant_of-self : goal.invariant_of-self
invariant_of-self c =
    let sound = c.self.invariant.batches_made in
    record {
      calls_waiting = subst (λ (list : WaitList). are_row_waiters list.calls ≡ true) (sym c.cancel_all.ensures.list) (sound_cancel c.self.inside.waiting.list c.self.invariant.calls_waiting);
      items_kept = c.self.invariant.items_kept;
      batches_made = subst (λ locks. AreBatches c.self.inside.batches.items locks c.self.inside.batches_numbered) (sym c.shut.ensures)
          (record { row_calls = sound.row_calls; numbers = sound.numbers; holders = sound.holders });
    }
