use Rattle.std.proofs.Common.{◌+◌, refl, sym, subst}
use Rattle.fal_node.specs.declared.item.Item.{Item}
use Rattle.fal_node.specs.Sound.{AreItemsNumbered}
use Rattle.fal_node.proofs.Sound.{item_kept}
use Rattle.fal_node.proofs.node.Node.keep.Goals as goal

pub invariant_of-self : goal.invariant_of-self
invariant_of-self c =
    let next = c.self.inside.items_numbered in
    let item : Item = record { number = next; message = c.args.message } in
    record {
      calls_waiting = c.self.invariant.calls_waiting;
      items_kept = subst (λ items. AreItemsNumbered items (next + 1)) (sym c.push_item.ensures) (item_kept c.self.inside.items.items next item c.self.invariant.items_kept refl);
      batches_made = c.self.invariant.batches_made;
    }
