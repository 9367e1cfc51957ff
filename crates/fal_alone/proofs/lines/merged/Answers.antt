use Rattle.std.proofs.Common.{[], refl, ap, sym, ◌∙◌, subst, arith}
use Rattle.fal_base.specs.Tree.{IsInOrder}
use Rattle.fal_base.proofs.Order.{in_order_with}
use Rattle.fal_story.specs.AllRows.{with_tree}
use Rattle.fal_alone.proofs.Merging.{tree_of, tree_of_own, with_both, with_own, goes}
use Rattle.fal_alone.proofs.lines.merged.Goals as goal

pub loop-key-init : goal.loop-key-init
loop-key-init c =
    let all = c.args.all.now.rows in
    let rows = c.args.rows.now.rows in
    let empty = c.reserve.ensures.rows ∙ c.new-merged.ensures in
    let first = ap tree_of (c.from_vec-first.ensures.items ∙ c.in_ok-all.ensures.lines) ∙ tree_of_own all in
    let second = ap tree_of (c.from_vec-second.ensures.items ∙ c.in_ok-all-2.ensures.lines) ∙ tree_of_own rows in
    record {
      rows =
          ap (λ t. with_both t c.from_vec-first.result.items c.from_vec-second.result.items) empty ∙ (λ i. with_tree (with_tree [] (first i)) (second i))
          ∙ ap (λ t. with_tree t rows) (with_own all c.in_ok-all.ensures.order);
      sorted = subst IsInOrder (sym empty) refl;
      first = subst IsInOrder (sym first) c.in_ok-all.ensures.order;
      second = subst IsInOrder (sym second) c.in_ok-all-2.ensures.order;
      room = grind arith;
    }

pub loop-key-preserved : goal.loop-key-preserved
loop-key-preserved c =
    let line = c.in-Some-take_next.field-0 in
    let all = c.loop-key.merged.rows in
    let gone = goes all c.loop-key.first.items c.loop-key.second.items line c.take_next.new.first.items c.take_next.new.second.items c.loop-key.invariant.sorted c.loop-key.invariant.first c.loop-key.invariant.second
    c.in-Some-take_next.ensures.some in
    record {
      rows = ap (λ t. with_both t c.take_next.new.first.items c.take_next.new.second.items) c.put.ensures.rows ∙ sym gone.rows ∙ c.loop-key.invariant.rows;
      sorted = subst IsInOrder (sym c.put.ensures.rows) (in_order_with all line.key line.inode c.loop-key.invariant.sorted);
      first = gone.first;
      second = gone.second;
      room = omega (arith, c.put.ensures.room, gone.fewer, c.loop-key.invariant.room);
    }
