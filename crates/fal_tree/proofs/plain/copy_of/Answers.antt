use Rattle.std.proofs.Common.{◌≡◌, ◌∷◌, ◌++◌, arith, ap, sym, ◌∙◌}
use Rattle.std.proofs.lemmas.Grind.{common_steps}
use Rattle.fal_base.specs.Tree.{with_row}
use Rattle.fal_tree.proofs.Copied.{copied_more}
use Rattle.fal_tree.proofs.plain.copy_of.Goals as goal

pub loop-first-preserved : goal.loop-first-preserved
loop-first-preserved c =
    let first = c.in-Some.first.now in
    let others = c.in-Some.others.now in
    let copied = c.loop-first.copied.entries in
    let cut : c.loop-first.rest.now ≡ first ∷ others = grind (arith, common_steps) in
    let put : c.put.new.self.entries ≡ with_row copied first.0 first.1 = c.put.ensures.entries ∙ ap (λ key. with_row copied key first.1) c.in_ok-copy.ensures in
    record {
      copied = ap (λ rows. rows ++ others) put ∙ copied_more copied first others c.args.rows.now.entries (ap (λ rest. copied ++ rest) (sym cut) ∙ c.loop-first.invariant.copied) c.loop-first.invariant.order;
      room = grind (arith, common_steps);
      order = c.loop-first.invariant.order;
    }
