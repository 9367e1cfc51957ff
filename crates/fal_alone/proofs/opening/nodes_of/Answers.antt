use Rattle.std.proofs.Common.{◌≡◌, ◌++◌, [], ◌∷◌, length, subst, sym, ap, ◌∙◌, arith, length-append}
use Rattle.fal_node.specs.State.{opening_node}
use Rattle.fal_alone.specs.Opening.{AreNodes}
use Rattle.fal_alone.proofs.Openings.{node_more}
use Rattle.fal_alone.proofs.opening.nodes_of.Goals as goal

pub loop-number-preserved : goal.loop-number-preserved
loop-number-preserved c =
    let nodes = c.loop-number.nodes.items in
    let n = c.in_ok-new.field-0 in
    let config = c.args.config.now in
    let pushed : c.push.new.self.items ≡ nodes ++ n ∷ [] = c.in_ok-push.ensures.items in
    let long = ap length pushed ∙ length-append nodes (n ∷ []) in
    let counted = c.loop-number.invariant.count in
    record {
      count = omega arith;
      are = subst (AreNodes config) (sym pushed) (node_more config nodes n (c.in_ok-new.ensures ∙ ap (λ k. opening_node k config.nodes config.batch) (sym counted)) c.loop-number.invariant.are);
    }
