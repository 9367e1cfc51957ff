use Rattle.book_runs.proofs.Nodes.{node_new}
use Rattle.book_runs.proofs.node_post.NodePost.new.Goals as goal

pub invariant_of-result : goal.invariant_of-result
invariant_of-result c = node_new c.args.number c.args.config.now c.args.seat c.in_ok-node.node.state c.new-2.result c.requires.cluster c.requires.there c.requires.new c.in_ok-node.ensures c.new-2.ensures
