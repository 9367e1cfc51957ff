use Rattle.std.proofs.Common.{◌≡◌, ◌∙◌, List, map, ap, sym, subst, IfOk}
use Rattle.fal_base.specs.Tree.{Tree, lines_of}
use Rattle.fal_node.specs.Patch.{SeenNode}
use Rattle.fal_story.specs.AllRows.{all_rows, tree_left}
use Rattle.fal_story.specs.Fresh.{IsQuietAt, came}
use Rattle.fal_story.specs.Told.{Told}
use Rattle.fal_alone.specs.NodeRows.{rows_at}
use Rattle.fal_alone.specs.Turns.{world_of}
use Rattle.fal_alone.proofs.NodeRows.{whole_rows, quiet_rows_at}
use Rattle.fal_alone.proofs.cluster.Cluster.lines.Goals as goal

pub returns-clause-rows : goal.returns-clause-rows
returns-clause-rows c =
    let config = c.self.inside.book.told.config in
    let events = c.self.inside.book.told.events in
    let rows : c.in_ok-rows.rows.rows ≡ rows_at config (world_of c.self.inside.book.told) =
    c.in_ok-rows.ensures ∙ ap (λ (nodes : List SeenNode). all_rows (map (λ (n : SeenNode). n.state.rows) nodes)) c.deref.ensures.value
    ∙ whole_rows config events c.self.inside.clients.items c.self.inside.nodes.items c.self.inside.coord.state c.self.inside.queues.items c.self.invariant in
    subst (λ (told : Told). IfOk c.all.result (λ lines. lines.items ≡ lines_of (rows_at told.config (world_of told)))) c.self.view_is
    (subst (λ (tree : Tree). IfOk c.all.result (λ lines. lines.items ≡ lines_of tree)) rows c.all.ensures.lines)

pub returns-clause-tree : goal.returns-clause-tree
returns-clause-tree c quiet =
    let told = c.self.inside.book.told in
    let rows : c.in_ok-rows.rows.rows ≡ rows_at told.config (world_of told) =
    c.in_ok-rows.ensures ∙ ap (λ (nodes : List SeenNode). all_rows (map (λ (n : SeenNode). n.state.rows) nodes)) c.deref.ensures.value
    ∙ whole_rows told.config told.events c.self.inside.clients.items c.self.inside.nodes.items c.self.inside.coord.state c.self.inside.queues.items c.self.invariant in
    let at = subst (λ (t : Told). IsQuietAt t.config (world_of t) (came t.events)) (sym c.self.view_is) quiet in
    subst (λ (t : Told). IfOk c.all.result (λ lines. lines.items ≡ lines_of (tree_left t.config t.events))) c.self.view_is
    (subst (λ (tree : Tree). IfOk c.all.result (λ lines. lines.items ≡ lines_of tree)) (rows ∙ quiet_rows_at told c.legal.ensures at) c.all.ensures.lines)
