use Rattle.std.proofs.Common.{◌≡◌, ◌-◌, List, map, Vec, Global}
use Rattle.std.specs.Vec.Iter.{into_iter_items}
use Rattle.fal_base.specs.declared.row.NamedRow.{NamedRow}
use Rattle.fal_coord.proofs.Blocked.{installs_below, shares_from}
use Rattle.fal_coord.proofs.placing.install_letters.Given as goal

-- the nodes so far are told their shares, and the others' are left
abbrev pub invariant-loop-node : goal.invariant-loop-node
invariant-loop-node l = record {
  letters : l.letters.items ≡ installs_below l.coord.state.operation l.table (record { name = l.name; rule = l.rule }) l.rows l.node;
  shares : map (λ (s : Vec NamedRow Global). s.items) (into_iter_items l.shares) ≡ shares_from l.table l.name l.rows l.node (l.table.nodes - l.node);
}
