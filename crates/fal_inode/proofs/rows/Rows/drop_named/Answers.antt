use Rattle.std.proofs.Common.{◌≡◌, ◌<◌, ◌∙◌, Some, None, length, sym, ap, subst, arith}
use Rattle.fal_base.specs.Tree.{Tree, key_of}
use Rattle.fal_inode.specs.Named.{without_named, first_parent}
use Rattle.fal_inode.proofs.Leaving.{others_stay, shrinks, none_named}
use Rattle.fal_inode.proofs.rows.Rows.drop_named.Goals as goal

pub loop-parent-smaller : goal.loop-parent-smaller
loop-parent-smaller c =
    let name = c.loop-parent.key.name in
    let before : Tree = c.loop-parent.self-inside.map.entries in
    let found : first_parent before name ≡ Some c.in-Some.parent = ap (λ rows. first_parent rows name) (sym c.as_slice.ensures.entries) ∙ sym c.first_parent_of.ensures ∙ c.in-Some.is in
    subst (λ (rows : Tree). length rows < length before) (sym c.take.ensures.entries) (shrinks before name c.in-Some.parent found)

pub loop-parent-preserved : goal.loop-parent-preserved
loop-parent-preserved c =
    let name = c.loop-parent.key.name in
    let before : Tree = c.loop-parent.self-inside.map.entries in
    let room = c.loop-parent.invariant.room in
    let here = c.take.ensures.room in
    record {
      rows = ap (λ rows. without_named rows name) c.take.ensures.entries ∙ others_stay before (key_of c.in-Some.parent name) ∙ c.loop-parent.invariant.rows;
      name = c.loop-parent.invariant.name;
      room = omega arith;
    }

pub returns-clause-rows : goal.returns-clause-rows
returns-clause-rows c =
    let name = c.loop-parent.key.name in
    let left : Tree = c.loop-parent.self-inside.map.entries in
    let none : first_parent left name ≡ None = ap (λ rows. first_parent rows name) (sym c.as_slice.ensures.entries) ∙ sym c.first_parent_of.ensures ∙ c.in_default.is in
    sym (none_named left name none) ∙ c.loop-parent.invariant.rows ∙ ap (λ (s : _). without_named s.rows c.args.name) c.self.view_is
