use Rattle.std.proofs.Common.{◌≡◌, ℕ, suc, ◌+◌, ◌-◌, ◌∷◌, [], ◌++◌, List, map, Vec, Global, ap, sym, ◌∙◌, arith}
use Rattle.std.specs.Vec.Iter.{into_iter_items}
use Rattle.fal_base.specs.declared.event.Actor.TheVariants.{Node}
use Rattle.fal_base.specs.declared.event.Point.TheVariants.{Here}
use Rattle.fal_base.specs.declared.row.NamedRow.{NamedRow}
use Rattle.fal_move.specs.Moving.{share_of}
use Rattle.fal_place.specs.Placement.{Placing}
use Rattle.fal_wire.specs.declared.letter.Letter.{Letter}
use Rattle.fal_wire.specs.declared.message.Message.TheVariants as message
use Rattle.fal_wire.specs.Letters.{letter}
use Rattle.fal_coord.specs.Patch.{SeenCoord}
use Rattle.fal_coord.proofs.Blocked.{installs_below, installs_more, first_share, other_shares}
use Rattle.fal_coord.proofs.placing.install_letters.Goals as goal

pub loop-node-preserved : goal.loop-node-preserved
loop-node-preserved c =
    let operation = c.args.coord.now.state.operation in
    let table = c.args.table.now in
    let rows = c.args.rows.now in
    let node = c.loop-node.node in
    let after = table.nodes - (node + 1) in
    let one : table.nodes - node ≡ suc after = omega (arith, c.loop-node-test.true, c.nodes-node-end.ensures) in
    let left : c.in-Some.share.items ∷ map (λ (s : Vec NamedRow Global). s.items) (into_iter_items c.next.new.self) ≡ map (λ n. share_of table c.args.name.now n rows) _ =
    ap (map (λ (s : Vec NamedRow Global). s.items)) (sym c.in-Some.ensures.items) ∙ c.loop-node.invariant.shares in
    let share : c.in-Some.share.items ≡ share_of table c.args.name.now node rows = first_share _ node _ after _ _ one left in
    let placing : Placing = record { name = c.args.name.now; rule = c.args.rule } in
    let told : ℕ → ℕ → List NamedRow → Letter = λ number version own. letter (Node node) (Here 0) (message.Install number version c.args.rule own) in
    let letter_is : c.install_letter.result ≡ told operation table.version (share_of table c.args.name.now node rows) =
    c.install_letter.ensures ∙ ap (λ number. told number c.version.result c.in-Some.share.items) (ap (λ (s : SeenCoord). s.state.operation) c.coord.view_is)
    ∙ ap (λ version. told operation version c.in-Some.share.items) c.version.ensures ∙ ap (told operation table.version) share in
    record {
      letters = c.in_ok-push.ensures.items ∙ ap (λ (l : List Letter). l ++ c.install_letter.result ∷ []) c.loop-node.invariant.letters
          ∙ ap (λ (l : Letter). installs_below operation table placing rows node ++ l ∷ []) letter_is ∙ sym (installs_more operation table placing rows node);
      shares = other_shares _ node _ after _ _ one left;
    }
