use Rattle.std.proofs.Common.{Option, Some, ap, ◌∙◌, Vec, Global}
use Rattle.fal_base.specs.declared.key.Key.{Key}
use Rattle.fal_wire.specs.declared.letter.Letter.{Letter}
use Rattle.fal_coord.specs.declared.patch.Next.{Next}
use Rattle.fal_coord.specs.declared.patch.Patch.TheVariants as patch
use Rattle.fal_coord.specs.declared.walks.Learned.{Learned}
use Rattle.fal_coord.specs.Onward.{walk_of, next_of, walk_letters}
use Rattle.fal_coord.specs.Patch.{SeenCoord}
use Rattle.fal_coord.proofs.Starting.{learn_does}
use Rattle.fal_coord.proofs.hear.learn.Goals as goal

pub returns : goal.returns
returns c =
    let coord = c.args.coord.now.state in
    let call = c.args.call.now in
    let with : Key → Option Learned = λ k. Some (record { key = k; dentry = c.args.dentry }) in
    learn_does coord call c.args.key c.args.dentry c.draft_of.result c.requires.at
    (c.draft_of.ensures.patch ∙ ap (λ (n : Next). patch.Learn c.args.key c.args.dentry n) (c.in_ok-next.ensures.next ∙ ap (λ (k : Key). next_of coord.table.nodes call.op (walk_of coord (with k) call)) c.in_ok-copy.ensures))
    (ap (λ (v : Vec Letter Global). v.items) c.draft_of.ensures.letters ∙ c.in_ok-next.ensures.letters
    ∙ ap (λ (s : SeenCoord). walk_letters coord s.state.operation call (walk_of coord (with c.in_ok-copy.field-0) call)) c.coord.view_is
    ∙ ap (λ (k : Key). walk_letters coord coord.operation call (walk_of coord (with k) call)) c.in_ok-copy.ensures)
    c.draft_of.ensures.notes
