use Rattle.std.proofs.Common.{List, refl, sym, ap, ◌∙◌, Vec, Global}
use Rattle.std.specs.Prelude.{slice_get}
use Rattle.fal_base.specs.declared.call.CallRec.{CallRec}
use Rattle.fal_wire.specs.declared.letter.Letter.{Letter}
use Rattle.fal_coord.specs.declared.patch.Next.{Next}
use Rattle.fal_coord.specs.declared.patch.Patch.TheVariants as patch
use Rattle.fal_coord.specs.Patch.{SeenCoord}
use Rattle.fal_coord.proofs.Starting.{first_below, first_does}
use Rattle.fal_coord.proofs.begin.start_first.Goals as goal

pub start-requires-clause-below : goal.start-requires-clause-below
start-requires-clause-below c =
    let coord = c.args.coord.now.state in
    first_below coord coord.waiting c.in-Some.call.now
    (ap (λ (s : SeenCoord). slice_get s.state.waiting 0) (sym c.coord.view_is) ∙ ap (λ (ws : List CallRec). slice_get ws 0) (sym c.deref.ensures.value) ∙ sym c.in-Some.ensures.value)
    c.requires

pub returns-in_ok-next-in-Some-clause-does : goal.returns-in_ok-next-in-Some-clause-does
returns-in_ok-next-in-Some-clause-does c =
    let coord = c.args.coord.now.state in
    first_does coord coord.waiting c.in-Some.call.now c.draft_of.result refl
    (ap (λ (s : SeenCoord). slice_get s.state.waiting 0) (sym c.coord.view_is) ∙ ap (λ (ws : List CallRec). slice_get ws 0) (sym c.deref.ensures.value) ∙ sym c.in-Some.ensures.value)
    (c.draft_of.ensures.patch ∙ ap (λ (n : Next). patch.Start n) c.in_ok-next-in-Some.ensures.next)
    (ap (λ (v : Vec Letter Global). v.items) c.draft_of.ensures.letters ∙ c.in_ok-next-in-Some.ensures.letters)
    c.draft_of.ensures.notes
