use Rattle.std.proofs.Common.{◌≡◌, true, false, refl, subst, sym, ◌∙◌}
use Rattle.std.specs.Prelude.{IsNone, IsSome}
use Rattle.fal_base.specs.declared.event.Event.{Event}
use Rattle.fal_coord.specs.declared.event.CoordEvent.TheVariants as coord_event
use Rattle.fal_story.specs.Run.{IsLegal, run}
use Rattle.fal_story.specs.Told.{Told}
use Rattle.fal_alone.specs.Turns.{IsEventOfCoord, deed_after}
use Rattle.fal_alone.proofs.Taken.{of_hear, no_hear, some_hear}
use Rattle.fal_alone.proofs.cluster.Cluster.hear.Goals as goal

pub coord_takes-requires : goal.coord_takes-requires
coord_takes-requires c =
    let told = c.args.self.now in
    let legal = subst (λ (t : Told). IsLegal t.config t.events) c.self.view_is c.legal.ensures in
    let envelope = c.in-Ok-Some.envelope in
    let found = c.in-Ok-Some.ensures.some envelope c.in-Ok-Some.field-0-is in
    subst (λ (e : Event). IsEventOfCoord told e (coord_event.Hear envelope)) (sym c.requires)
    (of_hear told.config (run told.config told.events) c.args.env envelope legal.enabled found.0)

pub returns-in-Err-clause-refused : goal.returns-in-Err-clause-refused
returns-in-Err-clause-refused c =
    let told = c.args.self.now in
    let legal = subst (λ (t : Told). IsLegal t.config t.events) c.self.view_is c.legal.ensures in
    let some = subst (λ (e : Event). IsSome (deed_after told e)) (sym c.requires) (some_hear told.config told.events c.args.env legal c.in-Err.ensures.err) in
    (λ is. absurd (cc), λ none. let wrong : true ≡ false = sym some ∙ none in absurd (cc))

pub returns-in-Ok-None-clause-refused : goal.returns-in-Ok-None-clause-refused
returns-in-Ok-None-clause-refused c =
    let told = c.args.self.now in
    let none = subst (λ (e : Event). IsNone (deed_after told e)) (sym c.requires) (no_hear told.config told.events c.args.env (c.in-Ok-None.ensures.none c.in-Ok-None.field-0-is)) in
    (λ is. none, λ gone. refl)
