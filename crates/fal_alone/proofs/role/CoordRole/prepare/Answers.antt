use Rattle.std.proofs.Common.{ap, sym, ◌∙◌, refl, rules}
use Rattle.fal_coord.specs.State.{CoordState}
use Rattle.fal_coord.specs.Step.{coord_step}
use Rattle.fal_coord.specs.declared.patch.Prepared.{Prepared}
use Rattle.fal_story.specs.Machines.{coord_made}
use Rattle.fal_alone.proofs.Roles.{coord_prepared, nothing_made, no_work}
use Rattle.fal_alone.proofs.role.CoordRole.prepare.Goals as goal

pub returns-clause-ok : goal.returns-clause-ok
returns-clause-ok c =
    ap (λ (x : CoordState). coord_made (coord_step x c.args.own.now)) (sym c.ready.ensures.same)
    ∙ coord_prepared c.ready.new.self (coord_step c.ready.new.self.state c.args.own.now) c.in_ok-prepared.prepared c.take_outputs-outputs.new.self.patch c.take_outputs-outputs.result
    c.in_ok-prepared.ensures.ok (ap (λ (p : Prepared). p.patch) c.take_outputs-outputs.ensures.none) c.take_outputs-outputs.ensures.outputs

pub returns-clause-refused : goal.returns-clause-refused
returns-clause-refused c = (λ is. absurd (cc), λ none. let wrong = c.in_ok-prepared.ensures.refused.1 (no_work coord_made (λ _. refl) _ none) in absurd (cc))

pub returns-in_err-prepared-clause-refused : goal.returns-in_err-prepared-clause-refused
returns-in_err-prepared-clause-refused c =
    let there = c.in_err-prepared.ensures.refused in
    (λ is. nothing_made coord_made refl _ (there.0 (search rules)), λ none. let refused = there.1 (no_work coord_made (λ _. refl) _ none) in search rules)
