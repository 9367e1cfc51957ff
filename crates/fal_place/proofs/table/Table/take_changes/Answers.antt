use Rattle.std.proofs.Common.{◌≡◌, ◌∙◌, ap, sym, subst, fold}
use Rattle.fal_place.specs.Placement.{with_change, IsSoundTable}
use Rattle.fal_place.specs.Starts.{AreStarts}
use Rattle.fal_place.proofs.Carried.{catches_up}
use Rattle.fal_place.proofs.Within.{sound-with_changes}
use Rattle.fal_place.proofs.table.Table.take_changes.Goals as goal

-- more room changes no rule
pub invariant_of-self : goal.invariant_of-self
invariant_of-self c = subst (λ rules. IsSoundTable c.self.inside.nodes rules × AreStarts c.self.inside.starts.items rules) (sym c.reserve.ensures.items) c.self.invariant

pub invariant_of-self-2 : goal.invariant_of-self-2
invariant_of-self-2 c =
    let within = rw (← c.self.view_is) at c.requires in
    let set : c.put_rules.new.rules.items ≡ fold with_change c.self.inside.rules.items c.args.changes.now =
    c.put_rules.ensures ∙ ap (λ rules. fold with_change rules c.in_ok-changes.changes.items) c.reserve.ensures.items ∙ ap (fold with_change c.self.inside.rules.items) c.in_ok-changes.ensures in
    let sound = sound-with_changes c.self.inside.nodes c.self.inside.rules.items c.args.changes.now within c.self.invariant.0 in
    (subst (IsSoundTable c.self.inside.nodes) (sym set) sound, subst (AreStarts c.starts_of.result.items) c.deref.ensures.value c.starts_of.ensures)

pub returns-clause-caught_up : goal.returns-clause-caught_up
returns-clause-caught_up c =
    let set : c.put_rules.new.rules.items ≡ fold with_change c.self.inside.rules.items c.args.changes.now =
    c.put_rules.ensures ∙ ap (λ rules. fold with_change rules c.in_ok-changes.changes.items) c.reserve.ensures.items ∙ ap (fold with_change c.self.inside.rules.items) c.in_ok-changes.ensures in
    catches_up _ _ _ _ (rw (set, ← c.self.view_is))
