use Rattle.std.proofs.Common.{◌≡◌, ◌∙◌, sym, subst}
use Rattle.fal_place.specs.Placement.{IsSoundTable}
use Rattle.fal_place.specs.Starts.{AreStarts}
use Rattle.fal_place.proofs.Within.{sound-with_change}
use Rattle.fal_place.proofs.table.Table.next.Goals as goal

pub invariant_of-result : goal.invariant_of-result
invariant_of-result c =
    let within = rw (← c.self.view_is) at c.requires.within in
    let copied : c.reserve.new.self.items ≡ c.self.inside.rules.items = c.reserve.ensures.items ∙ c.in_ok-rules.ensures ∙ c.deref.ensures.value in
    let sound = sound-with_change c.self.inside.nodes c.reserve.new.self.items _ within (subst (IsSoundTable c.self.inside.nodes) (sym copied) c.self.invariant.0) in
    (subst (IsSoundTable c.self.inside.nodes) (sym c.put_rule.ensures.rules) sound, subst (AreStarts c.starts_of.result.items) c.deref-2.ensures.value c.starts_of.ensures)
