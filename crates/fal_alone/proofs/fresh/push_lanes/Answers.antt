use Rattle.std.proofs.Common.{sym, ap, ◌∙◌, ◌++◌}
use Rattle.std.proofs.lemmas.List.{append-nil}
use Rattle.fal_alone.proofs.Pushes.{no_lane}
use Rattle.fal_alone.proofs.fresh.push_lanes.Goals as goal

pub returns : goal.returns
returns c =
    let events = c.loop-client.events.items in
    sym (append-nil events) ∙ ap (λ more. events ++ more) (sym (no_lane c.loop-client.lane c.loop-client.left.now c.loop-client.rest.now c.in_default.ensures.cases)) ∙ c.loop-client.invariant.whole
