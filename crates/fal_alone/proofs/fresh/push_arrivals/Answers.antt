use Rattle.std.proofs.Common.{[], ◌∷◌, ◌++◌, sym, ap, ◌∙◌}
use Rattle.fal_alone.proofs.Pushes.{push_more, push_ends}
use Rattle.fal_alone.specs.Shown.{arrival}
use Rattle.fal_alone.proofs.fresh.push_arrivals.Goals as goal

pub loop-env-preserved : goal.loop-env-preserved
loop-env-preserved c =
    push_more (λ number. arrival c.args.actor number) (c.args.queue.now.items) c.args.events.now.items c.loop-env.events.items c.push.new.self.items c.loop-env.at c.in-Some.env c.loop-env.invariant
    (sym c.get.ensures ∙ c.in-Some.is) (c.in_ok-push.ensures.items ∙ ap (λ e. c.loop-env.events.items ++ e ∷ []) c.arrival.ensures)

pub returns : goal.returns
returns c = push_ends (λ number. arrival c.args.actor number) (c.args.queue.now.items) c.args.events.now.items c.loop-env.events.items c.loop-env.at c.loop-env.invariant (sym c.get.ensures ∙ c.in_default.is)
