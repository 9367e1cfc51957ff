use Rattle.std.proofs.Common.{◌-◌, length}
use Rattle.fal_alone.proofs.Pushes.{ArePushed}
use Rattle.fal_alone.specs.Shown.{arrival}
use Rattle.fal_alone.proofs.fresh.push_arrivals.Given as goal

-- what came so far stands at the end
abbrev pub invariant-loop-env : goal.invariant-loop-env
invariant-loop-env l = ArePushed (λ number. arrival l.actor number) (l.queue.items) l.initial.events.items l.events.items l.at

abbrev pub decreases-loop-env : goal.decreases-loop-env
decreases-loop-env l = length (l.queue.items) - l.at
