use Rattle.std.proofs.Common.{◌≡◌, length, filter_map}
use Rattle.fal_batch.specs.Plan.{plan_calls, plan_of, free_call}
use Rattle.fal_batch.specs.Seen.{plan_seen, site_seen}
use Rattle.fal_batch.proofs.planning.plan_at_site.Given as goal

-- the rest of the calls, from the plan so far on, make up the plan
abbrev pub invariant-loop-ticket : goal.invariant-loop-ticket
invariant-loop-ticket l =
    plan_calls (site_seen l.site) (plan_seen l.plan) (filter_map (λ ticket. free_call l.waiting.list ticket) l.rest) ≡ plan_of (site_seen l.site) l.waiting.list

abbrev pub decreases-loop-ticket : goal.decreases-loop-ticket
decreases-loop-ticket l = length l.rest
