use Rattle.std.proofs.Common.{◌≡◌, drop, filter_map}
use Rattle.std.specs.List.{list_all}
use Rattle.fal_wait.specs.Waiting.{free_tickets}
use Rattle.fal_batch.specs.Plan.{is_skipped, free_call, free_calls}
use Rattle.fal_batch.specs.Seen.{site_seen}
use Rattle.fal_batch.proofs.idle.are_all_skipped.Given as goal

-- all are skipped where the rest are
abbrev pub invariant-loop-at : goal.invariant-loop-at
invariant-loop-at l =
    list_all (λ w. is_skipped (site_seen l.site) w.call) (filter_map (λ ticket. free_call l.waiting.list ticket) (drop l.at (free_tickets l.waiting.list)))
    ≡ list_all (λ w. is_skipped (site_seen l.site) w.call) (free_calls l.waiting.list)
