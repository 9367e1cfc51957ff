use Rattle.std.proofs.Common.{◌≡◌, map, filter, is_none, length}
use Rattle.std.specs.Prelude.{slice_get}
use Rattle.fal_wait.specs.Waiting.{free_tickets}
use Rattle.fal_wait.proofs.waiting.Waiting.free_at.Given as goal

abbrev pub invariant-loop-first : goal.invariant-loop-first
invariant-loop-first l = slice_get (map (λ w. w.ticket) (filter (λ w. is_none w.fetch) l.rest)) l.left ≡ slice_get (free_tickets l.self.list) l.at

abbrev pub decreases-loop-first : goal.decreases-loop-first
decreases-loop-first l = length l.rest
