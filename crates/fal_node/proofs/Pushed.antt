-- One more at the end of a list of changes.
use Rattle.std.proofs.Common.{◌≡◌, ◌+◌, List, [], ◌∷◌, ◌++◌, length, cond, refl, arith}
use Rattle.std.proofs.lemmas.List.Sums.{sum_by_push}
use Rattle.fal_wait.specs.Lists.{IsPartOf}
use Rattle.fal_wait.specs.Waiting.{WaitList, free_tickets, after_open}
use Rattle.fal_wait.proofs.Bounds.{opened-after_open}
use Rattle.fal_batch.specs.declared.parts.Wanted.{Wanted}
use Rattle.fal_run.specs.declared.change.RowChange.{RowChange}
use Rattle.fal_node.specs.Patch.{is_put, puts_in}
use Rattle.fal_node.specs.Gather.{with_fetches}
use Rattle.fal_node.specs.Ready.{CanOpen}

pub with_fetches-push : (list : WaitList) (fs : List Wanted) (f : Wanted) → with_fetches list (fs ++ f ∷ []) ≡ after_open (with_fetches list fs) f.key f.waiters
with_fetches-push list [] f = refl
with_fetches-push list (x ∷ fs) f = with_fetches-push (after_open list x.key x.waiters) fs f

pub can_open_front : (list : WaitList) (fs : List Wanted) (f : Wanted) → CanOpen list (fs ++ f ∷ []) → CanOpen list fs
can_open_front list [] f h = tt
can_open_front list (x ∷ fs) f h = (h.0, can_open_front (after_open list x.key x.waiters) fs f h.1)

pub can_open_last : (list : WaitList) (fs : List Wanted) (f : Wanted) → CanOpen list (fs ++ f ∷ []) → IsPartOf f.waiters (free_tickets (with_fetches list fs))
can_open_last list [] f h = h.0
can_open_last list (x ∷ fs) f h = can_open_last (after_open list x.key x.waiters) fs f h.1

pub opened-with_fetches : (list : WaitList) (fs : List Wanted) → (with_fetches list fs).opened ≡ list.opened + length fs
opened-with_fetches list [] = omega arith
opened-with_fetches list (x ∷ fs) =
    let rest = opened-with_fetches (after_open list x.key x.waiters) fs in
    let here = opened-after_open list x.key x.waiters in
    omega arith

pub puts_in-push : (cs : List RowChange) (c : RowChange) → puts_in (cs ++ c ∷ []) ≡ puts_in cs + (cond (is_put c.change) 1 0)
puts_in-push cs c = sum_by_push (λ (x : RowChange). cond (is_put x.change) 1 0) cs c
