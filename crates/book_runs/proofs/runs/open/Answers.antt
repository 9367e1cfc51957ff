use Rattle.std.proofs.Common.{ap, ◌∙◌}
use Rattle.std.specs.List.{range_with_len}
use Rattle.fal_story.specs.Told.{Told}
use Rattle.book_runs.proofs.Opened.{new_seats}
use Rattle.book_runs.proofs.runs.open.Goals as goal

pub post_all-requires-clause-new : goal.post_all-requires-clause-new
post_all-requires-clause-new c =
    new_seats c.args.config c.new-book.result.told.config c.new-book.result.told.events c.in_ok-lock.lock.table (range_with_len 0 33) c.in_ok-lock.seats.items c.in_ok-lock.ensures.seats
    (ap (λ (t : Told). t.config) c.new-book.ensures ∙ c.in_ok-copy.ensures) (ap (λ (t : Told). t.events) c.new-book.ensures)
