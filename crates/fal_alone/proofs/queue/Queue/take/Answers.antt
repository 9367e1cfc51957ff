use Rattle.std.proofs.Common.{◌∙◌, ap, sym}
use Rattle.std.specs.Prelude.{slice_get}
use Rattle.std.specs.List.{remove}
use Rattle.fal_story.proofs.Drain.Dues.{without_at, without_none}
use Rattle.fal_alone.specs.Queues.{QueueSeen}
use Rattle.fal_alone.proofs.queue.Queue.take.Goals as goal

pub returns-in-Some-remove-clause-items : goal.returns-in-Some-remove-clause-items
returns-in-Some-remove-clause-items c =
    c.in-Some-remove.ensures.items
    ∙ ap (λ (s : QueueSeen). remove s.items c.in-Some.i) c.self.view_is
    ∙ without_at c.args.number 0 c.in-Some.i c.args.self.now.items c.requires (ap (λ (s : QueueSeen). slice_get s.items c.in-Some.i) (sym c.self.view_is) ∙ c.in-Some.ensures.some)

pub returns-in_default-clause-items : goal.returns-in_default-clause-items
returns-in_default-clause-items c = sym (without_none c.args.number c.args.self.now.items (λ i at. c.in_default.ensures.none i (ap (λ (s : QueueSeen). slice_get s.items i) c.self.view_is ∙ at)))
