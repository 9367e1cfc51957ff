use Rattle.std.proofs.Common.{count_by, filter, length, is_none, sym, ap, ◌∙◌}
use Rattle.std.proofs.lemmas.List.{length-map}
use Rattle.std.proofs.lemmas.List.Sums.{length-filter}
use Rattle.fal_wait.specs.declared.waiting_call.WaitingCall.{WaitingCall}
use Rattle.fal_wait.specs.Waiting.{free_tickets}
use Rattle.fal_wait.proofs.waiting.Waiting.free_count.Goals as goal

pub returns : goal.returns
returns c =
    let calls = c.self.inside.calls.items in
    c.count_free.ensures ∙ ap (λ ws. count_by (λ (w : WaitingCall). is_none w.fetch) ws) c.deref.ensures.value
    ∙ sym (length-map (filter (λ (w : WaitingCall). is_none w.fetch) calls) (λ w. w.ticket) ∙ length-filter (λ w. is_none w.fetch) calls)
    ∙ ap (λ s. length (free_tickets s.list)) c.self.view_is
