use Rattle.std.proofs.Common.{◌==◌, sym, ◌∙◌, ap}
use Rattle.std.specs.List.{position}
use Rattle.fal_wait.proofs.Firsts.{first_at, no_first}
use Rattle.fal_wait.proofs.waiting_call.take_call.Goals as goal

pub returns-in-None-clause-call : goal.returns-in-None-clause-call
returns-in-None-clause-call c =
    (no_first (λ w. w.ticket == c.args.ticket) c.args.calls.now.items (sym (ap (λ xs. position (λ w. w.ticket == c.args.ticket) xs) c.deref.ensures.value) ∙ sym c.call_place.ensures ∙ c.in-None.is)).0

pub returns-in-None-clause-rest : goal.returns-in-None-clause-rest
returns-in-None-clause-rest c =
    (no_first (λ w. w.ticket == c.args.ticket) c.args.calls.now.items (sym (ap (λ xs. position (λ w. w.ticket == c.args.ticket) xs) c.deref.ensures.value) ∙ sym c.call_place.ensures ∙ c.in-None.is)).1

pub returns-in-Some-clause-call : goal.returns-in-Some-clause-call
returns-in-Some-clause-call c =
    let place = sym (ap (λ xs. position (λ w. w.ticket == c.args.ticket) xs) c.deref.ensures.value) ∙ sym c.call_place.ensures ∙ c.in-Some.is in
    (first_at (λ w. w.ticket == c.args.ticket) c.args.calls.now.items c.in-Some.at c.remove.result place c.remove.ensures.value).0

pub returns-in-Some-clause-rest : goal.returns-in-Some-clause-rest
returns-in-Some-clause-rest c =
    let place = sym (ap (λ xs. position (λ w. w.ticket == c.args.ticket) xs) c.deref.ensures.value) ∙ sym c.call_place.ensures ∙ c.in-Some.is in
    c.remove.ensures.items ∙ (first_at (λ w. w.ticket == c.args.ticket) c.args.calls.now.items c.in-Some.at c.remove.result place c.remove.ensures.value).1
