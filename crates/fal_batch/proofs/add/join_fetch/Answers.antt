use Rattle.std.proofs.Common.{◌∙◌, sym, ap, slice_set}
use Rattle.std.specs.List.{position}
use Rattle.fal_base.specs.Tree.{same_key}
use Rattle.fal_batch.proofs.Fetches.{joined_at, not_wanted}
use Rattle.fal_batch.proofs.add.join_fetch.Goals as goal

pub returns-in-None-clause-found : goal.returns-in-None-clause-found
returns-in-None-clause-found c =
    sym (not_wanted c.args.key.now c.args.fetches.now.items (sym (ap (λ xs. position (λ wanted. same_key wanted.key c.args.key.now) xs) c.deref.ensures.value) ∙ sym c.fetch_place.ensures ∙ c.in-None.is))

pub returns-in_ok-push-in-Some-clause-found : goal.returns-in_ok-push-in-Some-clause-found
returns-in_ok-push-in-Some-clause-found c =
    let place = sym (ap (λ xs. position (λ wanted. same_key wanted.key c.args.key.now) xs) c.deref.ensures.value) ∙ sym c.fetch_place.ensures ∙ c.in-Some.is in
    sym (joined_at c.args.key.now c.args.ticket c.args.fetches.now.items c.in-Some.at c.index_mut.result.now place c.index_mut.ensures.value).0

pub returns-in_ok-push-in-Some-clause-joined : goal.returns-in_ok-push-in-Some-clause-joined
returns-in_ok-push-in-Some-clause-joined c =
    let place = sym (ap (λ xs. position (λ wanted. same_key wanted.key c.args.key.now) xs) c.deref.ensures.value) ∙ sym c.fetch_place.ensures ∙ c.in-Some.is in
    ap (λ waiters. slice_set c.args.fetches.now.items c.in-Some.at (record { key = c.index_mut.result.now.key; waiters = waiters })) c.in_ok-push-in-Some.ensures.ok
    ∙ (joined_at c.args.key.now c.args.ticket c.args.fetches.now.items c.in-Some.at c.index_mut.result.now place c.index_mut.ensures.value).1
