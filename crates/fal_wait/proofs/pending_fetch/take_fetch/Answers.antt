use Rattle.std.proofs.Common.{◌==◌, sym, ◌∙◌, ap}
use Rattle.std.specs.List.{position}
use Rattle.fal_wait.proofs.Firsts.{first_at, no_first}
use Rattle.fal_wait.proofs.pending_fetch.take_fetch.Goals as goal

pub returns-in-None-clause-fetch : goal.returns-in-None-clause-fetch
returns-in-None-clause-fetch c =
    (no_first (λ f. f.number == c.args.number) c.args.fetches.now.items (sym (ap (λ xs. position (λ f. f.number == c.args.number) xs) c.deref.ensures.value) ∙ sym c.fetch_place.ensures ∙ c.in-None.is)).0

pub returns-in-None-clause-rest : goal.returns-in-None-clause-rest
returns-in-None-clause-rest c =
    (no_first (λ f. f.number == c.args.number) c.args.fetches.now.items (sym (ap (λ xs. position (λ f. f.number == c.args.number) xs) c.deref.ensures.value) ∙ sym c.fetch_place.ensures ∙ c.in-None.is)).1

pub returns-in-Some-clause-fetch : goal.returns-in-Some-clause-fetch
returns-in-Some-clause-fetch c =
    let place = sym (ap (λ xs. position (λ f. f.number == c.args.number) xs) c.deref.ensures.value) ∙ sym c.fetch_place.ensures ∙ c.in-Some.is in
    (first_at (λ f. f.number == c.args.number) c.args.fetches.now.items c.in-Some.at c.remove.result place c.remove.ensures.value).0

pub returns-in-Some-clause-rest : goal.returns-in-Some-clause-rest
returns-in-Some-clause-rest c =
    let place = sym (ap (λ xs. position (λ f. f.number == c.args.number) xs) c.deref.ensures.value) ∙ sym c.fetch_place.ensures ∙ c.in-Some.is in
    c.remove.ensures.items ∙ (first_at (λ f. f.number == c.args.number) c.args.fetches.now.items c.in-Some.at c.remove.result place c.remove.ensures.value).1
