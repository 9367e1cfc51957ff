use Rattle.std.proofs.Common.{◌∙◌, ℕ, List, length, nat_lt, ◌==◌, rules, tests}
use Rattle.std.proofs.lemmas.Iterator.Consumers.{YieldsList-at, YieldsList-from_filter, YieldsList-turn, YieldsList-end}
use Rattle.std.proofs.lemmas.Iterator.Splits.{YieldsList-from_slice_split}
use Rattle.fal_base.specs.Paths.{components}
use Rattle.fal_base.proofs.Short.{short_at}
use Rattle.fal_base.proofs.path.names_of.Goals as goal

pub from_short-requires : goal.from_short-requires
from_short-requires c =
    let turn = YieldsList-turn
    (YieldsList-at c.into_iter-name-iterator.ensures.into_iter_gives (YieldsList-from_filter _ (λ (part : List ℕ). nat_lt 0 (length part))
    (YieldsList-at c.filter-name-items.ensures.source (YieldsList-from_slice_split _ (λ b. b == 47) c.args.bytes.now c.split.ensures.rest c.split.ensures.done c.split.ensures.closure (λ x b q k. search (rules, tests))))
    c.filter-name-items.ensures.closure (λ x r q k. search (rules, tests))))
    c.loop-name.yielded c.loop-name.name-iterator c.loop-name.yielded_by c.next.result c.next.new.self c.in-Some.name c.in-Some.is c.next.ensures.steps in
    short_at (components c.args.bytes.now) _ _ c.requires turn.0 turn.1

pub returns : goal.returns
returns c =
    let ended = YieldsList-end
    (YieldsList-at c.into_iter-name-iterator.ensures.into_iter_gives (YieldsList-from_filter _ (λ (part : List ℕ). nat_lt 0 (length part))
    (YieldsList-at c.filter-name-items.ensures.source (YieldsList-from_slice_split _ (λ b. b == 47) c.args.bytes.now c.split.ensures.rest c.split.ensures.done c.split.ensures.closure (λ x b q k. search (rules, tests))))
    c.filter-name-items.ensures.closure (λ x r q k. search (rules, tests))))
    c.loop-name.yielded c.loop-name.name-iterator c.loop-name.yielded_by c.next.result c.next.new.self c.in-None.is c.next.ensures.steps in
    c.loop-name.invariant.2 ∙ ended.0
