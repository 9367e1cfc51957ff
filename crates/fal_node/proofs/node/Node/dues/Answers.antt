use Rattle.std.proofs.Common.{◌≡◌, not, ap, subst, ◌∙◌, rules, tests}
use Rattle.std.proofs.lemmas.Iterator.{YieldsList, YieldsList-from_slice, YieldsList-from_map, items_from_collect}
use Rattle.std.proofs.lemmas.Iterator.Adapters.{YieldsList-from_once}
use Rattle.std.proofs.lemmas.Iterator.Consumers.{YieldsList-at, YieldsList-from_filter, YieldsList-from_chain}
use Rattle.std.specs.Iterator.Adapters.{once_steps}
use Rattle.std.proofs.lemmas.Result.{IfOk-at_ok}
use Rattle.fal_node.specs.Due.{dues}
use Rattle.fal_node.specs.declared.batch.Batch.{Batch}
use Rattle.fal_node.specs.declared.item.Item.{Item}
use Rattle.fal_node.specs.declared.event.OwnEvent.TheVariants.{Exec, Release, Serve}
use Rattle.fal_node.specs.Serve.{can_serve}
use Rattle.fal_node.proofs.node.Node.dues.Goals as goal

pub returns : goal.returns
returns c =
    let n = c.args.self.now.state in
    IfOk-at_ok (λ events. events.items ≡ dues n) c.in_ok-collect.was (items_from_collect _ c.collect.ensures.ran
    (YieldsList-from_chain (YieldsList-at c.chain-3.ensures.first
    (YieldsList-from_chain (YieldsList-at c.chain-2.ensures.first
    (YieldsList-from_chain (YieldsList-at c.chain.ensures.first
    (subst (λ events. YieldsList once_steps (λ x. x) c.into_iter.result events) c.due_gather.ensures (YieldsList-from_once c.due_gather.result c.into_iter.ensures.into_iter_gives.0)))
    (YieldsList-at c.chain.ensures.second (YieldsList-from_map _ (λ (b : Batch). Exec b.number) (YieldsList-at c.map.ensures.source
    (YieldsList-from_filter _ (λ (b : Batch). not b.executed) (YieldsList-at c.filter.ensures.source (YieldsList-from_slice n.batches (c.iter.ensures.rest ∙ c.deref.ensures.value ∙ ap (λ s. s.state.batches) c.self.view_is)))
    c.filter.ensures.closure (λ x r q k. search (rules, tests)))) c.map.ensures.closure (λ x r q k. search rules))) c.chain.ensures.first_done c.chain.ensures.second_done))
    (YieldsList-at c.chain-2.ensures.second (YieldsList-from_map _ (λ (b : Batch). Release b.number) (YieldsList-at c.map-2.ensures.source
    (YieldsList-from_filter _ (λ (b : Batch). b.executed) (YieldsList-at c.filter-2.ensures.source (YieldsList-from_slice n.batches (c.iter-2.ensures.rest ∙ c.deref-2.ensures.value ∙ ap (λ s. s.state.batches) c.self.view_is)))
    c.filter-2.ensures.closure (λ x r q k. search (rules, tests)))) c.map-2.ensures.closure (λ x r q k. search rules))) c.chain-2.ensures.first_done c.chain-2.ensures.second_done))
    (YieldsList-at c.chain-3.ensures.second (YieldsList-from_map _ (λ (i : Item). Serve i.number) (YieldsList-at c.map-3.ensures.source
    (YieldsList-from_filter _ (λ (i : Item). can_serve n i.message) (YieldsList-at c.filter-3.ensures.source (YieldsList-from_slice n.items (c.iter-3.ensures.rest ∙ c.deref-3.ensures.value ∙ ap (λ s. s.state.items) c.self.view_is)))
    c.filter-3.ensures.closure (λ x r q k. search (rules, tests)))) c.map-3.ensures.closure (λ x r q k. search rules))) c.chain-3.ensures.first_done c.chain-3.ensures.second_done))
