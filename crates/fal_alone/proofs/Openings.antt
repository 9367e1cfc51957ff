-- The actors and queues of a cluster before its first event, one by one.
use Rattle.std.proofs.Common.{◌≡◌, ⊎_elim, ℕ, suc, ◌+◌, List, [], ◌∷◌, ◌++◌, length, Some, sym, ap, ◌∙◌, subst, arith}
use Rattle.std.specs.Prelude.{slice_get, unwrap_or}
use Rattle.fal_base.specs.declared.call.Call.{Call}
use Rattle.fal_base.specs.declared.call.Config.{Config}
use Rattle.fal_client.specs.State.{ClientState, opening_client}
use Rattle.fal_coord.specs.State.{CoordState, opening_coord}
use Rattle.fal_node.specs.Patch.{SeenNode}
use Rattle.fal_node.specs.State.{opening_node}
use Rattle.fal_story.proofs.Lists.Grown.{slice_get_snoc}
use Rattle.fal_story.specs.Clusters.{calls_of_lane}
use Rattle.fal_story.specs.Fresh.{came}
use Rattle.fal_story.specs.Run.{run}
use Rattle.fal_alone.specs.Opening.{AreClients, AreNodes, AreEmpty}
use Rattle.fal_alone.specs.Queues.{QueueSeen}
use Rattle.fal_alone.specs.Whole.{IsWhole}

-- nothing stands in a list of none
pub none_stands : {A : Type 0} (P : ℕ → A → Type 0) (xs : List A) → xs ≡ [] → (k : ℕ) (x : A) → slice_get xs k ≡ Some x → P k x
none_stands P [] none k x at = absurd (cc)
none_stands P (y ∷ xs) none k x at = absurd (cc)

-- what holds of each item holds with one more at the end
pub one_more : {A : Type 0} (P : ℕ → A → Type 0) (xs : List A) (x : A) → ((k : ℕ) (y : A) → slice_get xs k ≡ Some y → P k y) → P (length xs) x → (k : ℕ) (y : A) → slice_get (xs ++ x ∷ []) k ≡ Some y → P k y
one_more P xs x before last k y at =
    ⊎_elim (λ h. before k y h) (λ h. subst (λ n. P n y) (sym h.0) (subst (P (length xs)) h.1 last)) (slice_get_snoc xs x k y at)

-- the calls of a lane stand at its place
pub calls_at : (config : Config) (place : ℕ) (calls : List Call) → slice_get config.lanes place ≡ Some calls → calls ≡ calls_of_lane config (place + 1)
calls_at config place calls at =
    let next : suc place ≡ place + 1 = omega arith in
    sym (ap (λ o. unwrap_or o []) at) ∙ ap (calls_of_lane config) next

-- the client of one more lane
pub client_more : (config : Config) (clients : List ClientState) (lane : ℕ) (calls : List Call) (c : ClientState) → lane ≡ length clients + 1 → slice_get config.lanes (length clients) ≡ Some calls
    → c ≡ opening_client lane config.nodes calls → AreClients config clients → AreClients config (clients ++ c ∷ [])
client_more config clients lane calls c number at is before =
    one_more (λ place d. d ≡ opening_client (place + 1) config.nodes (calls_of_lane config (place + 1))) clients c before
    (is ∙ ap (λ n. opening_client n config.nodes calls) number ∙ ap (opening_client (length clients + 1) config.nodes) (calls_at config (length clients) calls at))

-- one more node
pub node_more : (config : Config) (nodes : List SeenNode) (n : SeenNode) → n.state ≡ opening_node (length nodes) config.nodes config.batch → AreNodes config nodes → AreNodes config (nodes ++ n ∷ [])
node_more config nodes n is before = one_more (λ number x. x.state ≡ opening_node number config.nodes config.batch) nodes n before is

-- one more queue
pub queue_more : (queues : List QueueSeen) (queue : QueueSeen) → queue.items ≡ [] → AreEmpty queues → AreEmpty (queues ++ queue ∷ [])
queue_more queues queue is before = one_more (λ place q. q.items ≡ []) queues queue before is

-- together they are a cluster of no event
pub whole_opens : (config : Config) (clients : List ClientState) (nodes : List SeenNode) (coord : CoordState) (queues : List QueueSeen) → length clients ≡ length config.lanes → AreClients config clients → length nodes ≡ config.nodes → AreNodes config nodes
    → coord ≡ opening_coord config.nodes → length queues ≡ length config.lanes + 1 + config.nodes → AreEmpty queues → IsWhole config [] clients nodes coord queues
unfolding run came
whole_opens config clients nodes coord queues lanes are_clients count are_nodes is_coord all empty = record {
  clients_count = lanes;
  nodes_count = count;
  queues_count = all;
  at = record { clients_are = are_clients; nodes_are = are_nodes; coord_is = is_coord; queues_are = empty };
}
