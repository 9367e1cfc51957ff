-- A node at its seat: what it makes ready may be entered, and what it makes then is the replay again.
use Rattle.std.proofs.Common.{cond, ◌≡◌, ℕ, ◌<◌, nat_lt, true, List, [], Option, Some, None, refl, sym, ap, ◌∙◌, subst, arith}
use Rattle.std.specs.Prelude.{IsTrue}
use Rattle.std.proofs.lemmas.Bool.Decides.{nat_tests}
use Rattle.fal_alone.proofs.Ranged.{node_stays_within}
use Rattle.fal_alone.proofs.Taken.{of_deliver, of_gather, of_exec, of_release, of_serve}
use Rattle.fal_alone.specs.Turns.{IsEventOfNodeIn, IsNodeIn}
use Rattle.fal_base.specs.declared.call.Config.{Config}
use Rattle.fal_base.specs.declared.event.Actor.TheVariants.{Node}
use Rattle.fal_base.specs.declared.event.Envelope.{Envelope}
use Rattle.fal_base.specs.declared.event.Event.{Event}
use Rattle.fal_base.specs.declared.event.Outputs.{Outputs}
use Rattle.fal_book.specs.Sitting.{IsSameSitting, Entered, MayEnter}
use Rattle.fal_node.specs.declared.event.NodeEvent.{NodeEvent}
use Rattle.fal_node.specs.declared.event.NodeEvent.TheVariants as node
use Rattle.fal_node.specs.declared.patch.Prepared.{Prepared}
use Rattle.fal_node.specs.Letters.{Work}
use Rattle.fal_node.specs.Patch.{SeenNode, patched}
use Rattle.fal_node.specs.Ready.{IsStepOf, IsStepFor}
use Rattle.fal_node.specs.State.{NodeState, opening_node}
use Rattle.fal_node.specs.Step.{StaysWithin, node_step}
use Rattle.fal_story.proofs.Histories.Numbers.{node_seated}
use Rattle.fal_story.specs.declared.inbox.Arrived.{Arrived}
use Rattle.fal_story.specs.Actors.{actor_of, node_number, number_of, actor_number}
use Rattle.fal_story.specs.Clusters.{IsCluster, is_node}
use Rattle.fal_story.specs.Machines.{Machine, NodeMachine, only_where, node_hears, node_made, machine_step, envelope_named}
use Rattle.fal_story.specs.Pushing.{MayPush, all_sent}
use Rattle.fal_story.specs.Told.{Told}
use Rattle.fal_story.specs.World.{World}
use Rattle.book_runs.specs.Posts.{Seated, IsKnown, IsPost, IsNew, IsNodePost, IsOwnOfNodeIn, IsOwnOfNode}
use Rattle.book_runs.proofs.Kept.{seen_run, may_enter, has_entered, new_post}

-- a node that is there is below 16
node_within : (config : Config) (number : ℕ) → IsCluster config → IsTrue (is_node config number) → number < 16
node_within config number cluster is =
    let below : number < config.nodes = grind (arith, nat_tests, is) in
    let nodes = cluster.few_nodes in
    omega arith

-- the node in a machine
node_in : NodeState → Machine → NodeState
node_in other (NodeMachine n) = n
node_in other m = other

-- the event is the node's own
own_actor : (sent : List Envelope) (number : ℕ) (e : Event) (own : NodeEvent) → IsOwnOfNodeIn sent number e own → actor_of e ≡ Node number
own_actor sent number e (node.Deliver envelope) is = ap actor_of is.1.0
own_actor sent number e node.Gather is = ap actor_of is
own_actor sent number e (node.Exec batch) is = ap actor_of is
own_actor sent number e (node.Release batch) is = ap actor_of is
own_actor sent number e (node.Serve item) is = ap actor_of is

-- what a node is to take is its event in the world
is_event : (config : Config) (w : World) (number : ℕ) (e : Event) (own : NodeEvent) → IsOwnOfNodeIn w.envelopes number e own → IsEventOfNodeIn config (Some w) e number own
is_event config w number e (node.Deliver envelope) is =
    subst (λ z. IsEventOfNodeIn config (Some w) z number (node.Deliver envelope)) (sym is.1.0) (of_deliver config (Some w) number is.0 envelope refl is.1.1)
is_event config w number e node.Gather is = subst (λ z. IsEventOfNodeIn config (Some w) z number node.Gather) (sym is) (of_gather config (Some w) number refl)
is_event config w number e (node.Exec batch) is = subst (λ z. IsEventOfNodeIn config (Some w) z number (node.Exec batch)) (sym is) (of_exec config (Some w) number batch refl)
is_event config w number e (node.Release batch) is = subst (λ z. IsEventOfNodeIn config (Some w) z number (node.Release batch)) (sym is) (of_release config (Some w) number batch refl)
is_event config w number e (node.Serve item) is = subst (λ z. IsEventOfNodeIn config (Some w) z number (node.Serve item)) (sym is) (of_serve config (Some w) number item refl)

made : (s : SeenNode) (o : Option Work) (p : Prepared) → IsStepOf s o p → node_made o ≡ Some (NodeMachine (patched s.state p.patch), p.outputs)
made s None p step = absurd step
made s (Some k) p step = λ i. Some (NodeMachine (step.node i), record { sent = sym step.sent i; notes = sym step.notes i })

plain : (config : Config) (number : ℕ) (own : NodeEvent) (s : SeenNode) (p : Prepared) → IsTrue (is_node config number) → IsStepFor s own p
    → node_made (only_where (is_node config number) (node_step s.state own)) ≡ Some (NodeMachine (patched s.state p.patch), p.outputs)
plain config number own s p there step = ap (λ b. node_made (only_where b (node_step s.state own))) there ∙ made s (node_step s.state own) p step

-- what was made ready is what the machine makes
makes : (config : Config) (sent : List Envelope) (number : ℕ) (e : Event) (own : NodeEvent) (s : SeenNode) (p : Prepared) → IsTrue (is_node config number) → IsOwnOfNodeIn sent number e own → IsStepFor s own p
    → machine_step config (NodeMachine s.state) e (envelope_named sent e) ≡ Some (NodeMachine (patched s.state p.patch), p.outputs)
makes config sent number e (node.Deliver envelope) s p there is step =
    ap (λ z. machine_step config (NodeMachine s.state) z (envelope_named sent z)) is.1.0
    ∙ (ap (λ o. node_made (only_where (is_node config number) (node_hears s.state o))) is.1.1
    ∙ plain config number (node.Deliver envelope) s p there step)
makes config sent number e node.Gather s p there is step = ap (λ z. machine_step config (NodeMachine s.state) z (envelope_named sent z)) is ∙ plain config number node.Gather s p there step
makes config sent number e (node.Exec batch) s p there is step = ap (λ z. machine_step config (NodeMachine s.state) z (envelope_named sent z)) is ∙ plain config number (node.Exec batch) s p there step
makes config sent number e (node.Release batch) s p there is step = ap (λ z. machine_step config (NodeMachine s.state) z (envelope_named sent z)) is ∙ plain config number (node.Release batch) s p there step
makes config sent number e (node.Serve item) s p there is step = ap (λ z. machine_step config (NodeMachine s.state) z (envelope_named sent z)) is ∙ plain config number (node.Serve item) s p there step

-- what the node is to take is within the ranges
pub node_ready : (number : ℕ) (n : NodeState) (s : Seated) (xs : List Arrived) (e : Event) (own : NodeEvent) → IsNodePost number n s xs → IsKnown s → IsOwnOfNode xs number e own → StaysWithin n own
unfolding node_in
node_ready number n s xs e own p known is =
    let config = p.config in
    let r = seen_run (λ config. is_node config number) (Node number) (NodeMachine n) s xs p known in
    let w = r.world in
    let told : Told = record { config = config; events = s.seen } in
    let same : n ≡ w.nodes number = ap (node_in n) r.machine in
    let its : IsOwnOfNodeIn w.envelopes number e own = subst (λ z. IsOwnOfNodeIn z number e own) r.envelopes (is (all_sent config s.seen) p.inbox) in
    node_stays_within told e number own n r.legal p.there
    (subst (λ o. IsEventOfNodeIn config o e number own) (sym r.at) (is_event config w number e own its))
    (subst (λ o. IsNodeIn o number n) (sym r.at) same)

-- what was made ready may be entered
pub node_may : (number : ℕ) (n : SeenNode) (s : Seated) (xs : List Arrived) (e : Event) (own : NodeEvent) (p : Prepared) (o : Outputs) → IsNodePost number n.state s xs → IsKnown s → IsOwnOfNode xs number e own
    → IsStepFor n own p → o ≡ p.outputs → MayEnter MayPush s.setting s.seen e o
node_may number n s xs e own p o post known is step outputs =
    let its = is (all_sent post.config s.seen) post.inbox in
    subst (λ z. MayEnter MayPush s.setting s.seen e z) (sym outputs)
    (may_enter (λ config. is_node config number) (Node number) (NodeMachine n.state) (NodeMachine (patched n.state p.patch)) s xs e p.outputs post known
    (own_actor (all_sent post.config s.seen) number e own its)
    (makes post.config (all_sent post.config s.seen) number e own n p post.there its step))

-- the event is of the seat's actor
pub node_owns : (number : ℕ) (n : NodeState) (s : Seated) (xs : List Arrived) (e : Event) (own : NodeEvent) → IsNodePost number n s xs → IsOwnOfNode xs number e own → actor_number e ≡ s.number
unfolding actor_number
node_owns number n s xs e own post is = ap number_of (own_actor (all_sent post.config s.seen) number e own (is (all_sent post.config s.seen) post.inbox)) ∙ sym post.number

-- once the event is entered, the node that it leaves is at the seat
pub node_entered : (number : ℕ) (n : SeenNode) (s t : Seated) (xs : List Arrived) (e : Event) (own : NodeEvent) (p : Prepared) (k : ℕ) → IsNodePost number n.state s xs → IsOwnOfNode xs number e own
    → IsStepFor n own p → IsSameSitting s t → Entered s t e k → IsNodePost number (patched n.state p.patch) t xs
node_entered number n s t xs e own p k post is step same entered =
    let its = is (all_sent post.config s.seen) post.inbox in
    has_entered (λ config. is_node config number) (Node number) (NodeMachine n.state) (NodeMachine (patched n.state p.patch)) s t xs e p.outputs k post same entered
    (makes post.config (all_sent post.config s.seen) number e own n p post.there its step)

-- a node before its first event, at a new seat, with nothing heard
pub node_new : (number : ℕ) (config : Config) (s : Seated) (n : NodeState) (xs : List Arrived) → IsCluster config → IsTrue (is_node config number) → IsNew config (node_number number) s
    → n ≡ opening_node number config.nodes config.batch → xs ≡ [] → IsNodePost number n s xs
node_new number config s n xs cluster there new is none =
    subst (λ zs. IsNodePost number n s zs) (sym none)
    (subst (λ m. IsPost (λ config. is_node config number) (Node number) m s []) (ap NodeMachine (sym is))
    (new_post (λ config. is_node config number) (Node number) config s cluster there (node_seated number (node_within config number cluster there)) new))

-- a new seat of the number that is a node's
pub node_seat : (config : Config) (number : ℕ) (s : Seated) → IsCluster config → IsTrue (is_node config number) → number ≡ s.number → IsNew config s.number s → IsNew config (node_number number) s
node_seat config number s cluster there is new =
    let few = node_within config number cluster there in
    let below : nat_lt number 16 ≡ true = grind (arith, nat_tests) in
    record { setting = new.setting; number = sym is ∙ sym (ap (λ b. cond b number 255) below); seen = new.seen; mine = new.mine }
