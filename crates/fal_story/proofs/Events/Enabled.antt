-- What a node's step makes of an event, where that is enabled.
use Rattle.std.proofs.Common.{◌≡◌, ℕ, Bool, true, false, cond, List, [], Option, Some, None, refl, ap, subst}
use Rattle.std.proofs.lemmas.Option.{same_Some}
use Rattle.fal_base.specs.declared.event.Envelope.{Envelope}
use Rattle.fal_batch.specs.Plan.{is_idle}
use Rattle.fal_wire.specs.declared.letter.Letter.{Letter}
use Rattle.fal_wire.specs.declared.message.Message.{Message}
use Rattle.fal_wire.specs.declared.message.Message.TheVariants as message
use Rattle.fal_node.specs.declared.batch.Batch.{Batch}
use Rattle.fal_node.specs.declared.event.NodeEvent.TheVariants.{Deliver, Gather, Exec, Release, Serve}
use Rattle.fal_node.specs.declared.item.Item.{Item}
use Rattle.fal_node.specs.Deliver.{delivered}
use Rattle.fal_node.specs.Exec.{execute, executed}
use Rattle.fal_node.specs.Gather.{plan_at, gathered}
use Rattle.fal_node.specs.Letters.{Work, begun}
use Rattle.fal_node.specs.Serve.{can_serve, serve, served, service_of}
use Rattle.fal_node.specs.State.{NodeState, batch_of, item_of, released, without_item}
use Rattle.fal_node.specs.Step.{node_step, is_to_node, only_if, release}
use Rattle.fal_story.proofs.Events.Shows.{is_lock}

made_if : (b : Bool) (x k : Work) (P : Work → Type 0) → (b ≡ true → P x) → only_if b x ≡ Some k → P k
made_if true x k P f is = subst P (same_Some x k is) (f refl)
made_if false x k P f is = absurd (cc)

pub delivers : (node : NodeState) (envelope : Envelope) (k : Work) (P : Work → Type 0) → (is_to_node envelope.to node.number ≡ true → P (delivered node envelope)) → node_step node (Deliver envelope) ≡ Some k → P k
unfolding node_step
delivers node envelope k P f is = made_if (is_to_node envelope.to node.number) (delivered node envelope) k P f is

pub gathers : (node : NodeState) (k : Work) (P : Work → Type 0) → P (gathered node (plan_at node)) → node_step node Gather ≡ Some k → P k
unfolding node_step
gathers node k P f is = by_idle (is_idle (plan_at node)) is
  where
    by_idle : (b : Bool) → cond b None (Some (gathered node (plan_at node))) ≡ Some k → P k
    by_idle true e = absurd (cc)
    by_idle false e = subst P (same_Some (gathered node (plan_at node)) k e) f

execs_at : (node : NodeState) (number : ℕ) (k : Work) (P : Work → Type 0) (o : Option Batch) → ((batch : Batch) → o ≡ Some batch → batch.executed ≡ false → P (executed node number batch)) → execute node number o ≡ Some k → P k
execs_at node number k P None f is = absurd (cc)
execs_at node number k P (Some batch) f is =
    elim batch.executed as (λ b. batch.executed ≡ b → cond b None (Some (executed node number batch)) ≡ Some k → P k) [
      | true ↦ λ e z. absurd (cc)
      | false ↦ λ e z. subst P (same_Some (executed node number batch) k z) (f batch refl e)
    ] refl is

pub execs : (node : NodeState) (number : ℕ) (k : Work) (P : Work → Type 0) → ((batch : Batch) → batch_of node number ≡ Some batch → batch.executed ≡ false → P (executed node number batch))
    → node_step node (Exec number) ≡ Some k → P k
unfolding node_step
execs node number k P f is = execs_at node number k P (batch_of node number) f is

releases_at : (node : NodeState) (number : ℕ) (k : Work) (P : Work → Type 0) (o : Option Batch) → ((batch : Batch) → o ≡ Some batch → batch.executed ≡ true → P (begun (released node number))) → release node number o ≡ Some k → P k
releases_at node number k P None f is = absurd (cc)
releases_at node number k P (Some batch) f is = made_if batch.executed (begun (released node number)) k P (λ e. f batch refl e) is

pub releases : (node : NodeState) (number : ℕ) (k : Work) (P : Work → Type 0) → ((batch : Batch) → batch_of node number ≡ Some batch → batch.executed ≡ true → P (begun (released node number)))
    → node_step node (Release number) ≡ Some k → P k
unfolding node_step
releases node number k P f is = releases_at node number k P (batch_of node number) f is

serves_at : (node : NodeState) (k : Work) (P : Work → Type 0) (o : Option Item) → ((item : Item) → o ≡ Some item → can_serve node item.message ≡ true → P (served node item)) → serve node o ≡ Some k → P k
serves_at node k P None f is = absurd (cc)
serves_at node k P (Some item) f is =
    elim (can_serve node item.message) as (λ b. can_serve node item.message ≡ b → cond b (Some (served node item)) None ≡ Some k → P k) [
      | true ↦ λ e z. subst P (same_Some (served node item) k z) (f item refl e)
      | false ↦ λ e z. absurd (cc)
    ] refl is

pub serves : (node : NodeState) (number : ℕ) (k : Work) (P : Work → Type 0) → ((item : Item) → item_of node number ≡ Some item → can_serve node item.message ≡ true → P (served node item))
    → node_step node (Serve number) ≡ Some k → P k
unfolding node_step
serves node number k P f is = serves_at node k P (item_of node number) f is

-- the records that serve the item
abbrev pub served_letters : NodeState → Message → List Letter
served_letters node m = (service_of node m).work.sent

-- records go out, the item is gone, and nothing else changes
abbrev pub only_sends : NodeState → Item → Work
only_sends node item = record { node = without_item node item.number; sent = served_letters node item.message; notes = [] }

-- each item but a Lock and a Block is served by records alone
service_is : (node : NodeState) (m : Message) → is_lock m ≡ false → (service_of node m).work ≡ record { node = node; sent = served_letters node m; notes = [] }
service_is node (message.FetchAsk asker number key) off = refl
service_is node (message.Lock operation keys) off = absurd (cc)
service_is node (message.Block operation name) off = absurd (cc)
service_is node other off = refl

pub served_is : (node : NodeState) (item : Item) → is_lock item.message ≡ false → served node item ≡ only_sends node item
unfolding served
served_is node item off = ap (λ (k : Work). record k { node = without_item k.node item.number }) (service_is node item.message off)

-- whatever the item, these records serve it
pub served_sends : (node : NodeState) (item : Item) → (served node item).sent ≡ served_letters node item.message
unfolding served
served_sends node item = refl
