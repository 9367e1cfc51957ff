-- The free waiting calls are gathered: some leave, some wait on a fetch, and some make up the next batch, as the plan for them says.
use Rattle.std.specs.Prelude.{ℕ, ◌+◌, false, List, [], ◌∷◌, ◌++◌, map, Option, None, Some, if◌then◌else◌}
use Rattle.fal_base.specs.declared.call.CallRec.{CallRec}
use Rattle.fal_base.specs.declared.event.Actor.TheVariants.{Client, Node}
use Rattle.fal_base.specs.declared.event.Point.TheVariants.{Here}
use Rattle.fal_base.specs.declared.key.Key.{Key}
use Rattle.fal_place.specs.Placement.{owner, changes_since}
use Rattle.fal_locks.specs.Locks.{with_holder}
use Rattle.fal_wait.specs.Waiting.{WaitList, call_with_ticket, after_open}
use Rattle.fal_wire.specs.declared.message.Message.TheVariants as message
use Rattle.fal_batch.specs.declared.parts.Planned.{Planned}
use Rattle.fal_batch.specs.declared.parts.Sending.{Sending}
use Rattle.fal_batch.specs.declared.parts.Sending.TheVariants as sending
use Rattle.fal_batch.specs.declared.parts.Wanted.{Wanted}
use Rattle.fal_batch.specs.Fate.{Setting}
use Rattle.fal_batch.specs.Plan.{Planning, plan_of, is_idle}
use Rattle.fal_batch.specs.Seen.{setting_of}
use Rattle.fal_run.specs.declared.call.BatchCall.{BatchCall}
use Rattle.fal_wire.specs.declared.letter.Letter.{Letter}
use Rattle.fal_node.specs.State.{NodeState, blocked_names}
use Rattle.fal_wire.specs.Letters.{letter}
use Rattle.fal_node.specs.Letters.{Work}
use Rattle.fal_run.specs.Letters.{pass_letter}
use Rattle.fal_node.specs.Deliver.{without_calls}

-- what the node has at hand for its plan
abbrev pub setting_at : NodeState → Setting
setting_at node = setting_of node.replica node.locks node.table node.number (blocked_names node.blocked) node.limit

-- what the node does with its free calls
unfoldable pub plan_at : NodeState → Planning
plan_at node = plan_of (setting_at node) node.waiting

-- the client of the call is told that its table is older, and of the rules that were set since
abbrev pub stale_letter : NodeState → CallRec → Letter
stale_letter node call =
    letter (Client call.id.client) (Here 0) (message.Stale call.id call.version node.table.version (changes_since call.version node.table))

-- a call goes to another node, or its client is told
abbrev pub away_letter : NodeState → CallRec → Option ℕ → Letter
away_letter node call None = stale_letter node call
away_letter node call (Some to) = pass_letter call (Here 0) (Node to)

abbrev pub away_letters : NodeState → Option CallRec → Option ℕ → List Letter
away_letters node None to = []
away_letters node (Some call) to = away_letter node call to ∷ []

-- the owner of the key is asked for the directory there
abbrev pub ask_letter : NodeState → ℕ → Key → Letter
ask_letter node number key = letter (Node (owner node.table key)) (Here 0) (message.FetchAsk node.number number key)

-- the records in the order in which their calls were met; the fetches have the next numbers
abbrev pub gather_letters : NodeState → ℕ → List Sending → List Letter
gather_letters node number [] = []
gather_letters node number (sending.Away away ∷ sends) = away_letters node (call_with_ticket node.waiting away.ticket) away.to ++ gather_letters node number sends
gather_letters node number (sending.Fetch key ∷ sends) = ask_letter node number key ∷ gather_letters node (number + 1) sends

-- the fetches are pending, in their order
abbrev pub with_fetches : WaitList → List Wanted → WaitList
with_fetches list [] = list
with_fetches list (wanted ∷ fetches) = with_fetches (after_open list wanted.key wanted.waiters) fetches

-- the tickets of the calls that leave, and of those that join the batch
abbrev pub leaving : Planning → List ℕ
leaving plan = map (λ away. away.ticket) plan.away ++ map (λ planned. planned.ticket) plan.calls

abbrev pub batch_call : Option CallRec → Planned → List BatchCall
batch_call None planned = []
batch_call (Some call) planned = record { call = call; denied = planned.denied; parent = planned.parent; last = planned.last } ∷ []

-- the planned calls with their records
abbrev pub batch_calls : WaitList → List Planned → List BatchCall
batch_calls list [] = []
batch_calls list (planned ∷ calls) = batch_call (call_with_ticket list planned.ticket) planned ++ batch_calls list calls

-- the fetches are opened, and the calls with these tickets have left
unfoldable pub with_waiting : NodeState → List Wanted → List ℕ → NodeState
with_waiting node fetches tickets = record node { waiting = without_calls (with_fetches node.waiting fetches) tickets }

-- a batch of these calls is there, and holds the keys
unfoldable pub batched : NodeState → List BatchCall → List Key → NodeState
batched node calls keys =
    record node {
      batches = node.batches ++ record { number = node.batches_numbered; calls = calls; executed = false } ∷ [];
      locks = with_holder node.locks node.batches_numbered keys;
      batches_numbered = node.batches_numbered + 1;
    }

-- where no call joins there is no batch
abbrev pub with_batch : NodeState → List BatchCall → List Key → NodeState
with_batch node [] keys = node
with_batch node (call ∷ calls) keys = batched node (call ∷ calls) keys

unfoldable pub gathered : NodeState → Planning → Work
gathered node plan = record {
  node = with_batch (with_waiting node plan.fetches (leaving plan)) (batch_calls node.waiting plan.calls) plan.keys;
  sent = gather_letters node node.waiting.opened plan.sends;
  notes = [];
}

-- enabled where some free call is not skipped
abbrev pub gather : NodeState → Planning → Option Work
gather node plan = if is_idle plan then None else Some (gathered node plan)
