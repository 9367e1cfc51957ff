-- The items of each node of a legal run differ by their numbers.
use Rattle.std.proofs.Common.{◌≡◌, ℕ, ◌+◌, ◌<◌, true, false, cond, List, [], ◌∷◌, Option, Some, None, Result, Ok, Err, is_some, subst, arith}
use Rattle.std.specs.Prelude.{slice_get, nat_lt, ◌==◌}
use Rattle.fal_base.specs.declared.call.CallRec.{CallRec}
use Rattle.std.proofs.lemmas.Option.{none-some, same_Some}
use Rattle.fal_base.specs.declared.call.Config.{Config}
use Rattle.fal_base.specs.declared.event.Actor.TheVariants.{Coord}
use Rattle.fal_base.specs.declared.event.Envelope.{Envelope}
use Rattle.fal_base.specs.declared.event.Event.{Event}
use Rattle.fal_base.specs.declared.event.Event.TheVariants as event
use Rattle.fal_base.specs.declared.inode.Dentry.{Dentry}
use Rattle.fal_base.specs.declared.event.Point.TheVariants.{Here}
use Rattle.fal_base.specs.declared.key.Key.{Key}
use Rattle.fal_base.specs.declared.row.NamedRow.{NamedRow}
use Rattle.fal_base.specs.declared.row.Update.{Update}
use Rattle.fal_base.specs.declared.rule.Rule.{Rule}
use Rattle.fal_batch.specs.Plan.{Planning}
use Rattle.fal_client.specs.declared.event.ClientEvent.TheVariants as client
use Rattle.fal_client.specs.State.{Work as ClientWork}
use Rattle.fal_client.specs.Step.{client_step}
use Rattle.fal_coord.specs.declared.event.CoordEvent.TheVariants as coord_event
use Rattle.fal_coord.specs.State.{Work as CoordWork}
use Rattle.fal_coord.specs.Step.{coord_step}
use Rattle.fal_duty.specs.Duties.{owned, count_told}
use Rattle.fal_exec.specs.RowCall.{row_names}
use Rattle.fal_node.specs.declared.batch.Batch.{Batch}
use Rattle.fal_run.specs.declared.call.BatchCall.{BatchCall}
use Rattle.fal_node.specs.declared.event.NodeEvent.{NodeEvent}
use Rattle.fal_node.specs.declared.event.NodeEvent.TheVariants.{Deliver, Gather, Exec, Release, Serve}
use Rattle.fal_node.specs.declared.item.Item.{Item}
use Rattle.fal_node.specs.Deliver.{admitted, learned, dismissed, settle, settle_pending, with_operation, take_operation, take_count, take_commit, reopened, name_blocked, installed, install_named, take_install, take_message, take_read, delivered}
use Rattle.fal_node.specs.Exec.{exec_all, exec_one, exec_as, executed, with_executed}
use Rattle.fal_node.specs.Gather.{plan_at, leaving, with_waiting, batch_calls, with_batch, batched, gathered}
use Rattle.fal_node.specs.Letters.{Work, begun, is_asker}
use Rattle.fal_node.specs.Serve.{served, service_of, shutting, blocking}
use Rattle.fal_node.specs.State.{NodeState, is_of, opening_node, with_item, without_item, released}
use Rattle.fal_node.specs.Step.{node_step}
use Rattle.fal_place.specs.Placement.{is_within}
use Rattle.fal_wait.specs.declared.pending_fetch.PendingFetch.{PendingFetch}
use Rattle.fal_wait.specs.Waiting.{fetch_of}
use Rattle.fal_wire.specs.declared.fault.WireFault.{WireFault}
use Rattle.fal_wire.specs.declared.message.Found.{Found}
use Rattle.fal_wire.specs.declared.message.Found.TheVariants as found
use Rattle.fal_wire.specs.declared.message.Message.{Message}
use Rattle.fal_wire.specs.declared.message.Message.TheVariants as message
use Rattle.fal_wire.specs.Letters.{letter}
use Rattle.fal_wire.specs.Messages.{reading}
use Rattle.fal_story.proofs.Lists.Each.{Each, Apart, each_weaker, each_join}
use Rattle.fal_story.proofs.Events.Enabled.{delivers, gathers, execs, releases, serves}
use Rattle.fal_story.proofs.Lists.Grown.{put_all}
use Rattle.fal_story.proofs.Lists.Members.{apart_push, each_without_first, apart_without_first}
use Rattle.fal_story.proofs.Drain.MovingClient.{AfterClient}
use Rattle.fal_story.proofs.Drain.MovingRuns.{after_client, after_node, legal_holds}
use Rattle.fal_story.proofs.Drain.MovingServe.{After}
use Rattle.fal_story.specs.Clusters.{is_lane, is_node}
use Rattle.fal_story.specs.Machines.{only_where, client_hears, node_hears, coord_hears, coord_made}
use Rattle.fal_story.specs.Run.{client_deed, node_deed, deed, deed_by, done, step, run, IsLegal}
use Rattle.fal_story.specs.World.{World, posted, opening_world}

-- items differ by their numbers, and the next number is new
pub record AreItems (items : List Item) (next : ℕ) : Type 0 where
  pub apart : Apart (λ (i : Item). i.number) items
  pub below : Each (λ (i : Item). i.number < next) items

abbrev pub HasItems : NodeState → Type 0
HasItems x = AreItems x.items x.items_numbered

-- ---- a record comes

admitted_items : (x : NodeState) (call : CallRec) → HasItems x → HasItems (admitted x call)
unfolding admitted
admitted_items x call h = record { apart = h.apart; below = h.below }

asked_items : (x : NodeState) (m : Message) → HasItems x → HasItems (with_item x m)
unfolding with_item
asked_items x m h =
    let item : Item = record { number = x.items_numbered; message = m } in
    record {
      apart = apart_push (λ (i : Item). i.number) x.items item (each_weaker _ _ x.items (λ i low e. absurd (omega arith)) h.below) h.apart;
      below = each_join (λ (i : Item). i.number < x.items_numbered + 1) x.items (item ∷ []) (each_weaker _ _ x.items (λ i low. omega arith) h.below) (omega arith, tt);
    }

operation_items : (x : NodeState) (operation : ℕ) (m : Message) → HasItems x → HasItems (take_operation x operation m)
unfolding with_operation
operation_items x operation m h =
    let asked = asked_items x m h in
    elim (nat_lt x.last_operation operation) as (λ b. HasItems (cond b (with_operation x operation m) x)) [ true ↦ record { apart = asked.apart; below = asked.below } | false ↦ h ]

count_items : (x : NodeState) (operation : ℕ) (dir : ℕ) → HasItems x → HasItems (take_count x operation dir).node
count_items x operation dir h =
    elim (is_of x.locks.shut operation) as (λ b. HasItems (cond b (record (begun x) { sent = letter Coord (Here 0) (count_told x.rows x.number operation dir) ∷ [] }) (begun x)).node) [ true ↦ h | false ↦ h ]

commit_items : (x : NodeState) (operation : ℕ) (updates : List Update) → HasItems x → HasItems (take_commit x operation updates).node
unfolding reopened
commit_items x operation updates h =
    elim (is_of x.locks.shut operation) as (λ b. HasItems (cond b (record { node = reopened x operation (owned x.table x.number updates); sent = letter Coord (Here 0) (message.Done operation x.number) ∷ []; notes = [] }) (begun x)).node) [ true ↦ record { apart = h.apart; below = h.below } | false ↦ h ]

named_items : (x : NodeState) (operation version : ℕ) (rule : Rule) (rows : List NamedRow) (name : Option (List ℕ)) → HasItems x → HasItems (install_named x operation version rule rows name).node
unfolding installed
named_items x operation version rule rows None h = h
named_items x operation version rule rows (Some name) h = record { apart = h.apart; below = h.below }

install_items : (x : NodeState) (operation version : ℕ) (rule : Rule) (rows : List NamedRow) → HasItems x → HasItems (take_install x operation version rule rows).node
install_items x operation version rule rows h =
    let name = name_blocked x.blocked operation in
    elim (is_within x.table.nodes rule) as (λ b. HasItems (cond b (install_named x operation version rule rows name) (begun x)).node) [ true ↦ named_items x operation version rule rows name h | false ↦ h ]

learned_items : (x : NodeState) (number : ℕ) (key : Key) (dentry : Dentry) → HasItems x → HasItems (learned x number key dentry)
unfolding learned
learned_items x number key dentry h = record { apart = h.apart; below = h.below }

dismissed_items : (x : NodeState) (number : ℕ) (waiters : List ℕ) → HasItems x → HasItems (dismissed x number waiters)
unfolding dismissed
dismissed_items x number waiters h = record { apart = h.apart; below = h.below }

settled_items : (x : NodeState) (point : ℕ) (key : Key) (what : Found) (fetch : PendingFetch) → HasItems x → HasItems (settle x point key what fetch).node
settled_items x point key (found.Dir dentry) fetch h = learned_items x fetch.number key dentry h
settled_items x point key found.Nothing fetch h = dismissed_items x fetch.number fetch.waiters h
settled_items x point key found.File fetch h = dismissed_items x fetch.number fetch.waiters h

pending_items : (x : NodeState) (point : ℕ) (key : Key) (what : Found) (o : Option PendingFetch) → HasItems x → HasItems (settle_pending x point key what o).node
pending_items x point key what None h = h
pending_items x point key what (Some fetch) h = settled_items x point key what fetch h

message_items : (x : NodeState) (point : ℕ) (m : Message) → HasItems x → HasItems (take_message x point m).node
message_items x point (message.Call call) h = elim (is_some (row_names call.op)) as (λ b. HasItems (cond b (admitted x call) x)) [ true ↦ admitted_items x call h | false ↦ h ]
message_items x point (message.FetchAsk asker number key) h =
    elim (is_asker x.table.nodes asker) as (λ b. HasItems (cond b (with_item x (message.FetchAsk asker number key)) x)) [ true ↦ asked_items x (message.FetchAsk asker number key) h | false ↦ h ]
message_items x point (message.FetchGot number key what) h = pending_items x point key what (fetch_of x.waiting number) h
message_items x point (message.ListAsk id version dir) h = asked_items x (message.ListAsk id version dir) h
message_items x point (message.Lock operation keys) h = operation_items x operation (message.Lock operation keys) h
message_items x point (message.Count operation dir) h = count_items x operation dir h
message_items x point (message.Commit operation updates) h = commit_items x operation updates h
message_items x point (message.Block operation name) h = operation_items x operation (message.Block operation name) h
message_items x point (message.Install operation version rule rows) h = install_items x operation version rule rows h
message_items x point other h = h

read_items : (x : NodeState) (point : ℕ) (read : Result Message WireFault) → HasItems x → HasItems (take_read x point read).node
read_items x point (Ok m) h = message_items x point m h
read_items x point (Err fault) h = h

delivered_items : (x : NodeState) (envelope : Envelope) → HasItems x → HasItems (delivered x envelope).node
unfolding delivered
delivered_items x envelope h = read_items x envelope.point (reading envelope.bytes) h

-- ---- a node's own events

batch_items : (x : NodeState) (calls : List BatchCall) (keys : List Key) → HasItems x → HasItems (with_batch x calls keys)
unfolding batched
batch_items x [] keys h = h
batch_items x (c ∷ cs) keys h = record { apart = h.apart; below = h.below }

gathered_items : (x : NodeState) (plan : Planning) → HasItems x → HasItems (gathered x plan).node
unfolding gathered with_waiting
gathered_items x plan h = batch_items (with_waiting x plan.fetches (leaving plan)) (batch_calls x.waiting plan.calls) plan.keys (record { apart = h.apart; below = h.below })

calls_items : (k : Work) (calls : List BatchCall) → HasItems k.node → HasItems (exec_all k calls).node
unfolding exec_one exec_as
calls_items k [] h = h
calls_items k (x ∷ xs) h = calls_items (exec_one k x) xs (record { apart = h.apart; below = h.below })

executed_items : (x : NodeState) (number : ℕ) (batch : Batch) → HasItems x → HasItems (executed x number batch).node
unfolding executed with_executed
executed_items x number batch h = calls_items (begun (with_executed x number)) batch.calls (record { apart = h.apart; below = h.below })

released_items : (x : NodeState) (number : ℕ) → HasItems x → HasItems (released x number)
unfolding released
released_items x number h = record { apart = h.apart; below = h.below }

service_items : (x : NodeState) (m : Message) → HasItems x → HasItems (service_of x m).work.node
unfolding shutting blocking
service_items x (message.FetchAsk asker number key) h = h
service_items x (message.Lock operation keys) h = record { apart = h.apart; below = h.below }
service_items x (message.Block operation name) h = record { apart = h.apart; below = h.below }
service_items x other h = h

served_items : (x : NodeState) (item : Item) → HasItems x → HasItems (served x item).node
unfolding served without_item
served_items x item h =
    let test = λ (i : Item). i.number == item.number in
    let served_by = service_items x item.message h in
    let items = (service_of x item.message).work.node.items in
    let numbered = (service_of x item.message).work.node.items_numbered in
    record {
      apart = apart_without_first (λ (i : Item). i.number) test items served_by.apart;
      below = each_without_first (λ (i : Item). i.number < numbered) test items served_by.below;
    }

step_items : (x : NodeState) (e : NodeEvent) (k : Work) → HasItems x → node_step x e ≡ Some k → HasItems k.node
step_items x (Deliver envelope) k h is = delivers x envelope k (λ y. HasItems y.node) (λ to. delivered_items x envelope h) is
step_items x Gather k h is = gathers x k (λ y. HasItems y.node) (gathered_items x (plan_at x) h) is
step_items x (Exec number) k h is = execs x number k (λ y. HasItems y.node) (λ batch there waits. executed_items x number batch h) is
step_items x (Release number) k h is = releases x number k (λ y. HasItems y.node) (λ batch there ended. released_items x number h) is
step_items x (Serve number) k h is = serves x number k (λ y. HasItems y.node) (λ item there can. served_items x item h) is

heard_items : (x : NodeState) (o : Option Envelope) (k : Work) → HasItems x → node_hears x o ≡ Some k → HasItems k.node
heard_items x None k h is = absurd (cc)
heard_items x (Some envelope) k h is = step_items x (Deliver envelope) k h is

-- ---- runs

abbrev pub HaveItems : World → Type 0
HaveItems w = (n : ℕ) → HasItems (w.nodes n)

client_items : (config : Config) (w : World) (l : ℕ) (m : ClientWork) → HaveItems w → HaveItems (AfterClient config w l m)
unfolding posted
client_items config w l m h = h

node_items : (config : Config) (w : World) (n : ℕ) (k : Work) → HaveItems w → HasItems k.node → HaveItems (After config w n k)
unfolding posted
node_items config w n k h here = put_all (λ i x. HasItems x) w.nodes n k.node here (λ i _. h i)

module _ (config : Config) (w : World) (h : HaveItems w) where
  client_keeps : (u : World) (l : ℕ) (o : Option ClientWork) → done config (client_deed w l (only_where (is_lane config l) o)) ≡ Some u → HaveItems u
  client_keeps u l o at = after_client config w u l o HaveItems (λ m there e. client_items config w l m h) at

  node_keeps : (u : World) (n : ℕ) (e : NodeEvent) → done config (node_deed w n (only_where (is_node config n) (node_step (w.nodes n) e))) ≡ Some u → HaveItems u
  node_keeps u n e at = after_node config w u n (node_step (w.nodes n) e) HaveItems (λ k there is. node_items config w n k h (step_items (w.nodes n) e k (h n) is)) at

  coord_keeps : (u : World) (o : Option CoordWork) → done config (deed_by w Coord (coord_made o)) ≡ Some u → HaveItems u
  unfolding posted
  coord_keeps u None at = absurd (none-some u at)
  coord_keeps u (Some k) at = subst HaveItems (same_Some _ u at) h

  world_items : (u : World) (e : Event) → step config w e ≡ Some u → HaveItems u
  unfolding deed
  world_items u (event.Send l) at = client_keeps u l (client_step (w.clients l) client.Send) at
  world_items u (event.Get l number) at = client_keeps u l (client_hears (w.clients l) (slice_get w.envelopes number)) at
  world_items u (event.Deliver n number) at =
      after_node config w u n (node_hears (w.nodes n) (slice_get w.envelopes number)) HaveItems
      (λ k there is. node_items config w n k h (heard_items (w.nodes n) (slice_get w.envelopes number) k (h n) is)) at
  world_items u (event.Gather n) at = node_keeps u n Gather at
  world_items u (event.Exec n number) at = node_keeps u n (Exec number) at
  world_items u (event.Release n number) at = node_keeps u n (Release number) at
  world_items u (event.Serve n number) at = node_keeps u n (Serve number) at
  world_items u (event.Hear number) at = coord_keeps u (coord_hears w.coord (slice_get w.envelopes number)) at
  world_items u event.Start at = coord_keeps u (coord_step w.coord coord_event.Start) at

opening_items : (config : Config) → HaveItems (opening_world config)
unfolding opening_node
opening_items config n = record { apart = tt; below = tt }

-- the items of each node differ by their numbers after each legal run
pub legal_items : (config : Config) (events : List Event) (w : World) → IsLegal config events → run config events ≡ Some w → HaveItems w
legal_items config events w legal at = (legal_holds config (λ v c. HaveItems v) (λ v u c e few kept h is. world_items config v h u e is) (opening_items config) events w legal at).1
