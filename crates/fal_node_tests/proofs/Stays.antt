-- Whatever comes to a young node stays within the ranges, and leaves it young.
use Rattle.std.proofs.Common.{◌≡◌, ℕ, ◌+◌, ◌≤◌, Bool, true, false, cond, List, [], Option, Some, None, Result, Ok, Err, is_some, ◌==◌, ◌<◌, nat_lt, ◌∷◌, ◌^◌, refl, sym, ap, subst, arith}
use Rattle.std.specs.List.{All, find}
use Rattle.fal_base.specs.declared.call.CallRec.{CallRec}
use Rattle.fal_base.specs.declared.event.Envelope.{Envelope}
use Rattle.fal_base.specs.declared.row.NamedRow.{NamedRow}
use Rattle.fal_base.specs.declared.rule.Rule.{Rule}
use Rattle.fal_exec.specs.RowCall.{row_names}
use Rattle.fal_place.specs.Placement.{is_within}
use Rattle.fal_wait.specs.declared.pending_fetch.PendingFetch.{PendingFetch}
use Rattle.fal_wait.specs.Waiting.{WaitList, is_new, with_call, fetch_of}
use Rattle.fal_wire.specs.declared.fault.WireFault.{WireFault}
use Rattle.fal_wire.specs.declared.message.Message.{Message}
use Rattle.fal_wire.specs.declared.message.Message.TheVariants as message
use Rattle.fal_wire.specs.Messages.{Fits, reading}
use Rattle.fal_node.specs.declared.event.NodeEvent.{NodeEvent}
use Rattle.fal_node.specs.declared.event.NodeEvent.TheVariants.{Deliver, Gather, Exec, Release, Serve}
use Rattle.fal_wire.specs.declared.letter.Letter.{Letter}
use Rattle.fal_node.specs.declared.patch.Prepared.{Prepared}
use Rattle.fal_node.specs.State.{NodeState, opening_node, with_item, is_of}
use Rattle.fal_node.specs.Letters.{Work, begun, is_asker}
use Rattle.fal_run.specs.Letters.{commits_in}
use Rattle.fal_node.specs.Deliver.{admitted, take_call, settle_pending, with_operation, take_operation, reopened, name_blocked, install_named, take_install, take_message, take_read, delivered}
use Rattle.fal_node.specs.Patch.{SeenNode}
use Rattle.fal_node.specs.Ready.{after, IsStepOf, IsStepFor}
use Rattle.fal_node.specs.Step.{IsWithin, StaysWithin, is_to_node, only_if, node_step}
use Rattle.fal_base.specs.declared.event.Actor.TheVariants.{Coord}
use Rattle.fal_base.specs.declared.event.Point.TheVariants.{Here}
use Rattle.fal_duty.specs.Duties.{owned, count_told}
use Rattle.fal_wire.specs.Letters.{letter}
use Rattle.fal_node_tests.specs.Young.{IsYoung, IsDelivery}

-- nothing is sent or noted, and the node is young
record IsQuiet (n : ℕ) (work : Work) : Type 0 where
  node : IsYoung n work.node
  sent : work.sent ≡ []
  notes : work.notes ≡ []

pub young_opening : (number nodes limit : ℕ) → number ≤ 15 → IsYoung 0 (opening_node number nodes limit)
unfolding opening_node
young_opening number nodes limit small = record { number = small; fetches = refl; opened = refl; batches = refl; drawn = refl; shut = refl; blocked = refl; tickets = omega arith; items = omega arith }

pub older : (n m : ℕ) (node : NodeState) → n ≤ m → IsYoung n node → IsYoung m node
older n m node le young =
    let tickets = young.tickets in
    let items = young.items in
    record { number = young.number; fetches = young.fetches; opened = young.opened; batches = young.batches; drawn = young.drawn; shut = young.shut; blocked = young.blocked; tickets = omega arith; items = omega arith }

same_quiet : (n : ℕ) (node : NodeState) → IsYoung n node → IsQuiet (n + 1) (begun node)
same_quiet n node young = record { node = older n (n + 1) node (omega arith) young; sent = refl; notes = refl }

young_admitted : (n : ℕ) (node : NodeState) (call : CallRec) → IsYoung n node → IsYoung (n + 1) (admitted node call)
unfolding admitted with_call
young_admitted n node call young =
    let tickets = young.tickets in
    let items = young.items in
    elim (is_new node.waiting call) as (λ b. IsYoung (n + 1) (record node { waiting = cond b (with_call node.waiting call) node.waiting })) [
      | true ↦ record { number = young.number; fetches = young.fetches; opened = young.opened; batches = young.batches; drawn = young.drawn; shut = young.shut; blocked = young.blocked; tickets = omega arith; items = omega arith }
      | false ↦ record { number = young.number; fetches = young.fetches; opened = young.opened; batches = young.batches; drawn = young.drawn; shut = young.shut; blocked = young.blocked; tickets = omega arith; items = omega arith }
    ]

quiet_call : (n : ℕ) (node : NodeState) (call : CallRec) → IsYoung n node → IsQuiet (n + 1) (begun (take_call node call))
quiet_call n node call young =
    elim (is_some (row_names call.op)) as (λ b. IsQuiet (n + 1) (begun (cond b (admitted node call) node))) [
      | true ↦ record { node = young_admitted n node call young; sent = refl; notes = refl }
      | false ↦ same_quiet n node young
    ]

quiet_item : (n : ℕ) (node : NodeState) (m : Message) → IsYoung n node → IsQuiet (n + 1) (begun (with_item node m))
unfolding with_item
quiet_item n node m young =
    let tickets = young.tickets in
    let items = young.items in
    record {
      node = record { number = young.number; fetches = young.fetches; opened = young.opened; batches = young.batches; drawn = young.drawn; shut = young.shut; blocked = young.blocked; tickets = omega arith; items = omega arith };
      sent = refl;
      notes = refl;
    }

-- an operation that is not newer than the last changes nothing
quiet_operation : (n : ℕ) (node : NodeState) (operation : ℕ) (m : Message) → IsYoung n node → IsQuiet (n + 1) (begun (take_operation node operation m))
unfolding with_item with_operation
quiet_operation n node operation m young =
    let tickets = young.tickets in
    let items = young.items in
    elim (nat_lt node.last_operation operation) as (λ b. IsQuiet (n + 1) (begun (cond b (with_operation node operation m) node))) [
      | true ↦ record {
        node = record { number = young.number; fetches = young.fetches; opened = young.opened; batches = young.batches; drawn = young.drawn; shut = young.shut; blocked = young.blocked; tickets = omega arith; items = omega arith };
        sent = refl;
        notes = refl;
      }
      | false ↦ same_quiet n node young
    ]

-- what is done only where the operation has shut keys is not done
unless_shut : (n : ℕ) (node : NodeState) (work : Work) (b : Bool) → b ≡ false → IsYoung n node → IsQuiet (n + 1) (cond b work (begun node))
unless_shut n node work true is young = absurd (cc)
unless_shut n node work false is young = same_quiet n node young

has_not_shut : (n : ℕ) (node : NodeState) (operation : ℕ) → IsYoung n node → is_of node.locks.shut operation ≡ false
has_not_shut n node operation young = ap (λ shut. is_of shut operation) young.shut

none_pending : (list : WaitList) (number : ℕ) → list.fetches ≡ [] → fetch_of list number ≡ None
none_pending list number none = ap (λ fs. find (λ (f : PendingFetch). f.number == number) fs) none

-- an Install that finds no name blocked changes nothing
unblocked : (n : ℕ) (node : NodeState) (op version : ℕ) (rule : Rule) (rows : List NamedRow) → IsYoung n node → IsQuiet (n + 1) (take_install node op version rule rows)
unblocked n node op version rule rows young =
    elim (is_within node.table.nodes rule) as (λ b. IsQuiet (n + 1) (cond b (install_named node op version rule rows (name_blocked node.blocked op)) (begun node))) [
      | true ↦ subst (λ blocked. IsQuiet (n + 1) (install_named node op version rule rows (name_blocked blocked op))) (sym young.blocked) (same_quiet n node young)
      | false ↦ same_quiet n node young
    ]

quiet_message : (n : ℕ) (node : NodeState) (point : ℕ) (m : Message) → IsYoung n node → IsQuiet (n + 1) (take_message node point m)
quiet_message n node point (message.Call call) young = quiet_call n node call young
quiet_message n node point (message.FetchAsk asker number key) young =
    elim (is_asker node.table.nodes asker) as (λ b. IsQuiet (n + 1) (begun (cond b (with_item node (message.FetchAsk asker number key)) node))) [
      | true ↦ quiet_item n node (message.FetchAsk asker number key) young
      | false ↦ same_quiet n node young
    ]
quiet_message n node point (message.FetchGot number key what) young =
    subst (λ (fetch : Option PendingFetch). IsQuiet (n + 1) (settle_pending node point key what fetch)) (sym (none_pending node.waiting number young.fetches)) (same_quiet n node young)
quiet_message n node point (message.Reply id reply) young = same_quiet n node young
quiet_message n node point (message.Stale id old new changes) young = same_quiet n node young
quiet_message n node point (message.Opened id dir) young = same_quiet n node young
quiet_message n node point (message.ListAsk id version dir) young = quiet_item n node (message.ListAsk id version dir) young
quiet_message n node point (message.ListPart id from names) young = same_quiet n node young
quiet_message n node point (message.Lock op keys) young = quiet_operation n node op (message.Lock op keys) young
quiet_message n node point (message.Locked op from rows) young = same_quiet n node young
quiet_message n node point (message.Count op dir) young =
    unless_shut n node (record (begun node) { sent = letter Coord (Here 0) (count_told node.rows node.number op dir) ∷ [] }) (is_of node.locks.shut op) (has_not_shut n node op young) young
quiet_message n node point (message.Counted op from number) young = same_quiet n node young
quiet_message n node point (message.Commit op updates) young =
    let node_after = reopened node op (owned node.table node.number updates) in
    unless_shut n node (record { node = node_after; sent = letter Coord (Here 0) (message.Done op node.number) ∷ []; notes = [] }) (is_of node.locks.shut op) (has_not_shut n node op young) young
quiet_message n node point (message.Done op from) young = same_quiet n node young
quiet_message n node point (message.Block op name) young = quiet_operation n node op (message.Block op name) young
quiet_message n node point (message.Blocked op from rows) young = same_quiet n node young
quiet_message n node point (message.Install op version rule rows) young = unblocked n node op version rule rows young
quiet_message n node point (message.Installed op from) young = same_quiet n node young

quiet_read : (n : ℕ) (node : NodeState) (point : ℕ) (read : Result Message WireFault) → IsYoung n node → IsQuiet (n + 1) (take_read node point read)
quiet_read n node point (Ok m) young = quiet_message n node point m young
quiet_read n node point (Err fault) young = same_quiet n node young

quiet_delivered : (n : ℕ) (node : NodeState) (e : Envelope) → IsYoung n node → IsQuiet (n + 1) (delivered node e)
unfolding delivered
quiet_delivered n node e young = quiet_read n node e.point (reading e.bytes) young

quiet_within : (n : ℕ) (work : Work) → n ≤ 9 → IsQuiet n work → IsWithin work
quiet_within n work small quiet =
    let none : All (λ (l : Letter). Fits l.message) [] = λ k d lt. absurd (omega arith) in
    let number = quiet.node.number in
    let opened = quiet.node.opened in
    let batches = quiet.node.batches in
    let drawn = quiet.node.drawn in
    let tickets = quiet.node.tickets in
    let items = quiet.node.items in
    record {
      records = subst (λ ls. All (λ (l : Letter). Fits l.message) ls) (sym quiet.sent) none;
      tickets = omega arith;
      fetches = omega arith;
      items = omega arith;
      batches = omega arith;
      numbers = λ _. omega arith;
      commits = subst (λ notes. commits_in notes + 1 < 2 ^ 32) (sym quiet.notes) (omega arith);
    }

if_there : (b : Bool) (x w : Work) (P : Work → Type 0) → P x → only_if b x ≡ Some w → P w
if_there true x w P p is = let same : x ≡ w = cc in subst P same p
if_there false x w P p is = absurd (cc)

pub stays : (node : NodeState) (e : Envelope) → IsYoung 8 node → StaysWithin node (Deliver e)
unfolding node_step
stays node e young work is = if_there (is_to_node e.to node.number) (delivered node e) work IsWithin (quiet_within 9 (delivered node e) (omega arith) (quiet_delivered 8 node e young)) is

-- the node after it is young
pub young_after : (n : ℕ) (node : NodeState) (e : Envelope) (work : Work) → IsYoung n node → node_step node (Deliver e) ≡ Some work → IsYoung (n + 1) work.node
unfolding node_step
young_after n node e work young is = if_there (is_to_node e.to node.number) (delivered node e) work (λ w. IsYoung (n + 1) w.node) (quiet_delivered n node e young).node is

-- what holds of an envelope holds of each delivery
pub delivery_stays : (node : NodeState) (event : NodeEvent) → IsDelivery event → IsYoung 8 node → StaysWithin node event
delivery_stays node (Deliver e) is young = stays node e young
delivery_stays node Gather is young = absurd is
delivery_stays node (Exec number) is young = absurd is
delivery_stays node (Release number) is young = absurd is
delivery_stays node (Serve number) is young = absurd is

young_applied : (n : ℕ) (s : SeenNode) (e : Envelope) (prepared : Prepared) (work : Option Work) → node_step s.state (Deliver e) ≡ work → IsStepOf s work prepared → IsYoung n s.state → IsYoung (n + 1) (after s prepared)
young_applied n s e prepared None is step young = absurd step
young_applied n s e prepared (Some work) is step young = subst (λ node. IsYoung (n + 1) node) step.node (young_after n s.state e work young is)

-- a node stays young when what was prepared for a delivery is applied
pub delivery_applied : (n : ℕ) (s : SeenNode) (event : NodeEvent) (prepared : Prepared) → IsDelivery event → IsStepFor s event prepared → IsYoung n s.state → IsYoung (n + 1) (after s prepared)
delivery_applied n s (Deliver e) prepared is step young = young_applied n s e prepared (node_step s.state (Deliver e)) refl step young
delivery_applied n s Gather prepared is step young = absurd is
delivery_applied n s (Exec number) prepared is step young = absurd is
delivery_applied n s (Release number) prepared is step young = absurd is
delivery_applied n s (Serve number) prepared is step young = absurd is
