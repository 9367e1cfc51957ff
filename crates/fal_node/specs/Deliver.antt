-- An envelope comes to a node.
use Rattle.std.specs.Prelude.{ℕ, List, [], ◌∷◌, ◌++◌, Option, None, Some, Result, Ok, Err, is_some, nat_lt, ◌==◌, if◌then◌else◌}
use Rattle.fal_base.specs.declared.barred.Barred.{Barred}
use Rattle.fal_base.specs.declared.barred.Barred.TheVariants as barred
use Rattle.fal_base.specs.declared.call.CallRec.{CallRec}
use Rattle.fal_base.specs.declared.event.Envelope.{Envelope}
use Rattle.fal_base.specs.declared.event.Actor.TheVariants.{Coord}
use Rattle.fal_base.specs.declared.event.Point.TheVariants.{Here, Carried}
use Rattle.fal_base.specs.declared.inode.Dentry.{Dentry}
use Rattle.fal_base.specs.declared.key.Key.{Key}
use Rattle.fal_base.specs.declared.reply.Errno.{Errno}
use Rattle.fal_base.specs.declared.reply.Errno.TheVariants.{Enoent, Enotdir}
use Rattle.fal_base.specs.declared.reply.Reply.TheVariants.{Fail}
use Rattle.fal_base.specs.declared.row.NamedRow.{NamedRow}
use Rattle.fal_base.specs.declared.row.Update.{Update}
use Rattle.fal_base.specs.declared.rule.Rule.{Rule}
use Rattle.fal_base.specs.Maps.{with_value}
use Rattle.fal_base.specs.Updates.{laid}
use Rattle.fal_duty.specs.Duties.{owned, count_told}
use Rattle.fal_exec.specs.RowCall.{row_names}
use Rattle.fal_inode.specs.Named.{puts}
use Rattle.fal_locks.specs.Locks.{without_shut}
use Rattle.fal_place.specs.Placement.{Placement, is_within, with_changes}
use Rattle.fal_wait.specs.declared.pending_fetch.PendingFetch.{PendingFetch}
use Rattle.fal_wait.specs.Waiting.{WaitList, call_with_ticket, fetch_of, after_admit, after_settle, without_call}
use Rattle.fal_wire.specs.Letters.{letter, reply_letter}
use Rattle.fal_wire.specs.declared.fault.WireFault.{WireFault}
use Rattle.fal_wire.specs.declared.message.Found.{Found}
use Rattle.fal_wire.specs.declared.message.Found.TheVariants as found
use Rattle.fal_wire.specs.declared.message.Message.{Message}
use Rattle.fal_wire.specs.declared.message.Message.TheVariants as message
use Rattle.fal_wire.specs.Messages.{reading}
use Rattle.fal_wire.specs.declared.letter.Letter.{Letter}
use Rattle.fal_node.specs.declared.blocking.Blocking.{Blocking}
use Rattle.fal_node.specs.State.{NodeState, with_item, is_of}
use Rattle.fal_node.specs.Letters.{Work, begun, is_asker}

-- the call is admitted
unfoldable pub admitted : NodeState → CallRec → NodeState
admitted node call = record node { waiting = after_admit node.waiting call }

-- a call that one row decides is admitted; a rmdir, rename or place is the coordinator's, and changes nothing
abbrev pub take_call : NodeState → CallRec → NodeState
take_call node call = if is_some (row_names call.op) then admitted node call else node

-- a question is kept, to be served later. One by an asker that is not there changes nothing, since its answer would go to nobody
abbrev pub take_question : NodeState → ℕ → ℕ → Key → NodeState
take_question node asker number key = if is_asker node.table.nodes asker then with_item node (message.FetchAsk asker number key) else node

-- the fetch is settled, and the directory is learned: its waiters are free
unfoldable pub learned : NodeState → ℕ → Key → Dentry → NodeState
learned node number key dentry =
    record node {
      waiting = after_settle node.waiting number;
      replica = with_value node.replica key dentry;
    }

-- the calls with these tickets have left
abbrev pub without_calls : WaitList → List ℕ → WaitList
without_calls list [] = list
without_calls list (ticket ∷ tickets) = without_calls (without_call list ticket) tickets

-- the fetch is settled, and its waiters are dismissed: they have left
unfoldable pub dismissed : NodeState → ℕ → List ℕ → NodeState
dismissed node number waiters = record node { waiting = without_calls (after_settle node.waiting number) waiters }

abbrev pub refusal : Option CallRec → Errno → ℕ → List Letter
refusal None errno point = []
refusal (Some call) errno point = reply_letter call (Carried point) (Fail errno) ∷ []

-- the answers to the waiters, in the order of their arrival, at the point that came with the record
abbrev pub refusals : WaitList → Errno → ℕ → List ℕ → List Letter
refusals list errno point [] = []
refusals list errno point (ticket ∷ tickets) = refusal (call_with_ticket list ticket) errno point ++ refusals list errno point tickets

-- nothing to walk through stands there, so each waiter leaves with this errno
abbrev pub refuse : NodeState → ℕ → Errno → PendingFetch → Work
refuse node point errno fetch =
    record { node = dismissed node fetch.number fetch.waiters; sent = refusals node.waiting errno point fetch.waiters; notes = [] }

abbrev pub settle : NodeState → ℕ → Key → Found → PendingFetch → Work
settle node point key (found.Dir dentry) fetch = begun (learned node fetch.number key dentry)
settle node point key found.Nothing fetch = refuse node point Enoent fetch
settle node point key found.File fetch = refuse node point Enotdir fetch

-- a number that is not pending changes nothing
abbrev pub settle_pending : NodeState → ℕ → Key → Found → Option PendingFetch → Work
settle_pending node point key what None = begun node
settle_pending node point key what (Some fetch) = settle node point key what fetch

-- ---- operations of the coordinator

-- the operation is the last that was taken, and its record is kept, to be served later
unfoldable pub with_operation : NodeState → ℕ → Message → NodeState
with_operation node operation message = record (with_item node message) { last_operation = operation }

-- one that is not newer than the last changes nothing
abbrev pub take_operation : NodeState → ℕ → Message → NodeState
take_operation node operation message = if nat_lt node.last_operation operation then with_operation node operation message else node

-- the coordinator is told how many entries the directory has here, where the keys are shut by this operation
abbrev pub take_count : NodeState → ℕ → ℕ → Work
take_count node operation dir =
    if is_of node.locks.shut operation then record (begun node) { sent = letter Coord (Here 0) (count_told node.rows node.number operation dir) ∷ [] } else begun node

-- the updates are laid on the rows, and the operation has no key shut any more
unfoldable pub reopened : NodeState → ℕ → List Update → NodeState
reopened node operation updates = record node { rows = laid updates node.rows; locks = without_shut node.locks operation }

-- the updates of the keys that live here are laid, the keys are opened, and the coordinator is told, where they are shut by this operation
abbrev pub take_commit : NodeState → ℕ → List Update → Work
take_commit node operation updates =
    if is_of node.locks.shut operation then
    record { node = reopened node operation (owned node.table node.number updates); sent = letter Coord (Here 0) (message.Done operation node.number) ∷ []; notes = [] }
    else begun node

-- ---- a name that is placed

-- the one name, if it is one
abbrev pub one_name : Barred → Option (List ℕ)
one_name barred.Nothing = None
one_name (barred.One name) = Some name
one_name barred.All = None

-- the name that this operation has blocked
abbrev pub name_blocked : Option Blocking → ℕ → Option (List ℕ)
name_blocked None operation = None
name_blocked (Some blocking) operation = if blocking.operation == operation then one_name blocking.names else None

-- the node has this table, the updates are laid on its rows, and nothing is blocked
unfoldable pub installed : NodeState → Placement → List Update → NodeState
installed node table updates = record node { table = table; rows = laid updates node.rows; blocked = None }

-- the table of this version, in which the name has the rule
abbrev pub table_with : Placement → ℕ → List ℕ → Rule → Placement
table_with table version name rule = with_changes table version (record { name = name; rule = rule; version = version } ∷ [])

-- the name gets the rule, and the rows are put under their keys; the coordinator is told
abbrev pub install : NodeState → ℕ → ℕ → Rule → List NamedRow → List ℕ → Work
install node operation version rule rows name = record {
  node = installed node (table_with node.table version name rule) (puts name rows);
  sent = letter Coord (Here 0) (message.Installed operation node.number) ∷ [];
  notes = [];
}

-- where this operation has blocked no name here, nothing changes
abbrev pub install_named : NodeState → ℕ → ℕ → Rule → List NamedRow → Option (List ℕ) → Work
install_named node operation version rule rows None = begun node
install_named node operation version rule rows (Some name) = install node operation version rule rows name

-- nor does a rule that names a node that is not there
abbrev pub take_install : NodeState → ℕ → ℕ → Rule → List NamedRow → Work
take_install node operation version rule rows =
    if is_within node.table.nodes rule then install_named node operation version rule rows (name_blocked node.blocked operation) else begun node

-- ---- any record

-- by the kind of the record
abbrev pub take_message : NodeState → ℕ → Message → Work
take_message node point (message.Call call) = begun (take_call node call)
take_message node point (message.FetchAsk asker number key) = begun (take_question node asker number key)
take_message node point (message.FetchGot number key what) = settle_pending node point key what (fetch_of node.waiting number)
take_message node point (message.Reply id reply) = begun node
take_message node point (message.Stale id old new changes) = begun node
take_message node point (message.Opened id dir) = begun node
take_message node point (message.ListAsk id version dir) = begun (with_item node (message.ListAsk id version dir))
take_message node point (message.ListPart id from names) = begun node
take_message node point (message.Lock op keys) = begun (take_operation node op (message.Lock op keys))
take_message node point (message.Locked op from rows) = begun node
take_message node point (message.Count op dir) = take_count node op dir
take_message node point (message.Counted op from number) = begun node
take_message node point (message.Commit op updates) = take_commit node op updates
take_message node point (message.Done op from) = begun node
take_message node point (message.Block op name) = begun (take_operation node op (message.Block op name))
take_message node point (message.Blocked op from rows) = begun node
take_message node point (message.Install op version rule rows) = take_install node op version rule rows
take_message node point (message.Installed op from) = begun node

-- bytes that are no record change nothing
abbrev pub take_read : NodeState → ℕ → Result Message WireFault → Work
take_read node point (Ok message) = take_message node point message
take_read node point (Err fault) = begun node

unfoldable pub delivered : NodeState → Envelope → Work
delivered node envelope = take_read node envelope.point (reading envelope.bytes)
