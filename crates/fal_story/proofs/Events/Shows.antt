-- What a world shows: its view, and the calls that its lists keep.
use Rattle.std.proofs.Common.{◌≡◌, ◌≢◌, ℕ, ◌+◌, ◌-◌, ◌<◌, ◌≤◌, ◌==◌, Bool, true, false, ◌&&◌, List, [], ◌∷◌, ◌++◌, length, Option, Some, None, is_some}
use Rattle.std.specs.Prelude.{slice_get, map, filter, IsTrue, if◌then◌else◌, IsSome}
use Rattle.std.specs.List.{list_any}
use Rattle.std.specs.Result.{result_ok}
use Rattle.fal_base.specs.declared.barred.Barred.TheVariants as blocked
use Rattle.fal_base.specs.declared.barred.Barred.{Barred}
use Rattle.fal_base.specs.declared.call.CallRec.{CallRec}
use Rattle.fal_base.specs.declared.call.Config.{Config}
use Rattle.fal_base.specs.declared.event.Actor.TheVariants.{Node}
use Rattle.fal_base.specs.declared.event.Envelope.{Envelope}
use Rattle.fal_base.specs.Names.{is_name}
use Rattle.fal_base.specs.Transcript.{call_of}
use Rattle.fal_client.specs.declared.current.Current.{Current}
use Rattle.fal_client.specs.declared.current.Listing.{Listing}
use Rattle.fal_client.specs.Parts.{missing_count}
use Rattle.fal_client.specs.State.{ClientState}
use Rattle.fal_base.specs.declared.key.Key.{Key}
use Rattle.fal_base.specs.declared.op.Op.TheVariants as op
use Rattle.fal_base.specs.declared.reply.Reply.TheVariants.{Fine}
use Rattle.fal_base.specs.declared.row.Update.{Update}
use Rattle.fal_base.specs.Commits.{Commit}
use Rattle.fal_base.specs.Marks.{Marks}
use Rattle.fal_coord.specs.declared.stage.Operation.{Operation}
use Rattle.fal_coord.specs.declared.stage.Stage.{Stage}
use Rattle.fal_coord.specs.declared.stage.Stage.TheVariants as stage
use Rattle.fal_coord.specs.Decide.{verdict_on}
use Rattle.fal_coord.specs.Judged as judged
use Rattle.fal_coord.specs.Judged.{is_for_rows}
use Rattle.fal_coord.specs.State.{CoordState}
use Rattle.fal_coord.specs.Walks.{walked_paths, is_operation, is_walking, is_busy, parents_of, with_ends}
use Rattle.fal_dentry.specs.Walk.{Dentries, is_among}
use Rattle.fal_exec.specs.RowCall.{row_names}
use Rattle.fal_locks.specs.Keys.{has_key}
use Rattle.fal_locks.specs.Locks.{LockTable}
use Rattle.fal_locks.specs.declared.holder.Shut.{Shut}
use Rattle.fal_node.specs.declared.batch.Batch.{Batch}
use Rattle.fal_node.specs.declared.blocking.Blocking.{Blocking}
use Rattle.fal_place.specs.Placement.{Placement, Placing, table_after}
use Rattle.fal_run.specs.declared.call.BatchCall.{BatchCall}
use Rattle.fal_node.specs.declared.item.Item.{Item}
use Rattle.fal_node.specs.State.{NodeState, batch_of}
use Rattle.fal_wait.specs.declared.pending_fetch.PendingFetch.{PendingFetch}
use Rattle.fal_wait.specs.declared.waiting_call.WaitingCall.{WaitingCall}
use Rattle.fal_wait.specs.Waiting.{are_rising, WaitList, waits_on, fetch_of}
use Rattle.fal_wire.specs.declared.message.Message.{Message}
use Rattle.fal_wire.specs.declared.message.Message.TheVariants as message
use Rattle.fal_wire.specs.Messages.{reading}
use Rattle.fal_story.proofs.Events.Doing.{work_of, name_in, rule_in, awaited}
use Rattle.fal_story.proofs.Good.{Good}
use Rattle.fal_story.proofs.Lists.Each.{Each, Apart}
use Rattle.fal_story.proofs.Phase.{Phase, Idle, Waits, Plans, Tells, Lists}
use Rattle.fal_story.proofs.Trees.Parted.{AreParts}
use Rattle.fal_story.proofs.Trees.PlaceAnswers.{table_reply}
use Rattle.fal_story.proofs.Lists.Members.{IsIn}
use Rattle.fal_story.proofs.View.{View, Post, Asking, Operating, Mapped, IsPosted, plain, seat}
use Rattle.fal_story.specs.World.{World, put}

-- what no state has: of each lane its last call, the commits when it was sent, where it is, and the keys on which its place rests; of each
-- node the Lock or the Block that is its next item, and the updates that it has still to lay; the calls for which operations were started;
-- and the placements that were made
pub record Ghost : Type 0 where
  pub call : ℕ → CallRec
  pub since : ℕ → ℕ
  pub phase : ℕ → Phase
  pub crossed : ℕ → List Key
  pub queued : ℕ → Option Message
  pub due : ℕ → List Update
  pub starts : List (ℕ × ℕ)
  pub placings : List Placing

abbrev pub post_of : Envelope → Post
post_of e = record { to = seat e.to; point = e.point; message = result_ok (reading e.bytes) }

abbrev pub posts_of : List Envelope → List Post
posts_of envelopes = map (λ e. post_of e) envelopes

abbrev pub askings_of : List PendingFetch → List Asking
askings_of fetches = map (λ f. record { number = f.number; key = f.key }) fetches

-- ---- what an operation has under way

-- the table before the last placement
abbrev pub before_in : Config → Ghost → Placement
before_in config h = table_after config.nodes h.placings (length h.placings - 1)

abbrev pub operating : Config → (ℕ → Option Shut) → (ℕ → ℕ) → CoordState → Ghost → Operating
operating config shut last coord h = record {
  shut = shut;
  queued = h.queued;
  last = last;
  due = h.due;
  operation = coord.operation;
  work = work_of (before_in config h) coord.stage;
  starts = h.starts;
  crossed = h.crossed;
}

-- ---- components of nodes, with the coordinator's at its seat

abbrev pub replicas_of : (ℕ → NodeState) → CoordState → ℕ → Dentries
replicas_of nodes coord = put (λ m. (nodes m).replica) 255 coord.replica

abbrev pub fetches_of : (ℕ → NodeState) → CoordState → ℕ → List Asking
fetches_of nodes coord = put (λ m. askings_of (nodes m).waiting.fetches) 255 (awaited coord.stage)

abbrev pub opened_of : (ℕ → NodeState) → CoordState → ℕ → ℕ
opened_of nodes coord = put (λ m. (nodes m).waiting.opened) 255 coord.asked

abbrev pub taken_of : (ℕ → NodeState) → CoordState → ℕ → Marks
taken_of nodes coord = put (λ m. (nodes m).waiting.last) 255 coord.last

abbrev pub shut_of : (ℕ → NodeState) → ℕ → Option Shut
shut_of nodes = λ m. (nodes m).locks.shut

abbrev pub last_of : (ℕ → NodeState) → ℕ → ℕ
last_of nodes = λ m. (nodes m).last_operation

-- ---- where rows live

-- the operation and the name that a node has blocked
abbrev pub barred_name : ℕ → Barred → Option (ℕ × List ℕ)
barred_name operation blocked.Nothing = None
barred_name operation (blocked.One name) = Some (operation, name)
barred_name operation blocked.All = None

abbrev pub barred_of : Option Blocking → Option (ℕ × List ℕ)
barred_of None = None
barred_of (Some blocking) = barred_name blocking.operation blocking.names

abbrev pub tables_of : (ℕ → NodeState) → ℕ → Placement
tables_of nodes = λ m. (nodes m).table

abbrev pub barred_in : (ℕ → NodeState) → ℕ → Option (ℕ × List ℕ)
barred_in nodes = λ m. barred_of (nodes m).blocked

abbrev pub known_of : (ℕ → ClientState) → ℕ → Placement
known_of clients = λ l. (clients l).table

-- the recorded table is the coordinator's
abbrev pub mapped : (ℕ → Placement) → (ℕ → Option (ℕ × List ℕ)) → (ℕ → ClientState) → CoordState → Ghost → Mapped
mapped tables barred clients coord h = record { table = coord.table; placings = h.placings; tables = tables; barred = barred; known = known_of clients }

abbrev pub view_of : Config → World → Ghost → View
view_of config w h = record {
  rows = λ m. (w.nodes m).rows;
  replica = replicas_of w.nodes w.coord;
  fetches = fetches_of w.nodes w.coord;
  opened = opened_of w.nodes w.coord;
  taken = taken_of w.nodes w.coord;
  drawn = λ m. (w.nodes m).drawn;
  posts = posts_of w.envelopes;
  entries = w.entries;
  commits = w.commits;
  seq = λ l. (w.clients l).seq;
  call = h.call;
  since = h.since;
  phase = h.phase;
  op = operating config (shut_of w.nodes) (last_of w.nodes) w.coord h;
  map = mapped (tables_of w.nodes) (barred_in w.nodes) w.clients w.coord h;
}

-- ---- lists

abbrev pub lane_of : WaitingCall → ℕ
lane_of w = w.call.id.client

abbrev pub planned_lane : BatchCall → ℕ
planned_lane x = x.call.id.client

abbrev pub pending_calls : Batch → List BatchCall
pending_calls batch = if batch.executed then [] else batch.calls

-- the calls of batches that are not yet executed
abbrev pub calls_in : List Batch → List BatchCall
calls_in [] = []
calls_in (batch ∷ batches) = pending_calls batch ++ calls_in batches

-- the call waits at this node, whose number is not the coordinator's; it is a call on rows
abbrev pub WaitsAt : (ℕ → CallRec) → (ℕ → Phase) → ℕ → WaitingCall → Type 0
WaitsAt call phase n w = (phase (lane_of w) ≡ Waits n w.fetch) × (w.call ≡ call (lane_of w)) × (n ≢ 255) × IsTrue (is_some (row_names w.call.op))

abbrev pub PlannedAt : (ℕ → CallRec) → (ℕ → Phase) → ℕ → BatchCall → Type 0
PlannedAt call phase n x = (phase (planned_lane x) ≡ Plans n x) × (x.call ≡ call (planned_lane x)) × IsTrue (is_some (row_names x.call.op))

-- the calls that a node keeps
pub record Held (call : ℕ → CallRec) (phase : ℕ → Phase) (n : ℕ) (ws : List WaitingCall) (ps : List BatchCall) : Type 0 where
  pub waiters : Each (WaitsAt call phase n) ws
  pub planned : Each (PlannedAt call phase n) ps
  pub waiters_apart : Apart lane_of ws
  pub planned_apart : Apart planned_lane ps

-- a fetch keeps the tickets of the calls that wait on it, in the order of their arrival, and there is one
abbrev pub IsTied : List WaitingCall → PendingFetch → Type 0
IsTied calls f = (f.waiters ≡ map (λ w. w.ticket) (filter (λ w. waits_on f.number w.fetch) calls)) × (0 < length f.waiters)

-- tickets and fetches rise, each call that waits on a fetch waits on a pending one, and each pending fetch has its waiters
pub record IsTidy (list : WaitList) : Type 0 where
  pub tickets : IsTrue (are_rising list.calls list.tickets)
  pub apart : Apart (λ f. f.number) list.fetches
  pub below : Each (λ f. f.number < list.opened) list.fetches
  pub pending : Each (λ w. (number : ℕ) → w.fetch ≡ Some number → IsSome (fetch_of list number)) list.calls
  pub tied : Each (IsTied list.calls) list.fetches

-- each item is a record that was sent to the node
abbrev pub AreSent : List Post → ℕ → List Item → Type 0
AreSent posts n items = Each (λ item. (e : ℕ) × ((p : ℕ) × IsPosted posts e (Node n) p item.message)) items

-- a listing is under way where the call's place says so; it has a place for each node's part, and some part is missing
abbrev pub IsListed : ℕ → Phase → Option Listing → Type 0
IsListed nodes phase None = (k dir : ℕ) → phase ≢ Tells (Lists k dir)
IsListed nodes phase (Some listing) = (phase ≡ Tells (Lists listing.opened listing.dir)) × (length listing.parts ≡ nodes) × (0 < missing_count listing.parts)

-- a client agrees. Its table is one of those that the placements left, as what clients know says
pub record Heard (config : Config) (call : ℕ → CallRec) (phase : ℕ → Phase) (l : ℕ) (c : ClientState) : Type 0 where
  pub lane : c.lane ≡ l
  pub nodes : c.nodes ≡ config.nodes
  pub left : (k : ℕ) → slice_get c.left k ≡ call_of config l (c.seq + 1 + k)
  pub none : c.current ≡ None → phase l ≡ Idle
  pub some : (current : Current) → c.current ≡ Some current → (phase l ≢ Idle) × (current.call ≡ plain (call l)) × (current.attempt ≡ (call l).id.attempt) × IsListed config.nodes (phase l) current.listing

-- each part that a listing keeps is its node's share
abbrev pub AreKept : Placement → List Commit → Option Listing → Type 0
AreKept table commits None = Unit {0}
AreKept table commits (Some listing) = AreParts table commits listing.opened listing.dir listing.parts

abbrev pub IsKeeping : List Commit → ClientState → Type 0
IsKeeping commits c = (current : Current) → c.current ≡ Some current → AreKept c.table commits current.listing

-- what is blocked is one name
abbrev pub HasOneName : Option Blocking → Type 0
HasOneName None = Unit {0}
HasOneName (Some blocking) = (name : List ℕ) × (blocking.names ≡ blocked.One name) × (is_name name ≡ true)

-- a node is the one of its number; it has blocked no more than one name, and its waiting list is tidy
pub record IsPlaced (config : Config) (n : ℕ) (x : NodeState) : Type 0 where
  pub number : x.number ≡ n
  pub limit : x.limit ≡ config.batch
  pub blocked : HasOneName x.blocked
  pub tidy : IsTidy x.waiting

-- ---- what is known beside, of nodes and of the coordinator

-- the Locks and Blocks among the items
abbrev pub is_lock : Message → Bool
is_lock (message.Lock operation keys) = true
is_lock (message.Block operation name) = true
is_lock other = false

abbrev pub locks_in : List Item → List Message
locks_in items = filter (λ m. is_lock m) (map (λ (item : Item). item.message) items)

abbrev pub listed_of : Option Message → List Message
listed_of None = []
listed_of (Some m) = m ∷ []

-- the batch holds the key
abbrev pub is_holding : LockTable → ℕ → Key → Bool
is_holding locks number key = list_any (λ h. (h.number == number) && has_key h.keys key) locks.holders

-- the call is one of a batch that is not executed, which holds the keys
pub record IsHeldBy (l : ℕ) (keys : List Key) (x : NodeState) (p : BatchCall) : Type 0 where
  pub batch : Batch
  pub there : batch_of x batch.number ≡ Some batch
  pub pending : batch.executed ≡ false
  pub among : IsIn p batch.calls
  pub lane : planned_lane p ≡ l
  pub keys_held : (key : Key) → is_among key keys ≡ true → is_holding x.locks batch.number key ≡ true

-- the keys on which each planned call rests are held by its batch
pub record Holds (phase : ℕ → Phase) (crossed : ℕ → List Key) (n : ℕ) (x : NodeState) : Type 0 where
  pub below : Each (λ batch. batch.number < x.batches_numbered) x.batches
  pub planned : (l : ℕ) (p : BatchCall) → phase l ≡ Plans n p → IsHeldBy l (crossed l) x p

-- the operation's op and walks suit each other, and its keys are the last keys of its paths
pub record Suits (operation : Operation) : Type 0 where
  pub rows : IsTrue (is_for_rows operation.call.op (parents_of operation.walks))
  pub keys : operation.keys ≡ with_ends [] (walked_paths operation.call.op) operation.walks

-- the call places a name, and by the table it is answered ok
pub record IsPlaceable (nodes : ℕ) (table : Placement) (c : CallRec) : Type 0 where
  pub places : c.op ≡ op.Place (name_in c.op) (rule_in c.op)
  pub fine : table_reply nodes table c.cred (name_in c.op) (rule_in c.op) ≡ Fine

-- the call that the coordinator is at, which has the table. In each stage that waits for nodes, some node is still to be heard
abbrev pub IsCurrent : ℕ → Placement → (ℕ → CallRec) → (ℕ → Phase) → Stage → Type 0
IsCurrent nodes table call phase stage.Idle = Unit {0}
IsCurrent nodes table call phase (stage.Walk c number key) =
    (c ≡ call c.id.client) × (phase c.id.client ≡ Waits 255 (Some number)) × IsTrue (is_walking c.op) × (is_busy c.op ≡ false)
IsCurrent nodes table call phase (stage.Lock operation missing rows) = (operation.call ≡ call operation.call.id.client) × Suits operation × (missing ≢ [])
IsCurrent nodes table call phase (stage.Count operation rows dir updates missing counts) =
    (operation.call ≡ call operation.call.id.client) × Suits operation × (missing ≢ []) × (verdict_on operation rows ≡ judged.Count dir updates)
IsCurrent nodes table call phase (stage.Finish keys updates missing) = missing ≢ []
IsCurrent nodes table call phase (stage.Block c missing rows) = (c ≡ call c.id.client) × IsPlaceable nodes table c × (missing ≢ [])
IsCurrent nodes table call phase (stage.Install c missing) = missing ≢ []

abbrev pub WaitsThere : (ℕ → CallRec) → (ℕ → Phase) → CallRec → Type 0
WaitsThere call phase c = (phase c.id.client ≡ Waits 255 None) × (c ≡ call c.id.client) × IsTrue (is_operation c.op)

-- each placement was an operation, and while the nodes give rows away, that of the operation under way is still to be made
abbrev pub IsNumbered : ℕ → ℕ → Stage → Type 0
IsNumbered version operation (stage.Block c missing rows) = version < operation
IsNumbered version operation other = version ≤ operation

-- the calls that the coordinator keeps
pub record Hosts (config : Config) (call : ℕ → CallRec) (phase : ℕ → Phase) (c : CoordState) : Type 0 where
  pub waiters : Each (WaitsThere call phase) c.waiting
  pub apart : Apart (λ (k : CallRec). k.id.client) c.waiting
  pub current : IsCurrent config.nodes c.table call phase c.stage
  pub numbered : IsNumbered c.table.version c.operation c.stage

-- what is known beside the view and what is kept at each node
pub record Beside (config : Config) (nodes : ℕ → NodeState) (coord : CoordState) (h : Ghost) : Type 0 where
  pub queues : (n : ℕ) → locks_in (nodes n).items ≡ listed_of (h.queued n)
  pub holding : (n : ℕ) → Holds h.phase h.crossed n (nodes n)
  pub hosts : Hosts config h.call h.phase coord

-- the invariant of all legal runs
pub record Shows (config : Config) (w : World) (h : Ghost) : Type 0 where
  pub good : Good config (view_of config w h)
  pub held : (n : ℕ) → Held h.call h.phase n (w.nodes n).waiting.calls (calls_in (w.nodes n).batches)
  pub items : (n : ℕ) → AreSent (posts_of w.envelopes) n (w.nodes n).items
  pub heard : (l : ℕ) → Heard config h.call h.phase l (w.clients l)
  pub kept : (l : ℕ) → IsKeeping w.commits (w.clients l)
  pub placed : (n : ℕ) → IsPlaced config n (w.nodes n)
  pub beside : Beside config w.nodes w.coord h
