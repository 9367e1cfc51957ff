-- The operation of the coordinator: where it is, where each node is, and what records tell of it.
use Rattle.std.proofs.Common.{◌≡◌, ◌≢◌, ◌⊎◌, inl, inr, ⊎_elim, ℕ, zero, suc, ◌<◌, ◌≤◌, Bool, true, false, ◌||◌, List, [], ◌∷◌, length, Option, Some, None, IsSomeAnd, refl, arith}
use Rattle.std.specs.List.{All}
use Rattle.std.specs.Option.{option_map}
use Rattle.std.specs.Prelude.{slice_get, ◌==◌, if◌then◌else◌}
use Rattle.fal_base.specs.declared.call.CallRec.{CallRec}
use Rattle.fal_base.specs.declared.call.Cred.{Cred}
use Rattle.fal_base.specs.declared.event.Actor.{Actor}
use Rattle.fal_base.specs.declared.event.Actor.TheVariants.{Node}
use Rattle.fal_base.specs.declared.inode.Inode.{Inode}
use Rattle.fal_base.specs.declared.key.Key.{Key}
use Rattle.fal_base.specs.declared.row.Update.{Update}
use Rattle.fal_base.specs.Commits.{Commit}
use Rattle.fal_base.specs.Tree.{Tree, row_at, same_key}
use Rattle.fal_base.specs.Walk.{Ready, walk, dentry_of}
use Rattle.fal_base.specs.Updates.{keys_of}
use Rattle.fal_base.proofs.Entries.{SomeUnder}
use Rattle.fal_coord.specs.Nodes.{is_missing, numbers_below}
use Rattle.fal_dentry.specs.Walk.{is_among}
use Rattle.fal_duty.specs.Duties.{owned, rows_of}
use Rattle.fal_run.specs.Calls.{is_making}
use Rattle.fal_place.specs.Placement.{Placement, owner}
use Rattle.fal_wire.specs.declared.message.Message.{Message}
use Rattle.fal_wire.specs.declared.message.Message.TheVariants as message
use Rattle.fal_locks.specs.declared.holder.Shut.{Shut}
use Rattle.fal_story.proofs.Lists.Grown.{tells}
use Rattle.fal_story.proofs.Phase.{Phase, Runs, IsPast}
use Rattle.fal_story.proofs.Trees.Standing.{tree_now, NoneUnder}
use Rattle.fal_story.proofs.View.{Post, Asking, IsPosted, Kept, Work, Rests, Walks, Locks, Counts, Ends, Blocks, Lands}

-- ---- numbers of nodes

abbrev pub IsMissing : ℕ → List ℕ → Type 0
IsMissing n missing = is_missing n missing ≡ true

either_true : (a b : Bool) → (a ≡ true) ⊎ (b ≡ true) → (a || b) ≡ true
either_true true b is = refl
either_true false b is = ⊎_elim (λ x. absurd (cc)) (λ x. x) is

pub among_below : (nodes n : ℕ) → n < nodes → IsMissing n (numbers_below nodes)
among_below zero n below = absurd (omega arith)
among_below (suc nodes) n below =
    either_true (nodes == n) _ (⊎_elim (λ x. inl x.0) (λ x. let apart = x.1 in inr (among_below nodes n (grind arith))) (tells nodes n))

-- ---- where the nodes are

abbrev pub shut_by : ℕ → List Key → Option Shut
shut_by operation keys = Some (record { op = operation; keys = keys })

-- the operation has not come to the node; its Lock is the node's next item; or the node has the keys shut
abbrev pub IsAway : ℕ → Option Shut → Option Message → ℕ → Type 0
IsAway operation shut queued last = (shut ≡ None) × (queued ≡ None) × (last < operation)

abbrev pub IsQueued : ℕ → List Key → Option Shut → Option Message → ℕ → Type 0
IsQueued operation keys shut queued last = (shut ≡ None) × (queued ≡ Some (message.Lock operation keys)) × (last ≡ operation)

abbrev pub HasShut : ℕ → List Key → Option Shut → Option Message → ℕ → Type 0
HasShut operation keys shut queued last = (shut ≡ shut_by operation keys) × (queued ≡ None) × (last ≡ operation)

-- an open node has nothing due; a node that has shut the keys of a decided operation has its part of the updates due
abbrev pub Stands : Placement → ℕ → Work → ℕ → Option Shut → Option Message → ℕ → List Update → Type 0
Stands table operation Rests n shut queued last due = (due ≡ []) × (shut ≡ None) × (queued ≡ None) × (last ≤ operation)
Stands table operation (Walks lane) n shut queued last due = (due ≡ []) × (shut ≡ None) × (queued ≡ None) × (last < operation)
Stands table operation (Locks lane keys walks missing rows) n shut queued last due =
    (due ≡ []) × ((IsMissing n missing × (IsAway operation shut queued last ⊎ IsQueued operation keys shut queued last)) ⊎ HasShut operation keys shut queued last)
Stands table operation (Counts lane keys walks missing rows dir updates sum) n shut queued last due = (due ≡ []) × HasShut operation keys shut queued last
Stands table operation (Blocks lane name rule missing came) n shut queued last due = (shut ≡ None) × (last ≤ operation)
Stands table operation (Lands name rule old missing) n shut queued last due = (shut ≡ None) × (last ≤ operation)
Stands table operation (Ends keys updates missing) n shut queued last due =
    ((due ≡ owned table n updates) × IsMissing n missing × HasShut operation keys shut queued last) ⊎ ((due ≡ []) × (shut ≡ None) × (queued ≡ None) × (last ≡ operation))

-- ---- what records tell

-- the operation locks these keys, or has done so
abbrev pub LocksKeys : Work → List Key → Type 0
LocksKeys Rests keys = ⊥
LocksKeys (Walks lane) keys = ⊥
LocksKeys (Locks lane locked walks missing rows) keys = locked ≡ keys
LocksKeys (Counts lane locked walks missing rows dir updates sum) keys = locked ≡ keys
LocksKeys (Blocks lane name rule missing came) keys = ⊥
LocksKeys (Lands name rule old missing) keys = ⊥
LocksKeys (Ends locked updates missing) keys = locked ≡ keys

abbrev pub ToldLocked : Placement → Tree → ℕ → Work → Option Shut → ℕ → List Update → Type 0
ToldLocked table tree operation Rests shut n rows = Unit {0}
ToldLocked table tree operation (Walks lane) shut n rows = ⊥
ToldLocked table tree operation (Locks lane keys walks missing kept) shut n rows = (shut ≡ shut_by operation keys) × (rows ≡ rows_of table tree n keys)
ToldLocked table tree operation (Counts lane keys walks missing kept dir updates sum) shut n rows = (shut ≡ shut_by operation keys) × (rows ≡ rows_of table tree n keys)
ToldLocked table tree operation (Blocks lane name rule missing came) shut n rows = ⊥
ToldLocked table tree operation (Lands name rule old missing) shut n rows = ⊥
ToldLocked table tree operation (Ends keys updates missing) shut n rows = Unit {0}

abbrev pub ToldCommit : Work → List Update → Type 0
ToldCommit Rests updates = Unit {0}
ToldCommit (Walks lane) updates = ⊥
ToldCommit (Locks lane keys walks missing rows) updates = ⊥
ToldCommit (Counts lane keys walks missing rows dir made sum) updates = ⊥
ToldCommit (Blocks lane name rule missing came) updates = ⊥
ToldCommit (Lands name rule old missing) updates = ⊥
ToldCommit (Ends keys made missing) updates = made ≡ updates

abbrev pub ToldDone : Work → Option Shut → Type 0
ToldDone Rests shut = Unit {0}
ToldDone (Walks lane) shut = ⊥
ToldDone (Locks lane keys walks missing rows) shut = ⊥
ToldDone (Counts lane keys walks missing rows dir made sum) shut = ⊥
ToldDone (Blocks lane name rule missing came) shut = ⊥
ToldDone (Lands name rule old missing) shut = ⊥
ToldDone (Ends keys made missing) shut = shut ≡ None

abbrev pub IsCounted : Placement → Tree → ℕ → ℕ → ℕ → Type 0
IsCounted table tree n dir number = (number ≡ 0 → NoneUnder table tree n dir) × (number ≢ 0 → SomeUnder tree dir)

abbrev pub ToldCounted : Placement → Tree → Work → ℕ → ℕ → Type 0
ToldCounted table tree Rests n number = Unit {0}
ToldCounted table tree (Walks lane) n number = ⊥
ToldCounted table tree (Locks lane keys walks missing rows) n number = ⊥
ToldCounted table tree (Counts lane keys walks missing rows dir updates sum) n number = IsCounted table tree n dir number
ToldCounted table tree (Blocks lane name rule missing came) n number = ⊥
ToldCounted table tree (Lands name rule old missing) n number = ⊥
ToldCounted table tree (Ends keys updates missing) n number = Unit {0}

abbrev pub ToldCount : Work → ℕ → Type 0
ToldCount Rests asked = Unit {0}
ToldCount (Walks lane) asked = ⊥
ToldCount (Locks lane keys walks missing rows) asked = ⊥
ToldCount (Counts lane keys walks missing rows dir updates sum) asked = dir ≡ asked
ToldCount (Blocks lane name rule missing came) asked = ⊥
ToldCount (Lands name rule old missing) asked = ⊥
ToldCount (Ends keys updates missing) asked = Unit {0}

-- what a record tells of the operation; the coordinator asks for a row only for one
abbrev pub IsTold : ℕ → Placement → Tree → ℕ → Work → (ℕ → Option Shut) → (ℕ → ℕ) → Actor → Message → Type 0
IsTold nodes table tree operation work shut last to (message.Lock o keys) = (n : ℕ) × (to ≡ Node n) × (n < nodes) × ((o ≤ last n) ⊎ ((o ≡ operation) × LocksKeys work keys))
IsTold nodes table tree operation work shut last to (message.Locked o n rows) = (o ≤ operation) × (o ≡ operation → ToldLocked table tree operation work (shut n) n rows)
IsTold nodes table tree operation work shut last to (message.Commit o updates) = (o ≤ operation) × (o ≡ operation → ToldCommit work updates)
IsTold nodes table tree operation work shut last to (message.Done o n) = (o ≤ operation) × (o ≡ operation → ToldDone work (shut n))
IsTold nodes table tree operation work shut last to (message.Count o dir) = (o ≤ operation) × (o ≡ operation → ToldCount work dir)
IsTold nodes table tree operation work shut last to (message.Counted o n number) = (o ≤ operation) × (o ≡ operation → ToldCounted table tree work n number)
IsTold nodes table tree operation work shut last to (message.FetchAsk asker number key) = asker ≡ 255 → 0 < operation
IsTold nodes table tree operation work shut last to other = Unit {0}

-- ---- what the coordinator keeps

abbrev pub IsKept : Tree → Cred → Kept → Type 0
IsKept tree cred w = (dir : Option Inode) × ((walk tree cred w.names ≡ Ready dir w.passed w.last) × (option_map dentry_of dir ≡ w.parent))

-- the walks that are kept end in the tree as they did
abbrev pub AreKept : Tree → (ℕ → CallRec) → Work → Type 0
AreKept tree call Rests = Unit {0}
AreKept tree call (Walks lane) = Unit {0}
AreKept tree call (Locks lane keys walks missing rows) = All (IsKept tree (call lane).cred) walks
AreKept tree call (Counts lane keys walks missing rows dir updates sum) = All (IsKept tree (call lane).cred) walks
AreKept tree call (Blocks lane name rule missing came) = Unit {0}
AreKept tree call (Lands name rule old missing) = Unit {0}
AreKept tree call (Ends keys updates missing) = Unit {0}

-- the row that was told first under the key
abbrev pub row_told : List Update → Key → Option (Option Inode)
row_told [] key = None
row_told (u ∷ us) key = if same_key u.key key then Some u.row else row_told us key

-- the rows that came are the tree's, of each locked key whose owner was heard; of the others none came
abbrev pub AreHeard : Placement → Tree → Work → Type 0
AreHeard table tree Rests = Unit {0}
AreHeard table tree (Walks lane) = Unit {0}
AreHeard table tree (Locks lane keys walks missing rows) = (key : Key) → is_among key keys ≡ true
    → (IsMissing (owner table key) missing × (row_told rows key ≡ None)) ⊎ ((IsMissing (owner table key) missing → ⊥) × (row_told rows key ≡ Some (row_at tree key)))
AreHeard table tree (Counts lane keys walks missing rows dir updates sum) = (key : Key) → is_among key keys ≡ true → row_told rows key ≡ Some (row_at tree key)
AreHeard table tree (Blocks lane name rule missing came) = Unit {0}
AreHeard table tree (Lands name rule old missing) = Unit {0}
AreHeard table tree (Ends keys updates missing) = Unit {0}

-- the directory of which the rows are counted stands under a key that is locked
abbrev pub HasDirs : Tree → Work → Type 0
HasDirs tree (Counts lane keys walks missing rows dir updates sum) = (key : Key) × (is_among key keys ≡ true) × IsSomeAnd (row_at tree key) (λ (r : Inode). r.ino ≡ dir)
HasDirs tree other = Unit {0}

-- of the rows under it, no node that was heard has one, where the sum is zero; where it is not, there is one
abbrev pub AreCounted : Placement → Tree → Work → Type 0
AreCounted table tree (Counts lane keys walks missing rows dir updates sum) = ((n : ℕ) → IsMissing n missing ⊎ (sum ≡ 0 → NoneUnder table tree n dir)) × (sum ≢ 0 → SomeUnder tree dir)
AreCounted table tree other = Unit {0}

-- the updates of a decided operation are under keys that it locks
abbrev pub AreWithin : Work → Type 0
AreWithin (Ends keys updates missing) = (key : Key) → is_among key (keys_of updates) ≡ true → is_among key keys ≡ true
AreWithin other = Unit {0}

-- ---- its call

abbrev pub IsOf : ℕ → Work → Type 0
IsOf l Rests = ⊥
IsOf l (Walks lane) = ⊥
IsOf l (Locks lane keys walks missing rows) = lane ≡ l
IsOf l (Counts lane keys walks missing rows dir updates sum) = lane ≡ l
IsOf l (Blocks lane name rule missing came) = lane ≡ l
IsOf l (Lands name rule old missing) = ⊥
IsOf l (Ends keys updates missing) = ⊥

-- the coordinator asks for nothing but while it walks
abbrev pub IsQuiet : Work → List Asking → Type 0
IsQuiet (Walks lane) own = Unit {0}
IsQuiet other own = own ≡ []

pub record Starts (starts : List (ℕ × ℕ)) (operation : ℕ) (work : Work) (seq : ℕ → ℕ) (phase : ℕ → Phase) : Type 0 where
  pub count : length starts ≡ operation
  pub apart : (i j : ℕ) (x : ℕ × ℕ) → slice_get starts i ≡ Some x → slice_get starts j ≡ Some x → i ≡ j
  pub sent : (i l s : ℕ) → slice_get starts i ≡ Some (l, s) → (0 < s) × (s ≤ seq l)
  pub last : (i l : ℕ) → slice_get starts i ≡ Some (l, seq l) → (work ≡ Walks l) ⊎ IsPast (phase l)

pub record Operation (nodes : ℕ) (table : Placement) (shut : ℕ → Option Shut) (queued : ℕ → Option Message) (last : ℕ → ℕ) (due : ℕ → List Update) (operation : ℕ) (work : Work) (starting : List (ℕ × ℕ))
    (own : List Asking) (posts : List Post) (commits : List Commit) (seq : ℕ → ℕ) (call : ℕ → CallRec) (phase : ℕ → Phase) : Type 0 where
  pub stands : (n : ℕ) → n < nodes → Stands table operation work n (shut n) (queued n) (last n) (due n)
  pub beyond : (n : ℕ) → nodes ≤ n → shut n ≡ None
  pub told : (e p : ℕ) (to : Actor) (m : Message) → IsPosted posts e to p m → IsTold nodes table (tree_now commits) operation work shut last to m
  pub walks : AreKept (tree_now commits) call work
  pub heard : AreHeard table (tree_now commits) work
  pub within : AreWithin work
  pub dirs : HasDirs (tree_now commits) work
  pub counts : AreCounted table (tree_now commits) work
  pub runs : (l : ℕ) → phase l ≡ Runs → IsOf l work
  pub running : (l : ℕ) → IsOf l work → phase l ≡ Runs
  pub unmaking : (l : ℕ) → phase l ≡ Runs → is_making (call l).op ≡ false
  pub quiet : IsQuiet work own
  pub starts : Starts starting operation work seq phase

-- nodes are elsewhere, or records tell more, and the coordinator is where it was
module _ {nodes : ℕ} {table : Placement} {shut shut' : ℕ → Option Shut} {queued queued' : ℕ → Option Message} {last last' : ℕ → ℕ} {due due' : ℕ → List Update} {operation : ℕ} {work : Work} {starts : List (ℕ × ℕ)}
    {own : List Asking} {posts posts' : List Post} {commits : List Commit} {seq : ℕ → ℕ} {call : ℕ → CallRec} {phase : ℕ → Phase} (g : Operation nodes table shut queued last due operation work starts own posts commits seq call phase) where
  pub operation_placed : ((n : ℕ) → n < nodes → Stands table operation work n (shut' n) (queued' n) (last' n) (due' n)) → ((n : ℕ) → nodes ≤ n → shut' n ≡ None)
      → ((e p : ℕ) (to : Actor) (m : Message) → IsPosted posts' e to p m → IsTold nodes table (tree_now commits) operation work shut' last' to m)
      → Operation nodes table shut' queued' last' due' operation work starts own posts' commits seq call phase
  operation_placed stands beyond told = record {
    stands = stands;
    beyond = beyond;
    told = told;
    walks = g.walks;
    heard = g.heard;
    within = g.within;
    dirs = g.dirs;
    counts = g.counts;
    runs = g.runs;
    running = g.running;
    unmaking = g.unmaking;
    quiet = g.quiet;
    starts = g.starts;
  }
