-- Where each call under way is found: on its way to a node or to the coordinator, at one of these, or on its way back, answered or with a
-- later table.
use Rattle.std.proofs.Common.{is_some, ◌≡◌, ◌≢◌, ◌⊎◌, ⊎_elim, ℕ, ◌<◌, ◌≤◌, Bool, true, false, List, [], ◌∷◌, ◌++◌, Some, None, IsTrue, sym, ap, subst, ◌∙◌}
use Rattle.std.specs.Prelude.{slice_get}
use Rattle.fal_base.specs.declared.call.CallId.{CallId}
use Rattle.fal_base.specs.declared.call.CallRec.{CallRec}
use Rattle.fal_base.specs.declared.entry.Entry.{Entry}
use Rattle.fal_base.specs.declared.entry.Entry.TheVariants as entry
use Rattle.fal_base.specs.declared.event.Actor.TheVariants.{Client, Node}
use Rattle.fal_base.specs.declared.reply.Reply.{Reply}
use Rattle.fal_base.specs.declared.rule.RuleChange.{RuleChange}
use Rattle.fal_base.specs.Marks.{Marks, mark_of, last_mark, is_newer}
use Rattle.fal_client.specs.declared.current.Current.{Current}
use Rattle.fal_client.specs.State.{ClientState}
use Rattle.fal_client.specs.Step.{id_at}
use Rattle.fal_coord.specs.declared.stage.Stage.{Stage}
use Rattle.fal_coord.specs.declared.stage.Stage.TheVariants as stage
use Rattle.fal_coord.specs.State.{CoordState}
use Rattle.fal_coord.specs.Walks.{is_operation}
use Rattle.fal_exec.specs.RowCall.{row_names}
use Rattle.fal_node.specs.declared.batch.Batch.{Batch}
use Rattle.fal_run.specs.declared.call.BatchCall.{BatchCall}
use Rattle.fal_node.specs.State.{NodeState}
use Rattle.fal_base.specs.declared.mark.Mark.{Mark}
use Rattle.fal_wait.specs.declared.waiting_call.WaitingCall.{WaitingCall}
use Rattle.fal_wire.specs.declared.message.Message.TheVariants as message
use Rattle.fal_story.proofs.Events.Shows.{calls_in, posts_of, taken_of}
use Rattle.fal_story.proofs.Lists.Each.{Each, Apart}
use Rattle.fal_story.proofs.Lists.Grown.{tells, put_other, put_same, slice_get_front}
use Rattle.fal_story.proofs.Lists.Members.{IsIn}
use Rattle.fal_story.proofs.View.{Post, IsPosted, post}
use Rattle.fal_story.specs.World.{World, put}

-- the call that an operation is for
abbrev pub calls_of : Stage → List CallRec
calls_of stage.Idle = []
calls_of (stage.Walk call fetch key) = call ∷ []
calls_of (stage.Lock operation missing rows) = operation.call ∷ []
calls_of (stage.Count operation rows dir updates missing counts) = operation.call ∷ []
calls_of (stage.Finish keys updates missing) = []
calls_of (stage.Block call missing rows) = call ∷ []
calls_of (stage.Install call missing) = []

-- the calls that the coordinator keeps
abbrev pub hosted : CoordState → List CallRec
hosted coord = calls_of coord.stage ++ coord.waiting

-- what goes to the coordinator is an operation, and what goes to a node is a call that one row decides
abbrev pub IsSuited : ℕ → CallRec → Type 0
IsSuited n call = (n ≡ 255 → IsTrue (is_operation call.op)) × (n ≢ 255 → IsTrue (is_some (row_names call.op)))

-- the call with this id is under way
pub data IsUnder (posts : List Post) (came : ℕ → Bool) (taken : ℕ → Marks) (nodes : ℕ → NodeState) (coord : CoordState) (id : CallId) : Type 0 where
  Asked : (k p n : ℕ) (call : CallRec) → IsPosted posts k (Node n) p (message.Call call) → came k ≡ false → call.id ≡ id
      → is_newer (mark_of id) (last_mark (taken n) id.client) ≡ true → IsSuited n call → IsUnder posts came taken nodes coord id
  Waiting : (n : ℕ) (x : WaitingCall) → IsIn x (nodes n).waiting.calls → x.call.id ≡ id → IsUnder posts came taken nodes coord id
  Planned : (n : ℕ) (x : BatchCall) → IsIn x (calls_in (nodes n).batches) → x.call.id ≡ id → IsUnder posts came taken nodes coord id
  Hosted : (c : CallRec) → IsIn c (hosted coord) → c.id ≡ id → IsUnder posts came taken nodes coord id
  Answered : (k p : ℕ) (reply : Reply) → IsPosted posts k (Client id.client) p (message.Reply id reply) → came k ≡ false → IsUnder posts came taken nodes coord id
  Stale : (k p old new : ℕ) (changes : List RuleChange) → IsPosted posts k (Client id.client) p (message.Stale id old new changes) → came k ≡ false → IsUnder posts came taken nodes coord id
  Opened : (k p dir : ℕ) → IsPosted posts k (Client id.client) p (message.Opened id dir) → came k ≡ false → IsUnder posts came taken nodes coord id

-- the transcript answers the call
abbrev pub IsTold : List Entry → ℕ → ℕ → Type 0
IsTold entries l s = (i : ℕ) × ((point : ℕ) × ((reply : Reply) × (slice_get entries i ≡ Some (entry.Answered l s point reply))))

-- the call is its lane's last one, and of the attempt that its client has under way
abbrev pub IsLast : World → CallId → Type 0
IsLast w id = (id.seq ≡ (w.clients id.client).seq) × ((current : Current) × (((w.clients id.client).current ≡ Some current) × (current.attempt ≡ id.attempt)))

-- the call was sent and is no longer under way
abbrev pub IsOver : ClientState → ℕ → Type 0
IsOver c s = (s < c.seq) ⊎ ((s ≡ c.seq) × (c.current ≡ None))

-- the id of a call that was passed on so many times
abbrev pub passed_on : CallId → ℕ → CallId
passed_on id hop = record id { hop = hop }

-- the mark is no newer than the call
abbrev pub IsUpTo : Mark → CallId → Type 0
IsUpTo m id = is_newer m (Some (mark_of id)) ≡ false

-- nobody has taken a record of the call's client that is newer than the call
abbrev pub IsNewest : (ℕ → Marks) → CallId → Type 0
IsNewest taken id = (n : ℕ) (m : Mark) → last_mark (taken n) id.client ≡ Some m → IsUpTo m id

-- a call is followed by its client, number and attempt: it is under way after it was passed on so many times, and nobody has taken a newer record
pub record IsBusy (posts : List Post) (came : ℕ → Bool) (taken : ℕ → Marks) (nodes : ℕ → NodeState) (coord : CoordState) (id : CallId) : Type 0 where
  pub hop : ℕ
  pub under : IsUnder posts came taken nodes coord (passed_on id hop)
  pub newest : IsNewest taken (passed_on id hop)

-- the last marks of each actor
abbrev pub marks_in : World → ℕ → Marks
marks_in w = taken_of w.nodes w.coord

-- batches differ by their numbers, and the next number is new
pub record AreNumbered (batches : List Batch) (next : ℕ) : Type 0 where
  pub apart : Apart (λ (b : Batch). b.number) batches
  pub below : Each (λ (b : Batch). b.number < next) batches

abbrev pub IsNumbered : NodeState → Type 0
IsNumbered x = AreNumbered x.batches x.batches_numbered

-- each call under way of which no parts are asked is found, and each other one that was sent is answered
pub record IsFollowed (w : World) (came : ℕ → Bool) : Type 0 where
  pub busy : (l : ℕ) (current : Current) → (w.clients l).current ≡ Some current → current.listing ≡ None → IsBusy (posts_of w.envelopes) came (marks_in w) w.nodes w.coord (id_at l (w.clients l).seq current.attempt)
  pub over : (l s : ℕ) → 0 < s → IsOver (w.clients l) s → IsTold w.entries l s
  pub marks : (n l : ℕ) (m : Mark) → last_mark (marks_in w n) l ≡ Some m → m.seq ≤ (w.clients l).seq
  pub batches : (n : ℕ) → IsNumbered (w.nodes n)

pub told_more : (entries more : List Entry) (l s : ℕ) → IsTold entries l s → IsTold (entries ++ more) l s
told_more entries more l s t = (t.0, (t.1.0, (t.1.1.0, slice_get_front entries more t.0 _ t.1.1.1)))

-- records are sent, and none comes but to this client, of whose call it is not
pub under_more : (posts more : List Post) (came later : ℕ → Bool) (taken : ℕ → Marks) (nodes : ℕ → NodeState) (coord : CoordState) (id : CallId) → ((k n p : ℕ) (call : CallRec) → IsPosted posts k (Node n) p (message.Call call) → came k ≡ false → later k ≡ false)
    → ((k p : ℕ) (reply : Reply) → IsPosted posts k (Client id.client) p (message.Reply id reply) → came k ≡ false → later k ≡ false)
    → ((k p old new : ℕ) (changes : List RuleChange) → IsPosted posts k (Client id.client) p (message.Stale id old new changes) → came k ≡ false → later k ≡ false)
    → ((k p dir : ℕ) → IsPosted posts k (Client id.client) p (message.Opened id dir) → came k ≡ false → later k ≡ false)
    → IsUnder posts came taken nodes coord id → IsUnder (posts ++ more) later taken nodes coord id
under_more posts more came later taken nodes coord id calls replies stales opens (Asked k p n call at fresh is newer suited) = Asked k p n call (slice_get_front posts more k _ at) (calls k n p call at fresh) is newer suited
under_more posts more came later taken nodes coord id calls replies stales opens (Waiting n x at is) = Waiting n x at is
under_more posts more came later taken nodes coord id calls replies stales opens (Planned n x at is) = Planned n x at is
under_more posts more came later taken nodes coord id calls replies stales opens (Hosted c at is) = Hosted c at is
under_more posts more came later taken nodes coord id calls replies stales opens (Answered k p reply at fresh) = Answered k p reply (slice_get_front posts more k _ at) (replies k p reply at fresh)
under_more posts more came later taken nodes coord id calls replies stales opens (Stale k p old new changes at fresh) = Stale k p old new changes (slice_get_front posts more k _ at) (stales k p old new changes at fresh)
under_more posts more came later taken nodes coord id calls replies stales opens (Opened k p dir at fresh) = Opened k p dir (slice_get_front posts more k _ at) (opens k p dir at fresh)

-- a node's event: the calls elsewhere stay where they are
pub under_node : (posts more : List Post) (came later : ℕ → Bool) (taken : ℕ → Marks) (nodes : ℕ → NodeState) (coord : CoordState) (n : ℕ) (x : NodeState) (id : CallId) (R : Type 0) → taken n ≡ (nodes n).waiting.last
    → (IsUnder (posts ++ more) later (put taken n x.waiting.last) (put nodes n x) coord id → R)
    → ((k : ℕ) (y : Post) → slice_get posts k ≡ Some y → y.to ≢ Node n → came k ≡ false → later k ≡ false)
    → ((k p : ℕ) (call : CallRec) → IsPosted posts k (Node n) p (message.Call call) → came k ≡ false → call.id ≡ id → is_newer (mark_of id) (last_mark (nodes n).waiting.last id.client) ≡ true → IsSuited n call → R)
    → ((y : WaitingCall) → IsIn y (nodes n).waiting.calls → y.call.id ≡ id → R)
    → ((y : BatchCall) → IsIn y (calls_in (nodes n).batches) → y.call.id ≡ id → R)
    → IsUnder posts came taken nodes coord id → R
under_node posts more came later taken nodes coord n x id R own still others asked waiting planned (Asked k p m call at fresh is newer suited) =
    ⊎_elim
    (λ t.
    let at_n : IsPosted posts k (Node n) p (message.Call call) = subst (λ i. IsPosted posts k (Node i) p (message.Call call)) t.1 at in
    asked k p call at_n fresh is (subst (λ ms. is_newer (mark_of id) (last_mark ms id.client) ≡ true) (ap taken t.1 ∙ own) newer) (subst (λ i. IsSuited i call) t.1 suited))
    (λ t. still (Asked k p m call (slice_get_front posts more k _ at) (others k (post (Node m) p (message.Call call)) at (λ e. t.1 (same_node m n e)) fresh) is
    (subst (λ ms. is_newer (mark_of id) (last_mark ms id.client) ≡ true) (sym (put_other taken n x.waiting.last m t.1)) newer) suited))
    (tells m n)
  where
    same_node : (a b : ℕ) → Node a ≡ Node b → a ≡ b
    same_node a b e = cc
under_node posts more came later taken nodes coord n x id R own still others asked waiting planned (Waiting m y at is) =
    ⊎_elim
    (λ t. waiting y (subst (λ i. IsIn y (nodes i).waiting.calls) t.1 at) is)
    (λ t. still (Waiting m y (subst (λ (z : NodeState). IsIn y z.waiting.calls) (sym (put_other nodes n x m t.1)) at) is))
    (tells m n)
under_node posts more came later taken nodes coord n x id R own still others asked waiting planned (Planned m y at is) =
    ⊎_elim
    (λ t. planned y (subst (λ i. IsIn y (calls_in (nodes i).batches)) t.1 at) is)
    (λ t. still (Planned m y (subst (λ (z : NodeState). IsIn y (calls_in z.batches)) (sym (put_other nodes n x m t.1)) at) is))
    (tells m n)
under_node posts more came later taken nodes coord n x id R own still others asked waiting planned (Hosted c at is) = still (Hosted c at is)
under_node posts more came later taken nodes coord n x id R own still others asked waiting planned (Answered k p reply at fresh) =
    still (Answered k p reply (slice_get_front posts more k _ at) (others k (post (Client id.client) p (message.Reply id reply)) at (λ e. let wrong : Client id.client ≡ Node n = e in absurd (cc)) fresh))
under_node posts more came later taken nodes coord n x id R own still others asked waiting planned (Stale k p old new changes at fresh) =
    still (Stale k p old new changes (slice_get_front posts more k _ at)
    (others k (post (Client id.client) p (message.Stale id old new changes)) at (λ e. let wrong : Client id.client ≡ Node n = e in absurd (cc)) fresh))
under_node posts more came later taken nodes coord n x id R own still others asked waiting planned (Opened k p dir at fresh) =
    still (Opened k p dir (slice_get_front posts more k _ at) (others k (post (Client id.client) p (message.Opened id dir)) at (λ e. let wrong : Client id.client ≡ Node n = e in absurd (cc)) fresh))

-- the call is now at this node
pub waiting_now : (posts : List Post) (came : ℕ → Bool) (taken : ℕ → Marks) (nodes : ℕ → NodeState) (coord : CoordState) (n : ℕ) (x : NodeState) (id : CallId) (y : WaitingCall) → IsIn y x.waiting.calls → y.call.id ≡ id
    → IsUnder posts came taken (put nodes n x) coord id
waiting_now posts came taken nodes coord n x id y at is = Waiting n y (subst (λ (z : NodeState). IsIn y z.waiting.calls) (sym (put_same nodes n x)) at) is

pub planned_now : (posts : List Post) (came : ℕ → Bool) (taken : ℕ → Marks) (nodes : ℕ → NodeState) (coord : CoordState) (n : ℕ) (x : NodeState) (id : CallId) (y : BatchCall) → IsIn y (calls_in x.batches) → y.call.id ≡ id
    → IsUnder posts came taken (put nodes n x) coord id
planned_now posts came taken nodes coord n x id y at is = Planned n y (subst (λ (z : NodeState). IsIn y (calls_in z.batches)) (sym (put_same nodes n x)) at) is

pub asked_now : (posts more : List Post) (came : ℕ → Bool) (taken : ℕ → Marks) (nodes : ℕ → NodeState) (coord : CoordState) (n k p : ℕ) (last : Marks) (id : CallId) (call : CallRec) → IsPosted posts k (Node n) p (message.Call call)
    → came k ≡ false → call.id ≡ id → is_newer (mark_of id) (last_mark last id.client) ≡ true → IsSuited n call → IsUnder (posts ++ more) came (put taken n last) nodes coord id
asked_now posts more came taken nodes coord n k p last id call at fresh is newer suited =
    Asked k p n call (slice_get_front posts more k _ at) fresh is (subst (λ ms. is_newer (mark_of id) (last_mark ms id.client) ≡ true) (sym (put_same taken n last)) newer) suited
