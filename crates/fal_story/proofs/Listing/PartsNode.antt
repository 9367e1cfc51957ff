-- The parts that clients ask for stay on the way through the events of nodes and of the coordinator.
use Rattle.std.proofs.Common.{◌≡◌, ◌⊎◌, inl, inr, ⊎_elim, ℕ, ◌<◌, ◌≤◌, nat_lt, Bool, true, false, cond, List, [], ◌∷◌, length, Option, Some, None, is_some, Result, Ok, Err, refl, sym, ap, subst, ◌∙◌, arith}
use Rattle.std.specs.Prelude.{slice_get, ◌==◌}
use Rattle.std.specs.List.{All}
use Rattle.std.specs.Result.{result_ok}
use Rattle.fal_base.specs.declared.call.CallId.{CallId}
use Rattle.fal_base.specs.declared.call.Config.{Config}
use Rattle.fal_base.specs.declared.event.Actor.TheVariants.{Client, Node, Coord}
use Rattle.fal_base.specs.declared.event.Envelope.{Envelope}
use Rattle.fal_base.specs.declared.event.Point.TheVariants.{Here}
use Rattle.fal_base.specs.declared.key.Key.{Key}
use Rattle.fal_base.specs.Tree.{names_under}
use Rattle.fal_client.specs.Step.{id_at}
use Rattle.fal_coord.specs.declared.event.CoordEvent.TheVariants as coord_event
use Rattle.fal_coord.specs.State.{Work as CoordWork}
use Rattle.fal_coord.specs.Step.{coord_step}
use Rattle.fal_exec.specs.RowCall.{row_names}
use Rattle.fal_node.specs.declared.batch.Batch.{Batch}
use Rattle.fal_node.specs.declared.item.Item.{Item}
use Rattle.fal_node.specs.Deliver.{admitted, delivered, dismissed, installed, install_named, learned, name_blocked, reopened, settle_pending, take_message, take_read, with_operation}
use Rattle.fal_node.specs.Exec.{exec_all, exec_as, exec_one, executed, with_executed}
use Rattle.fal_node.specs.Gather.{batch_calls, gathered, leaving, plan_at, with_waiting}
use Rattle.fal_node.specs.Letters.{Work, begun, is_asker}
use Rattle.fal_node.specs.Serve.{blocking, is_behind, list_letter, list_service, served, served_as, service_of, shutting}
use Rattle.fal_node.specs.State.{NodeState, is_of, item_of, released, with_item, without_item}
use Rattle.fal_node.specs.Step.{is_to_node}
use Rattle.fal_duty.specs.Duties.{count_told, owned, part_of}
use Rattle.fal_place.specs.Placement.{changes_since, is_within}
use Rattle.fal_run.specs.declared.call.BatchCall.{BatchCall}
use Rattle.fal_wait.specs.declared.pending_fetch.PendingFetch.{PendingFetch}
use Rattle.fal_wait.specs.Lists.{without_first}
use Rattle.fal_wait.specs.Waiting.{fetch_of}
use Rattle.fal_wire.specs.declared.fault.WireFault.{WireFault}
use Rattle.fal_wire.specs.declared.letter.Letter.{Letter}
use Rattle.fal_wire.specs.declared.message.Found.{Found}
use Rattle.fal_wire.specs.declared.message.Found.TheVariants as found
use Rattle.fal_wire.specs.declared.message.Message.{Message}
use Rattle.fal_wire.specs.declared.message.Message.TheVariants as message
use Rattle.fal_wire.specs.Letters.{letter}
use Rattle.fal_wire.specs.Messages.{Fits, reading}
use Rattle.fal_story.proofs.Drain.Fresh.{IsFresh}
use Rattle.fal_story.proofs.Drain.Hearing.{After}
use Rattle.fal_story.proofs.Drain.Moving.{IsMoving, IsPast, items_in, items_after, posts_after}
use Rattle.fal_story.proofs.Drain.MovingDeliver.{IsComing, post_at}
use Rattle.fal_story.proofs.Drain.MovingGather.{batch_items}
use Rattle.fal_story.proofs.Drain.MovingGot.{node_of}
use Rattle.fal_story.proofs.Drain.MovingHear.{hears}
use Rattle.fal_story.proofs.Drain.MovingServe.{still_kept}
use Rattle.fal_story.proofs.Drain.OnWay.{items_stay}
use Rattle.fal_story.proofs.Listing.Parts.{IsPartOnWay, Asks, Keeps, Tells, Renews, AreAsked, part_comes, part_more}
use Rattle.fal_story.proofs.Drain.Sent.{letter_fresh}
use Rattle.fal_story.proofs.Events.InCoord.{coord_after}
use Rattle.fal_story.proofs.Events.InStep.{letter_posts, posts_sent}
use Rattle.fal_story.proofs.Events.Shows.{Ghost, Shows, post_of, posts_of}
use Rattle.fal_story.proofs.Lists.Grown.{tells, put_other, put_same, slice_get_front}
use Rattle.fal_story.proofs.Lists.Joined.{in_last}
use Rattle.fal_story.proofs.Lists.Members.{IsIn, find_in, in_front, same_number}
use Rattle.fal_story.proofs.View.{Post, seat}
use Rattle.fal_story.specs.World.{World, put, posted}

-- ---- a node's event

-- the parts that are on the way before it are so after it
abbrev AreStill : Config → World → (ℕ → Bool) → (ℕ → Bool) → ℕ → Work → Type 0
AreStill config w came later n k = (id : CallId) (m : ℕ) → m < config.nodes → IsPartOnWay (posts_of w.envelopes) came (items_in w) id m → IsPartOnWay (posts_after w k) later (items_after w n k) id m

-- then all that clients ask for are
node_asked : (config : Config) (w : World) (came later : ℕ → Bool) (n : ℕ) (k : Work) → All (λ (l : Letter). Fits l.message) k.sent → AreStill config w came later n k → AreAsked config w came → AreAsked config (After config w n k) later
unfolding posted
node_asked config w came later n k fit still asked l current listing m busy lists there missing =
    let id = id_at l (w.clients l).seq current.attempt in
    subst (λ ps. IsPartOnWay ps later (items_after w n k) id m) (sym (posts_sent (Node n) w.events (length w.commits) w.envelopes k.sent fit))
    (still id m there (asked l current listing m busy lists there missing))

-- nothing comes, and the items are as they were
keeps_asked : (config : Config) (w : World) (came : ℕ → Bool) (n : ℕ) (k : Work) → All (λ (l : Letter). Fits l.message) k.sent → k.node.items ≡ (w.nodes n).items → AreAsked config w came → AreAsked config (After config w n k) came
keeps_asked config w came n k fit same asked =
    node_asked config w came came n k fit
    (λ id m there on_way. part_more (posts_of w.envelopes) (letter_posts (length w.commits) k.sent) came (items_in w) (items_after w n k) id m
    (items_stay w.nodes n k.node (λ item at. subst (IsIn item) (sym same) at) m) on_way)
    asked

-- a node gathers, executes a batch or releases one
pub gather_asked : (config : Config) (w : World) (came : ℕ → Bool) (n : ℕ) → All (λ (l : Letter). Fits l.message) (gathered (w.nodes n) (plan_at (w.nodes n))).sent → AreAsked config w came
    → AreAsked config (After config w n (gathered (w.nodes n) (plan_at (w.nodes n)))) came
unfolding gathered with_waiting
gather_asked config w came n fit asked =
    let node = w.nodes n in
    let plan = plan_at node in
    keeps_asked config w came n (gathered node plan) fit (batch_items (with_waiting node plan.fetches (leaving plan)) (batch_calls node.waiting plan.calls) plan.keys) asked

exec_items : (k : Work) (xs : List BatchCall) → (exec_all k xs).node.items ≡ k.node.items
unfolding exec_one exec_as
exec_items k [] = refl
exec_items k (x ∷ xs) = exec_items (exec_one k x) xs

pub exec_asked : (config : Config) (w : World) (came : ℕ → Bool) (n number : ℕ) (batch : Batch) → All (λ (l : Letter). Fits l.message) (executed (w.nodes n) number batch).sent → AreAsked config w came
    → AreAsked config (After config w n (executed (w.nodes n) number batch)) came
unfolding executed with_executed
exec_asked config w came n number batch fit asked = keeps_asked config w came n (executed (w.nodes n) number batch) fit (exec_items (begun (with_executed (w.nodes n) number)) batch.calls) asked

pub release_asked : (config : Config) (w : World) (came : ℕ → Bool) (n number : ℕ) → AreAsked config w came → AreAsked config (After config w n (begun (released (w.nodes n) number))) came
unfolding released
release_asked config w came n number asked = keeps_asked config w came n (begun (released (w.nodes n) number)) (λ i x lt. absurd (omega arith)) refl asked

-- ---- a record comes to a node

-- the items that were kept are so still
settled_items : (node : NodeState) (point : ℕ) (key : Key) (what : Found) (o : Option PendingFetch) (item : Item) → IsIn item node.items → IsIn item (settle_pending node point key what o).node.items
unfolding learned dismissed
settled_items node point key what None item at = at
settled_items node point key (found.Dir dentry) (Some fetch) item at = at
settled_items node point key found.Nothing (Some fetch) item at = at
settled_items node point key found.File (Some fetch) item at = at

-- by the kind of the record
taken_items : (node : NodeState) (point : ℕ) (m : Message) (item : Item) → IsIn item node.items → IsIn item (take_message node point m).node.items
unfolding admitted with_item with_operation reopened installed
taken_items node point (message.Call call) item at = elim (is_some (row_names call.op)) as (λ b. IsIn item (cond b (admitted node call) node).items) [ true ↦ at | false ↦ at ]
taken_items node point (message.FetchAsk asker number key) item at =
    elim (is_asker node.table.nodes asker) as (λ b. IsIn item (cond b (with_item node (message.FetchAsk asker number key)) node).items) [ true ↦ in_front node.items _ item at | false ↦ at ]
taken_items node point (message.FetchGot number key what) item at = settled_items node point key what (fetch_of node.waiting number) item at
taken_items node point (message.ListAsk id version dir) item at = in_front node.items _ item at
taken_items node point (message.Lock operation keys) item at =
    elim (nat_lt node.last_operation operation) as (λ b. IsIn item (cond b (with_operation node operation (message.Lock operation keys)) node).items) [ true ↦ in_front node.items _ item at | false ↦ at ]
taken_items node point (message.Block operation name) item at =
    elim (nat_lt node.last_operation operation) as (λ b. IsIn item (cond b (with_operation node operation (message.Block operation name)) node).items) [ true ↦ in_front node.items _ item at | false ↦ at ]
taken_items node point (message.Count operation dir) item at = elim (is_of node.locks.shut operation) as (λ b. IsIn item (cond b (record (begun node) { sent = letter Coord (Here 0) (count_told node.rows node.number operation dir) ∷ [] }) (begun node)).node.items) [ true ↦ at | false ↦ at ]
taken_items node point (message.Commit operation updates) item at =
    let k : Work = record { node = reopened node operation (owned node.table node.number updates); sent = letter Coord (Here 0) (message.Done operation node.number) ∷ []; notes = [] } in
    elim (is_of node.locks.shut operation) as (λ b. IsIn item (cond b k (begun node)).node.items) [ true ↦ at | false ↦ at ]
taken_items node point (message.Install operation version rule rows) item at =
    elim (is_within node.table.nodes rule) as (λ b. IsIn item (cond b (install_named node operation version rule rows (name_blocked node.blocked operation)) (begun node)).node.items) [
      | true ↦ elim (name_blocked node.blocked operation) as (λ o. IsIn item (install_named node operation version rule rows o).node.items) [ None ↦ at | Some name ↦ at ]
      | false ↦ at
    ]
taken_items node point other item at = at

-- what asks for a part is kept
asked_item : (node : NodeState) (point : ℕ) (id : CallId) (version dir : ℕ) → (item : Item) × (IsIn item (take_message node point (message.ListAsk id version dir)).node.items × (item.message ≡ message.ListAsk id version dir))
unfolding with_item
asked_item node point id version dir =
    let item : Item = record { number = node.items_numbered; message = message.ListAsk id version dir } in
    (item, (in_last node.items item, refl))

module _ (config : Config) (w : World) (came : ℕ → Bool) (n e : ℕ) (x : Envelope) (c : IsComing w n e x) (asked : AreAsked config w came) where
  abbrev later : ℕ → Bool
  later = put came e true

  -- what asks for a part is an item then, and no other part came
  message_asked : (m : Message) → reading x.bytes ≡ Ok m → All (λ (l : Letter). Fits l.message) (take_message (w.nodes n) x.point m).sent → AreAsked config (After config w n (take_message (w.nodes n) x.point m)) later
  message_asked m read fit =
      let k = take_message (w.nodes n) x.point m in
      let old = posts_of w.envelopes in
      let more = letter_posts (length w.commits) k.sent in
      node_asked config w came later n k fit
      (λ id i there on_way.
      part_comes old came (items_in w) e (post_of x) id i (IsPartOnWay (posts_after w k) later (items_after w n k) id i) (post_at w.envelopes e x c.at)
      (λ still. part_more old more later (items_in w) (items_after w n k) id i (items_stay w.nodes n k.node (λ item at. taken_items (w.nodes n) x.point m item at) i) still)
      (λ p version dir is.
      let own : n ≡ i = same_node n i (sym (ap seat c.to) ∙ ap (λ (z : Post). z.to) is) in
      let same : m ≡ message.ListAsk id version dir = same_message m _ (sym (ap result_ok read) ∙ ap (λ (z : Post). z.message) is) in
      let kept : (item : Item) × (IsIn item k.node.items × (item.message ≡ message.ListAsk id version dir)) =
      subst (λ y. (item : Item) × (IsIn item (take_message (w.nodes n) x.point y).node.items × (item.message ≡ message.ListAsk id version dir))) (sym same) (asked_item (w.nodes n) x.point id version dir) in
      subst (λ j. IsPartOnWay (posts_after w k) later (items_after w n k) id j) own
      (Keeps kept.0 version dir (subst (λ (y : NodeState). IsIn kept.0 y.items) (sym (put_same w.nodes n k.node)) kept.1.0) kept.1.1))
      (λ p names is. let wrong : Node n ≡ Client id.client = sym (ap seat c.to) ∙ ap (λ (z : Post). z.to) is in absurd (cc))
      (λ p first next changes is. let wrong : Node n ≡ Client id.client = sym (ap seat c.to) ∙ ap (λ (z : Post). z.to) is in absurd (cc))
      on_way)
      asked
    where
      same_node : (a b : ℕ) → Node a ≡ Node b → a ≡ b
      same_node a b e = cc

      same_message : (a b : Message) → Some a ≡ Some b → a ≡ b
      same_message a b e = cc

  -- bytes that are no record bring no part
  read_asked : (read : Result Message WireFault) → reading x.bytes ≡ read → All (λ (l : Letter). Fits l.message) (take_read (w.nodes n) x.point read).sent → AreAsked config (After config w n (take_read (w.nodes n) x.point read)) later
  read_asked (Ok m) is fit = message_asked m is fit
  read_asked (Err fault) is fit =
      node_asked config w came later n (begun (w.nodes n)) fit
      (λ id i there on_way.
      part_comes (posts_of w.envelopes) came (items_in w) e (post_of x) id i (IsPartOnWay (posts_after w (begun (w.nodes n))) later (items_after w n (begun (w.nodes n))) id i) (post_at w.envelopes e x c.at)
      (λ still. part_more (posts_of w.envelopes) [] later (items_in w) (items_after w n (begun (w.nodes n))) id i (items_stay w.nodes n (w.nodes n) (λ item at. at) i) still)
      (λ p version dir z. let wrong : None ≡ Some (message.ListAsk id version dir) = sym (ap result_ok is) ∙ ap (λ (y : Post). y.message) z in absurd (cc))
      (λ p names z. let wrong : None ≡ Some (message.ListPart id i names) = sym (ap result_ok is) ∙ ap (λ (y : Post). y.message) z in absurd (cc))
      (λ p first next changes z. let wrong : None ≡ Some (message.Stale id first next changes) = sym (ap result_ok is) ∙ ap (λ (y : Post). y.message) z in absurd (cc))
      on_way)
      asked

pub deliver_asked : (config : Config) (w : World) (came : ℕ → Bool) (n e : ℕ) (x : Envelope) (h : Ghost) → Shows config w h → slice_get w.envelopes e ≡ Some x → is_to_node x.to (w.nodes n).number ≡ true
    → All (λ (l : Letter). Fits l.message) (delivered (w.nodes n) x).sent → AreAsked config w came → AreAsked config (After config w n (delivered (w.nodes n) x)) (put came e true)
unfolding delivered
deliver_asked config w came n e x h s at to fit asked =
    read_asked config w came n e x (record { at = at; to = node_of x.to (w.nodes n).number to ∙ ap Node (s.placed n).number }) asked (reading x.bytes) refl fit

-- ---- an item is served

-- what is told to a client is the part of this node, or a later table
told_part : (posts : List Post) (came : ℕ → Bool) (items : ℕ → List Item) (n version dir : ℕ) (id : CallId) (node : NodeState) (b : Bool) → node.number ≡ n
    → IsFresh posts came (Client id.client) (cond b (message.Stale id version node.table.version (changes_since version node.table)) (part_of node.rows node.number id dir)) → IsPartOnWay posts came items id n
told_part posts came items n version dir id node true own fresh = Renews fresh.0 fresh.1.0 version node.table.version (changes_since version node.table) fresh.1.1.0 fresh.1.1.1
told_part posts came items n version dir id node false own fresh = subst (λ i. IsPartOnWay posts came items id i) own (Tells fresh.0 fresh.1.0 (names_under node.rows dir) fresh.1.1.0 fresh.1.1.1)

module _ (config : Config) (w : World) (came : ℕ → Bool) (n number : ℕ) (item : Item) (at : item_of (w.nodes n) number ≡ Some item) (asked : AreAsked config w came) where
  -- what is on the way stays so, but for the question that is served
  others_asked : (order : Message) (k : Work) → item.message ≡ order → All (λ (l : Letter). Fits l.message) k.sent → k.node.items ≡ without_first (λ i. i.number == item.number) (w.nodes n).items
      → ((id : CallId) (version dir : ℕ) → order ≡ message.ListAsk id version dir → IsPartOnWay (posts_after w k) came (items_after w n k) id n) → AreAsked config (After config w n k) came
  others_asked order k is fit items told = node_asked config w came came n k fit (λ id m there on_way. by_way id m on_way) asked
    where
      -- each other item is there still
      left : (x : Item) → IsIn x (w.nodes n).items → (x.message ≡ order) ⊎ IsIn x k.node.items
      left x x_at =
          let found = find_in (λ (i : Item). i.number == number) (w.nodes n).items item at in
          subst (λ items. (x.message ≡ order) ⊎ IsIn x items) (sym items)
          (subst (λ j. (x.message ≡ order) ⊎ IsIn x (without_first (λ i. i.number == j) (w.nodes n).items)) (sym (same_number item.number number found.0))
          (⊎_elim (λ same. inl (ap (λ (i : Item). i.message) same ∙ is)) (λ still. inr still) (still_kept number (w.nodes n).items item x at x_at)))

      here : (id : CallId) (version dir : ℕ) (x : Item) → x.message ≡ message.ListAsk id version dir → IsIn x (w.nodes n).items → IsPartOnWay (posts_after w k) came (items_after w n k) id n
      here id version dir x x_is x_at =
          ⊎_elim
          (λ same. told id version dir (sym same ∙ x_is))
          (λ still. Keeps x version dir (subst (λ (y : NodeState). IsIn x y.items) (sym (put_same w.nodes n k.node)) still) x_is)
          (left x x_at)

      by_way : (id : CallId) (m : ℕ) → IsPartOnWay (posts_of w.envelopes) came (items_in w) id m → IsPartOnWay (posts_after w k) came (items_after w n k) id m
      by_way id m (Asks i p version dir i_at fresh) = Asks i p version dir (slice_get_front (posts_of w.envelopes) (letter_posts (length w.commits) k.sent) i _ i_at) fresh
      by_way id m (Tells i p names i_at fresh) = Tells i p names (slice_get_front (posts_of w.envelopes) (letter_posts (length w.commits) k.sent) i _ i_at) fresh
      by_way id m (Renews i p old new changes i_at fresh) = Renews i p old new changes (slice_get_front (posts_of w.envelopes) (letter_posts (length w.commits) k.sent) i _ i_at) fresh
      by_way id m (Keeps x version dir x_at x_is) =
          ⊎_elim
          (λ t. subst (λ j. IsPartOnWay (posts_after w k) came (items_after w n k) id j) (sym t.1) (here id version dir x x_is (subst (λ j. IsIn x (w.nodes j).items) t.1 x_at)))
          (λ t. Keeps x version dir (subst (λ (y : NodeState). IsIn x y.items) (sym (put_other w.nodes n k.node m t.1)) x_at) x_is)
          (tells m n)

  -- by the kind of the item
  by_kind : (kind : Message) → item.message ≡ kind → IsPast (length w.envelopes) came → (w.nodes n).number ≡ n → All (λ (l : Letter). Fits l.message) (served_as (service_of (w.nodes n) kind) item.number).sent
      → AreAsked config (After config w n (served_as (service_of (w.nodes n) kind) item.number)) came
  unfolding without_item shutting blocking
  by_kind (message.ListAsk id version dir) is past own fit =
      let node = w.nodes n in
      let k = served_as (list_service node id version dir) item.number in
      others_asked (message.ListAsk id version dir) k is fit refl
      (λ j v d same.
      let one : id ≡ j = cc in
      subst (λ i. IsPartOnWay (posts_after w k) came (items_after w n k) i n) one
      (told_part (posts_after w k) came (items_after w n k) n version dir id node (is_behind node version) own (letter_fresh w.envelopes came (length w.commits) k.sent (list_letter node id version dir) past (inl refl))))
  by_kind kind is past own fit = others_asked kind (served_as (service_of (w.nodes n) kind) item.number) is fit refl (λ j v d same. absurd (cc))

pub serve_asked : (config : Config) (w : World) (came : ℕ → Bool) (n number : ℕ) (h : Ghost) (item : Item) → Shows config w h → IsMoving config w came → item_of (w.nodes n) number ≡ Some item
    → All (λ (l : Letter). Fits l.message) (served (w.nodes n) item).sent → AreAsked config w came → AreAsked config (After config w n (served (w.nodes n) item)) came
unfolding served
serve_asked config w came n number h item s m at fit asked = by_kind config w came n number item at asked item.message refl m.past (s.placed n).number fit

-- ---- the coordinator's event

-- no part is on its way to the coordinator
coord_asked : (config : Config) (w : World) (came later : ℕ → Bool) (k : CoordWork) → All (λ (l : Letter). Fits l.message) k.sent
    → ((id : CallId) (m : ℕ) → m < config.nodes → IsPartOnWay (posts_of w.envelopes) came (items_in w) id m → IsPartOnWay (posts_of w.envelopes) later (items_in w) id m) → AreAsked config w came → AreAsked config (coord_after config w k) later
unfolding posted
coord_asked config w came later k fit still asked l current listing m busy lists there missing =
    let id = id_at l (w.clients l).seq current.attempt in
    subst (λ ps. IsPartOnWay ps later (items_in w) id m) (sym (posts_sent Coord w.events (length w.commits) w.envelopes k.sent fit))
    (part_more (posts_of w.envelopes) (letter_posts (length w.commits) k.sent) later (items_in w) (items_in w) id m (λ item at. at) (still id m there (asked l current listing m busy lists there missing)))

pub start_asked : (config : Config) (w : World) (came : ℕ → Bool) (k : CoordWork) → All (λ (l : Letter). Fits l.message) k.sent → AreAsked config w came → AreAsked config (coord_after config w k) came
start_asked config w came k fit asked = coord_asked config w came came k fit (λ id m there on_way. on_way) asked

pub hear_asked : (config : Config) (w : World) (came : ℕ → Bool) (e : ℕ) (x : Envelope) (k : CoordWork) → config.nodes ≤ 16 → slice_get w.envelopes e ≡ Some x → coord_step w.coord (coord_event.Hear x) ≡ Some k
    → All (λ (l : Letter). Fits l.message) k.sent → AreAsked config w came → AreAsked config (coord_after config w k) (put came e true)
hear_asked config w came e x k few at is fit asked =
    hears w.coord x k (λ y. All (λ (l : Letter). Fits l.message) y.sent → AreAsked config (coord_after config w y) (put came e true))
    (λ to fit. coord_asked config w came (put came e true) _ fit
    (λ id m there on_way.
    part_comes (posts_of w.envelopes) came (items_in w) e (post_of x) id m (IsPartOnWay (posts_of w.envelopes) (put came e true) (items_in w) id m) (post_at w.envelopes e x at)
    (λ still. still)
    (λ p version dir z. let own : 255 ≡ m = same_node 255 m (sym (ap seat to) ∙ ap (λ (y : Post). y.to) z) in absurd (omega arith))
    (λ p names z. let wrong : Node 255 ≡ Client id.client = sym (ap seat to) ∙ ap (λ (y : Post). y.to) z in absurd (cc))
    (λ p first next changes z. let wrong : Node 255 ≡ Client id.client = sym (ap seat to) ∙ ap (λ (y : Post). y.to) z in absurd (cc))
    on_way)
    asked)
    is fit
  where
    same_node : (a b : ℕ) → Node a ≡ Node b → a ≡ b
    same_node a b e = cc
