-- A record comes to a node.
use Rattle.std.proofs.Common.{◌≡◌, ◌≢◌, inl, inr, ⊎_elim, ℕ, zero, suc, ◌<◌, ◌==◌, true, false, cond, List, [], ◌∷◌, Some, None, is_some, refl, sym, ap, subst, ◌∙◌, arith}
use Rattle.std.specs.Prelude.{slice_get, Result, Ok, Err}
use Rattle.std.specs.List.{All}
use Rattle.std.specs.Result.{result_ok}
use Rattle.std.proofs.lemmas.Bool.{eqb-true}
use Rattle.std.proofs.lemmas.Option.{same_Some}
use Rattle.fal_base.specs.declared.call.CallRec.{CallRec}
use Rattle.fal_base.specs.declared.call.Config.{Config}
use Rattle.fal_base.specs.declared.event.Actor.{Actor}
use Rattle.fal_base.specs.declared.event.Actor.TheVariants.{Client, Node, Coord}
use Rattle.fal_base.specs.declared.event.Envelope.{Envelope}
use Rattle.fal_exec.specs.RowCall.{row_names}
use Rattle.fal_node.specs.declared.event.NodeEvent.TheVariants as node
use Rattle.fal_node.specs.declared.item.Item.{Item}
use Rattle.fal_node.specs.Deliver.{admitted, take_call, take_message, take_read, delivered}
use Rattle.fal_node.specs.Letters.{Work, begun, is_asker}
use Rattle.fal_node.specs.State.{NodeState, with_item}
use Rattle.fal_node.specs.Step.{is_to_node, only_if, node_step}
use Rattle.fal_wait.specs.declared.waiting_call.WaitingCall.{WaitingCall}
use Rattle.fal_base.specs.Marks.{is_newer, last_mark, mark_of, with_mark}
use Rattle.fal_wait.specs.Waiting.{is_new, with_call}
use Rattle.fal_wire.specs.declared.fault.WireFault.{WireFault}
use Rattle.fal_wire.specs.declared.message.Message.{Message}
use Rattle.fal_wire.specs.declared.message.Message.TheVariants as message
use Rattle.fal_wire.specs.Messages.{Fits, reading}
use Rattle.fal_story.proofs.Events.GotEvent.{AllFit, stays, got_event}
use Rattle.fal_story.proofs.Events.Besides.{beside_still}
use Rattle.fal_story.proofs.Events.BlockEvents.{block_event}
use Rattle.fal_story.proofs.Events.CommitEvents.{count_event, commit_event}
use Rattle.fal_story.proofs.Events.Freed.{IsFreed, freed_moves, beside_freed, locks_more}
use Rattle.fal_story.proofs.Events.InstallEvent.{install_event}
use Rattle.fal_story.proofs.Events.LockEvents.{lock_event}
use Rattle.fal_story.proofs.Events.HeldCalls.{others_held, heard_moves, held_comes}
use Rattle.fal_story.proofs.Events.InStep.{at_seat, view_begun, Ends, sent_more, view_in, begins, ends}
use Rattle.fal_story.proofs.Events.Shows.{Ghost, Shows, IsTidy, is_lock, view_of, taken_of, post_of, posts_of, calls_in}
use Rattle.fal_story.proofs.Good.{Good}
use Rattle.fal_story.proofs.Lists.Each.{each_join}
use Rattle.fal_story.proofs.Lists.Grown.{put_all, slice_get_front}
use Rattle.fal_story.proofs.Lists.WaitLists.{tidy_admit}
use Rattle.fal_story.proofs.Phase.{Asked, Waits, IsFor, IsHeld}
use Rattle.fal_story.proofs.Steps.Called.{taken_good}
use Rattle.fal_story.proofs.View.{IsPosted, seat}
use Rattle.fal_story.specs.Clusters.{IsCluster}
use Rattle.fal_story.specs.World.{World, put}

-- ---- a call

newer_there : (w : World) (n : ℕ) (c : CallRec) → n ≢ 255 → is_new (w.nodes n).waiting c ≡ true → is_newer (mark_of c.id) (last_mark (taken_of w.nodes w.coord n) c.id.client) ≡ true
newer_there w n c other newer = ap (λ marks. is_newer (mark_of c.id) (last_mark marks c.id.client)) (at_seat (λ m. (w.nodes m).waiting.last) w.coord.last n other) ∙ newer

-- a record that is newer is that of the call under way
asked_by : (config : Config) (w : World) (n : ℕ) (h : Ghost) (e p : ℕ) (c : CallRec) → n ≢ 255 → Shows config w h → IsPosted (posts_of w.envelopes) e (Node n) p (message.Call c) → is_new (w.nodes n).waiting c ≡ true
    → (c ≡ h.call c.id.client) × (h.phase c.id.client ≡ Asked n)
asked_by config w n h e p c other s at newer = ⊎_elim
    (λ y. y)
    (λ old. absurd (let both : true ≡ false = sym (newer_there w n c other newer) ∙ old in cc))
    (s.good.records.requests e n p c at)

abbrev pub with_waiter : NodeState → CallRec → NodeState
with_waiter node c = record node { waiting = with_call node.waiting c }

takes : (config : Config) (w : World) (n : ℕ) (h : Ghost) (e p : ℕ) (c : CallRec) → n ≢ 255 → Shows config w h → AllFit [] → IsPosted (posts_of w.envelopes) e (Node n) p (message.Call c) → is_new (w.nodes n).waiting c ≡ true
    → is_some (row_names c.op) ≡ true → IsTidy (with_call (w.nodes n).waiting c) → Ends config w n (begun (with_waiter (w.nodes n) c))
unfolding with_call
takes config w n h e p c other s fit at newer rows tidy =
    let node = w.nodes n in
    let l = c.id.client in
    let asked = asked_by config w n h e p c other s at newer in
    let v = view_of config w h in
    let k = begun (with_waiter (w.nodes n) c) in
    let later : Ghost = record h { phase = put h.phase l (Waits n None) } in
    let good = taken_good config v e n p c at (newer_there w n c other newer) s.good in
    let same : record v { taken = put v.taken n (with_mark (v.taken n) l (mark_of c.id)); phase = later.phase } ≡ view_in config w n k later = λ i. record (view_begun config w n h other i) {
      taken = put v.taken n (with_mark (at_seat (λ m. (w.nodes m).waiting.last) w.coord.last n other i) l (mark_of c.id));
      phase = later.phase;
    } in
    let waiter : WaitingCall = record { ticket = node.waiting.tickets; call = c; fetch = None } in
    let was : IsFor n (h.phase l) = subst (IsFor n) (sym asked.1) refl in
    let freed : (i : ℕ) → IsFreed n (h.phase i) (later.phase i) = put_all (λ i q. IsFreed n (h.phase i) q) h.phase l (Waits n None) (inr (was, (λ z. cc), (λ m x z. cc), tt)) (λ i _. inl refl) in
    let moves = freed_moves n h.phase later.phase freed in
    let placed = s.placed n in (
      later,
      ends config w n k later other fit
          (beside_freed config w.nodes w.coord h later n k.node other s.good.operation.running freed (λ i. refl) (λ i. refl) (λ m _. refl) (s.beside.queues n) refl refl refl s.beside)
          (record {
            good = subst (Good config) same good;
            here = held_comes h.call h.phase n node.waiting.calls waiter (calls_in node.batches) other (λ y. subst (IsHeld n) asked.1 y) asked.0 rows (s.held n);
            others = others_held w n h.call h.phase later.phase moves (λ m _. s.held m);
            items = sent_more (posts_of w.envelopes) [] n node.items (s.items n);
            others_items = λ m _. s.items m;
            heard = heard_moves config w n h.call h.phase later.phase moves s.heard;
            kept = s.kept;
            placed = record { number = placed.number; limit = placed.limit; blocked = placed.blocked; tidy = tidy };
            others_placed = λ m _. s.placed m;
          }),
    )

call_event : (config : Config) (w : World) (n : ℕ) (h : Ghost) (e p : ℕ) (c : CallRec) → n ≢ 255 → Shows config w h → AllFit [] → IsPosted (posts_of w.envelopes) e (Node n) p (message.Call c) → Ends config w n (begun (take_call (w.nodes n) c))
unfolding admitted
call_event config w n h e p c other s fit at =
    let node = w.nodes n in
    let tidy = tidy_admit node.waiting c (s.placed n).tidy in
    let admits : is_some (row_names c.op) ≡ true → Ends config w n (begun (admitted node c)) =
    λ rows. elim (is_new node.waiting c) as (λ b. is_new node.waiting c ≡ b → IsTidy (cond b (with_call node.waiting c) node.waiting) → Ends config w n (begun (record node { waiting = cond b (with_call node.waiting c) node.waiting }))) [
      | true ↦ λ newer t. takes config w n h e p c other s fit at newer rows t
      | false ↦ λ _ _. stays config w n h other s fit
    ] refl tidy in
    elim (is_some (row_names c.op)) as (λ b. is_some (row_names c.op) ≡ b → Ends config w n (begun (cond b (admitted node c) node))) [
      | true ↦ λ rows. admits rows
      | false ↦ λ _. stays config w n h other s fit
    ] refl

-- ---- a question, which becomes an item

-- a record that is kept is the next item, and no Lock or Block
kept_event : (config : Config) (w : World) (n : ℕ) (h : Ghost) (e p : ℕ) (m : Message) → n ≢ 255 → Shows config w h → AllFit [] → IsPosted (posts_of w.envelopes) e (Node n) p m → is_lock m ≡ false
    → Ends config w n (begun (with_item (w.nodes n) m))
unfolding with_item
kept_event config w n h e p m other s fit at off =
    let node = w.nodes n in
    let start = begins config w n h other s in
    let item : Item = record { number = node.items_numbered; message = m } in
    let k = begun (with_item node m) in
    let placed = s.placed n in (
      h,
      ends config w n k h other fit (beside_still config w.nodes w.coord h n k.node (locks_more node.items item off) refl refl refl s.beside) (record {
        good = start.good;
        here = start.here;
        others = start.others;
        items = each_join _ node.items (item ∷ []) start.items ((e, (p, slice_get_front (posts_of w.envelopes) [] e _ at)), tt);
        others_items = start.others_items;
        heard = start.heard;
        kept = start.kept;
        placed = record { number = placed.number; limit = placed.limit; blocked = placed.blocked; tidy = placed.tidy };
        others_placed = start.others_placed;
      }),
    )

-- ---- by the kind of the record

message_event : (config : Config) (w : World) (n : ℕ) (h : Ghost) (e p : ℕ) (m : Message) → n < config.nodes → n ≢ 255 → Shows config w h → IsPosted (posts_of w.envelopes) e (Node n) p m → AllFit (take_message (w.nodes n) p m).sent → Ends config w n (take_message (w.nodes n) p m)
message_event config w n h e p (message.Call call) there other s at fit = call_event config w n h e p call other s fit at
message_event config w n h e p (message.FetchAsk asker number key) there other s at fit =
    elim (is_asker (w.nodes n).table.nodes asker) as (λ b. Ends config w n (begun (cond b (with_item (w.nodes n) (message.FetchAsk asker number key)) (w.nodes n)))) [
      | true ↦ kept_event config w n h e p (message.FetchAsk asker number key) other s fit at refl
      | false ↦ stays config w n h other s fit
    ]
message_event config w n h e p (message.FetchGot number key what) there other s at fit = got_event config w n h e p number key what there other s at fit
message_event config w n h e p (message.Reply id reply) there other s at fit = stays config w n h other s fit
message_event config w n h e p (message.Stale id old new changes) there other s at fit = stays config w n h other s fit
message_event config w n h e p (message.Opened id dir) there other s at fit = stays config w n h other s fit
message_event config w n h e p (message.ListAsk id version dir) there other s at fit = kept_event config w n h e p (message.ListAsk id version dir) other s fit at refl
message_event config w n h e p (message.ListPart id from names) there other s at fit = stays config w n h other s fit
message_event config w n h e p (message.Lock op keys) there other s at fit = lock_event config w n h e p op keys other s fit at
message_event config w n h e p (message.Locked op from rows) there other s at fit = stays config w n h other s fit
message_event config w n h e p (message.Count op dir) there other s at fit = count_event config w n h e p op dir there other s fit at
message_event config w n h e p (message.Counted op from number) there other s at fit = stays config w n h other s fit
message_event config w n h e p (message.Commit op updates) there other s at fit = commit_event config w n h e p op updates there other s fit at
message_event config w n h e p (message.Done op from) there other s at fit = stays config w n h other s fit
message_event config w n h e p (message.Block op name) there other s at fit = block_event config w n h e p op name other s fit at
message_event config w n h e p (message.Blocked op from rows) there other s at fit = stays config w n h other s fit
message_event config w n h e p (message.Install op version rule rows) there other s at fit = install_event config w n h e p op version rule rows other s fit at
message_event config w n h e p (message.Installed op from) there other s at fit = stays config w n h other s fit

-- by what the bytes are read as
read_event : (config : Config) (w : World) (n : ℕ) (h : Ghost) (e p : ℕ) (r : Result Message WireFault) → n < config.nodes → n ≢ 255 → Shows config w h → slice_get (posts_of w.envelopes) e ≡ Some (record { to = Node n; point = p; message = result_ok r })
    → AllFit (take_read (w.nodes n) p r).sent → Ends config w n (take_read (w.nodes n) p r)
read_event config w n h e p (Ok m) there other s at fit = message_event config w n h e p m there other s at fit
read_event config w n h e p (Err fault) there other s at fit = stays config w n h other s fit

-- an event that is enabled came to this node
for_node : (to : Actor) (number : ℕ) (k work : Work) → only_if (is_to_node to number) k ≡ Some work → (to ≡ Node number) × (k ≡ work)
for_node (Client lane) number k work is = absurd (cc)
for_node Coord number k work is = absurd (cc)
for_node (Node m) number k work is =
    elim (m == number) as (λ b. (m == number) ≡ b → only_if b k ≡ Some work → (Node m ≡ Node number) × (k ≡ work)) [
      | true ↦ λ t z. (ap Node (eqb-true m number t), same_Some k work z)
      | false ↦ λ t z. absurd (cc)
    ] refl is

pub post_at : (envelopes : List Envelope) (number : ℕ) (x : Envelope) → slice_get envelopes number ≡ Some x → slice_get (posts_of envelopes) number ≡ Some (post_of x)
post_at [] number x e = absurd (cc)
post_at (y ∷ ys) zero x e = ap (λ z. Some (post_of z)) (same_Some y x e)
post_at (y ∷ ys) (suc number) x e = post_at ys number x e

pub deliver_event : (config : Config) (w : World) (n number : ℕ) (x : Envelope) (h : Ghost) (work : Work) → IsCluster config → n < config.nodes → Shows config w h → slice_get w.envelopes number ≡ Some x
    → node_step (w.nodes n) (node.Deliver x) ≡ Some work → All (λ letter. Fits letter.message) work.sent → Ends config w n work
unfolding node_step delivered
deliver_event config w n number x h work cluster there s at is fit =
    let few = cluster.few_nodes in
    let other : n ≢ 255 = λ own. absurd (omega arith) in
    let to = for_node x.to (w.nodes n).number (delivered (w.nodes n) x) work is in
    let mine : x.to ≡ Node n = to.0 ∙ ap Node (s.placed n).number in
    let post : slice_get (posts_of w.envelopes) number ≡ Some (record { to = Node n; point = x.point; message = result_ok (reading x.bytes) }) =
    post_at w.envelopes number x at ∙ ap (λ (a : Actor). Some (record { to = seat a; point = x.point; message = result_ok (reading x.bytes) })) mine in
    subst (Ends config w n) to.1 (read_event config w n h number x.point (reading x.bytes) there other s post (subst (λ (k : Work). AllFit k.sent) (sym to.1) fit))
