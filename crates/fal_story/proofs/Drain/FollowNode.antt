-- Each call under way is found after a node's event: a batch is released, or an item is served.
use Rattle.std.proofs.Common.{◌≡◌, ◌≢◌, ℕ, ◌<◌, ◌≤◌, Bool, true, ◌++◌, length, Some, refl, sym, ap, subst, ◌∙◌, arith}
use Rattle.std.specs.Prelude.{◌==◌}
use Rattle.std.specs.List.{All}
use Rattle.fal_base.specs.declared.call.CallId.{CallId}
use Rattle.fal_base.specs.declared.call.CallRec.{CallRec}
use Rattle.fal_base.specs.declared.call.Config.{Config}
use Rattle.fal_base.specs.declared.event.Actor.TheVariants.{Node}
use Rattle.fal_client.specs.Step.{id_at}
use Rattle.fal_node.specs.declared.batch.Batch.{Batch}
use Rattle.fal_run.specs.declared.call.BatchCall.{BatchCall}
use Rattle.fal_node.specs.declared.item.Item.{Item}
use Rattle.fal_wire.specs.declared.letter.Letter.{Letter}
use Rattle.fal_node.specs.Letters.{Work, begun}
use Rattle.fal_node.specs.Serve.{served, served_as, service_of, shutting, blocking}
use Rattle.fal_node.specs.State.{batch_of, released, without_item}
use Rattle.fal_base.specs.declared.mark.Mark.{Mark}
use Rattle.fal_base.specs.Marks.{Marks, mark_of, last_mark, is_newer}
use Rattle.fal_wait.specs.declared.waiting_call.WaitingCall.{WaitingCall}
use Rattle.fal_wait.specs.Waiting.{unbound}
use Rattle.fal_wire.specs.declared.message.Message.{Message}
use Rattle.fal_wire.specs.declared.message.Message.TheVariants as message
use Rattle.fal_wire.specs.Messages.{Fits}
use Rattle.fal_story.proofs.Drain.Follow.{IsUnder, IsFollowed, IsLast, IsNumbered, IsUpTo, IsNewest, marks_in, passed_on, told_more, under_node, waiting_now, planned_now, asked_now}
use Rattle.fal_story.proofs.Drain.Moving.{posts_after}
use Rattle.fal_story.proofs.Drain.Hearing.{After}
use Rattle.fal_story.proofs.Events.InStep.{letter_posts, posts_sent, at_seat, seat_put}
use Rattle.fal_story.proofs.Events.ServeEvent.{calls_without}
use Rattle.fal_story.proofs.Events.Shows.{calls_in, posts_of, taken_of}
use Rattle.fal_story.proofs.Lists.Grown.{put_all}
use Rattle.fal_story.proofs.Lists.Members.{IsIn, in_map, each_without_first, apart_without_first}
use Rattle.fal_story.specs.World.{World, put, posted, entries_of}

-- the records, the marks and the actors after a node's event
abbrev pub IsUnderAfter : World → (ℕ → Bool) → ℕ → Work → CallId → Type 0
IsUnderAfter w later n k id = IsUnder (posts_after w k) later (put (marks_in w) n k.node.waiting.last) (put w.nodes n k.node) w.coord id

-- each call that is under way before the event is so after it
abbrev pub IsUnderStill : World → (ℕ → Bool) → (ℕ → Bool) → ℕ → Work → Type 0
IsUnderStill w came later n k = (id : CallId) → IsUnder (posts_of w.envelopes) came (marks_in w) w.nodes w.coord id → IsUnderAfter w later n k id

-- the last marks of an actor after its event: of calls that were sent, and of no record that is newer than a lane's last call, while that is under way
pub record AreMarked (w : World) (came : ℕ → Bool) (last : Marks) : Type 0 where
  pub sent : (l : ℕ) (m : Mark) → last_mark last l ≡ Some m → m.seq ≤ (w.clients l).seq
  pub newest : (id : CallId) → IsLast w id → IsUnder (posts_of w.envelopes) came (marks_in w) w.nodes w.coord id → IsNewest (marks_in w) id → (m : Mark) → last_mark last id.client ≡ Some m → IsUpTo m id

-- no record of a call was taken
pub marks_stay : (w : World) (came : ℕ → Bool) (n : ℕ) (last : Marks) → IsFollowed w came → last ≡ marks_in w n → AreMarked w came last
marks_stay w came n last f same = record {
  sent = λ l m is. f.marks n l m (subst (λ ms. last_mark ms l ≡ Some m) same is);
  newest = λ id now under newest m is. newest n m (subst (λ ms. last_mark ms id.client ≡ Some m) same is);
}

-- a node's own marks
pub marks_at : (w : World) (n : ℕ) → n ≢ 255 → marks_in w n ≡ (w.nodes n).waiting.last
marks_at w n other = at_seat (λ m. (w.nodes m).waiting.last) w.coord.last n other

-- a call is found after the event, maybe with its hop raised
pub record IsFoundAfter (w : World) (later : ℕ → Bool) (n : ℕ) (k : Work) (id : CallId) : Type 0 where
  pub hop : ℕ
  pub under : IsUnderAfter w later n k (passed_on id hop)
  pub newest : IsNewest (put (marks_in w) n k.node.waiting.last) (passed_on id hop)

pub found_follows : (config : Config) (w : World) (came later : ℕ → Bool) (n : ℕ) (k : Work) → n ≢ 255 → All (λ (l : Letter). Fits l.message) k.sent → IsFollowed w came
    → ((id : CallId) → IsLast w id → IsUnder (posts_of w.envelopes) came (marks_in w) w.nodes w.coord id → IsNewest (marks_in w) id → IsFoundAfter w later n k id)
    → ((l : ℕ) (m : Mark) → last_mark k.node.waiting.last l ≡ Some m → m.seq ≤ (w.clients l).seq) → IsNumbered k.node → IsFollowed (After config w n k) later
unfolding posted
found_follows config w came later n k other fit f found marks numbered =
    let posts : posts_of (After config w n k).envelopes ≡ posts_after w k = posts_sent (Node n) w.events (length w.commits) w.envelopes k.sent fit in
    let taken : put (marks_in w) n k.node.waiting.last ≡ taken_of (put w.nodes n k.node) w.coord = seat_put (λ x. x.waiting.last) w.nodes w.coord.last n k.node other in
    record {
      busy = λ l current is unlisted.
          let b = f.busy l current is unlisted in
          let x = found (passed_on (id_at l (w.clients l).seq current.attempt) b.hop) (refl, (current, (is, refl))) b.under b.newest in
          let id = passed_on (id_at l (w.clients l).seq current.attempt) x.hop in
          record {
            hop = x.hop;
            under = subst (λ ps. IsUnder ps later (taken_of (put w.nodes n k.node) w.coord) (put w.nodes n k.node) w.coord id) (sym posts)
                (subst (λ (ms : ℕ → Marks). IsUnder (posts_after w k) later ms (put w.nodes n k.node) w.coord id) taken x.under);
            newest = subst (λ (ms : ℕ → Marks). IsNewest ms id) taken x.newest;
          };
      over = λ l s some is. told_more w.entries (entries_of (length w.commits) k.notes) l s (f.over l s some is);
      marks = subst (λ (ms : ℕ → Marks). (i l : ℕ) (m : Mark) → last_mark (ms i) l ≡ Some m → m.seq ≤ (w.clients l).seq) taken
          (put_all (λ i ms. (l : ℕ) (m : Mark) → last_mark ms l ≡ Some m → m.seq ≤ (w.clients l).seq) (marks_in w) n k.node.waiting.last marks (λ i _. f.marks i));
      batches = put_all (λ i x. IsNumbered x) w.nodes n k.node numbered (λ i _. f.batches i);
    }

pub node_follows : (config : Config) (w : World) (came later : ℕ → Bool) (n : ℕ) (k : Work) → n ≢ 255 → All (λ (l : Letter). Fits l.message) k.sent → IsFollowed w came → IsUnderStill w came later n k
    → AreMarked w came k.node.waiting.last → IsNumbered k.node → IsFollowed (After config w n k) later
node_follows config w came later n k other fit f still marks numbered =
    found_follows config w came later n k other fit f
    (λ id now under newest. record {
      hop = id.hop;
      under = still id under;
      newest = put_all (λ i ms. (m : Mark) → last_mark ms id.client ≡ Some m → IsUpTo m id) (marks_in w) n k.node.waiting.last (marks.newest id now under newest) (λ i _. newest i);
    })
    marks.sent numbered

-- a step that takes no call, and in which no call leaves the waiting ones or the batches
pub keeps_followed : (config : Config) (w : World) (came : ℕ → Bool) (n : ℕ) (k : Work) → n ≢ 255 → All (λ (l : Letter). Fits l.message) k.sent → IsFollowed w came → k.node.waiting.last ≡ (w.nodes n).waiting.last
    → ((y : WaitingCall) → IsIn y (w.nodes n).waiting.calls → (z : WaitingCall) × (IsIn z k.node.waiting.calls × (z.call ≡ y.call)))
    → ((y : BatchCall) → IsIn y (calls_in (w.nodes n).batches) → IsIn y (calls_in k.node.batches)) → IsNumbered k.node → IsFollowed (After config w n k) came
keeps_followed config w came n k other fit f last waiting planned numbered =
    let more = letter_posts (length w.commits) k.sent in
    let posts = posts_of w.envelopes in
    let taken = put (marks_in w) n k.node.waiting.last in
    node_follows config w came came n k other fit f
    (λ id under.
    under_node posts more came came (marks_in w) w.nodes w.coord n k.node id (IsUnderAfter w came n k id) (marks_at w n other) (λ u. u) (λ i y at ne fresh. fresh)
    (λ i p call at fresh same newer suited.
    asked_now posts more came (marks_in w) (put w.nodes n k.node) w.coord n i p k.node.waiting.last id call at fresh same (subst (λ ms. is_newer (mark_of id) (last_mark ms id.client) ≡ true) (sym last) newer) suited)
    (λ y at same. let z = waiting y at in waiting_now (posts ++ more) came taken w.nodes w.coord n k.node id z.0 z.1.0 (ap (λ (c : CallRec). c.id) z.1.1 ∙ same))
    (λ y at same. planned_now (posts ++ more) came taken w.nodes w.coord n k.node id y (planned y at) same)
    under)
    (marks_stay w came n k.node.waiting.last f (last ∙ sym (marks_at w n other)))
    numbered

-- ---- an item is served

-- a question changes no call, nor does a Block, and a Lock frees each
pub serve_follows : (config : Config) (w : World) (came : ℕ → Bool) (n : ℕ) (item : Item) → n ≢ 255 → All (λ (l : Letter). Fits l.message) (served (w.nodes n) item).sent → IsFollowed w came
    → IsFollowed (After config w n (served (w.nodes n) item)) came
unfolding served without_item shutting blocking
serve_follows config w came n item other fit f = by_kind item.message refl fit
  where
    numbered : IsNumbered (w.nodes n)
    numbered = f.batches n

    by_kind : (kind : Message) → item.message ≡ kind → All (λ (l : Letter). Fits l.message) (served_as (service_of (w.nodes n) kind) item.number).sent → IsFollowed (After config w n (served_as (service_of (w.nodes n) kind) item.number)) came
    by_kind (message.Lock operation keys) is sent_fit =
        keeps_followed config w came n (served_as (service_of (w.nodes n) (message.Lock operation keys)) item.number) other sent_fit f refl
        (λ y at. (unbound y, (in_map (λ (z : WaitingCall). unbound z) (w.nodes n).waiting.calls y at, refl))) (λ y at. at) (record { apart = numbered.apart; below = numbered.below })
    by_kind kind is sent_fit =
        keeps_followed config w came n (served_as (service_of (w.nodes n) kind) item.number) other sent_fit f refl (λ y at. (y, (at, refl))) (λ y at. at) (record { apart = numbered.apart; below = numbered.below })

-- ---- a batch is released

pub release_follows : (config : Config) (w : World) (came : ℕ → Bool) (n number : ℕ) (batch : Batch) → n ≢ 255 → IsFollowed w came → batch_of (w.nodes n) number ≡ Some batch → batch.executed ≡ true
    → IsFollowed (After config w n (begun (released (w.nodes n) number))) came
unfolding released
release_follows config w came n number batch other f at executed =
    let node = w.nodes n in
    let test = λ (b : Batch). b.number == number in
    keeps_followed config w came n (begun (released node number)) other (λ i x lt. absurd (omega arith)) f refl (λ y there. (y, (there, refl))) (λ y there. subst (λ ys. IsIn y ys) (calls_without test node.batches batch at executed) there)
    (record { apart = apart_without_first (λ (b : Batch). b.number) test node.batches (f.batches n).apart; below = each_without_first (λ (b : Batch). b.number < node.batches_numbered) test node.batches (f.batches n).below })
