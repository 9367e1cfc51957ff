-- A client sends its next call.
use Rattle.std.proofs.Common.{◌≡◌, ◌≢◌, inl, ℕ, suc, ◌+◌, ◌<◌, List, [], ◌∷◌, ◌++◌, length, drop, map, Option, Some, None, Ok, refl, sym, ap, ◌∙◌, subst, arith, append-nil}
use Rattle.std.specs.Prelude.{slice_get, IsTrue}
use Rattle.std.specs.List.{All}
use Rattle.std.specs.Option.{option_map}
use Rattle.std.specs.Result.{result_ok}
use Rattle.std.proofs.lemmas.List.{map-append}
use Rattle.std.proofs.lemmas.Option.{same_Some, slice_get-map}
use Rattle.fal_base.specs.declared.call.Call.{Call}
use Rattle.fal_base.specs.declared.call.CallRec.{CallRec}
use Rattle.fal_base.specs.declared.call.Config.{Config}
use Rattle.fal_base.specs.declared.entry.Entry.TheVariants as entry
use Rattle.fal_base.specs.declared.event.Actor.{Actor}
use Rattle.fal_base.specs.declared.event.Actor.TheVariants.{Client, Node}
use Rattle.fal_base.specs.declared.event.Envelope.{Envelope}
use Rattle.fal_base.specs.declared.event.Note.TheVariants as note
use Rattle.fal_base.specs.declared.event.Point.TheVariants.{Here}
use Rattle.fal_base.specs.declared.path.PathFault.{PathFault}
use Rattle.fal_base.specs.declared.reply.Reply.TheVariants.{Fail}
use Rattle.fal_base.specs.Answer.{errno_of}
use Rattle.fal_base.specs.Transcript.{call_of}
use Rattle.fal_client.specs.declared.current.Current.{Current}
use Rattle.fal_client.specs.declared.event.ClientEvent.TheVariants as client
use Rattle.fal_base.specs.OpPaths.{bad_path}
use Rattle.fal_client.specs.Paths.{addressee}
use Rattle.fal_client.specs.State.{ClientState, Work as ClientWork, unchanged}
use Rattle.fal_client.specs.Step.{client_step, sent_next, started, begun, skipped, taken, first_try, letter_to, id_at}
use Rattle.fal_place.specs.Placement.{Placement}
use Rattle.fal_run.specs.declared.call.BatchCall.{BatchCall}
use Rattle.fal_node.specs.declared.item.Item.{Item}
use Rattle.fal_wait.specs.declared.waiting_call.WaitingCall.{WaitingCall}
use Rattle.fal_wire.specs.declared.message.Message.{Message}
use Rattle.fal_wire.specs.declared.message.Message.TheVariants as message
use Rattle.fal_wire.specs.Messages.{Fits, reading}
use Rattle.fal_wire.proofs.ReadingLaws.{spelled_reads}
use Rattle.fal_wire.specs.Letters.{output_of}
use Rattle.fal_story.proofs.Events.Besides.{beside_at_client}
use Rattle.fal_story.proofs.Listing.Keeping.{keeping_put}
use Rattle.fal_story.proofs.Events.ServedCalls.{call_is, node_seat, seated_at}
use Rattle.fal_story.proofs.Events.Shows.{Ghost, Shows, Held, Heard, AreKept, AreSent, IsListed, WaitsAt, PlannedAt, lane_of, planned_lane, view_of, post_of, posts_of, known_of}
use Rattle.fal_story.proofs.Good.{Good}
use Rattle.fal_story.proofs.Lists.Each.{each_weaker}
use Rattle.fal_story.proofs.Lists.Grown.{put_other, put_same, put_back, at_put, put_all, slice_get_front}
use Rattle.fal_story.proofs.Phase.{Phase, Idle, Asked, Plans, Runs, Tells, Lists, IsHeld}
use Rattle.fal_story.proofs.Steps.Called.{IsNext, asked_good}
use Rattle.fal_story.proofs.Steps.Posted.{posted_good}
use Rattle.fal_story.proofs.Steps.Skipped.{skipped_good}
use Rattle.fal_story.proofs.View.{View, Post, IsPosted, post, plain, seat}
use Rattle.fal_story.specs.Clusters.{IsCluster, is_lane}
use Rattle.fal_story.specs.World.{World, put, posted, envelope_of}

abbrev pub EndsClient : Config → World → ℕ → ClientWork → Type 0
EndsClient config w l m = (h : Ghost) × Shows config (posted config (record w { clients = put w.clients l m.client }) (Client l) (map output_of m.sent) m.notes) h

-- ---- what stays

-- where no node keeps a call of this lane, the nodes keep what they kept
pub held_elsewhere : (call call' : ℕ → CallRec) (phase phase' : ℕ → Phase) (l : ℕ) → ((n : ℕ) → IsHeld n (phase l) → ⊥) → ((m : ℕ) → m ≢ l → (phase' m ≡ phase m) × (call' m ≡ call m))
    → (n : ℕ) (ws : List WaitingCall) (ps : List BatchCall) → Held call phase n ws ps → Held call' phase' n ws ps
held_elsewhere call call' phase phase' l free same n ws ps h =
    let apart : (m : ℕ) → IsHeld n (phase m) → m ≢ l = λ m at e. free n (subst (λ i. IsHeld n (phase i)) e at) in
    record {
      waiters = each_weaker (WaitsAt call phase n) (WaitsAt call' phase' n) ws
          (λ x at. let o = same (lane_of x) (apart (lane_of x) (subst (IsHeld n) (sym at.0) refl)) in (o.0 ∙ at.0, at.1 ∙ sym o.1, at.2, at.3)) h.waiters;
      planned = each_weaker (PlannedAt call phase n) (PlannedAt call' phase' n) ps
          (λ x at. let o = same (planned_lane x) (apart (planned_lane x) (subst (IsHeld n) (sym at.0) refl)) in (o.0 ∙ at.0, at.1 ∙ sym o.1, at.2)) h.planned;
      waiters_apart = h.waiters_apart;
      planned_apart = h.planned_apart;
    }

-- more records are sent
pub sent_more : (posts more : List Post) (n : ℕ) (items : List Item) → AreSent posts n items → AreSent (posts ++ more) n items
sent_more posts more n items h = each_weaker _ _ items (λ item at. (at.0, (at.1.0, slice_get_front posts more at.0 _ at.1.1))) h

-- a record that comes to a client was sent to it
pub sent_to : (w : World) (l number : ℕ) (x : Envelope) (m : Message) → slice_get w.envelopes number ≡ Some x → x.to ≡ Client l → reading x.bytes ≡ Ok m → IsPosted (posts_of w.envelopes) number (Client l) x.point m
sent_to w l number x m at to read =
    slice_get-map (λ e. post_of e) w.envelopes number ∙ ap (option_map (λ e. post_of e)) at ∙ (λ i. Some (record { to = seat (to i); point = x.point; message = result_ok (read i) }))

-- another client hears nothing of it
pub heard_other : (config : Config) (call call' : ℕ → CallRec) (phase phase' : ℕ → Phase) (m : ℕ) (c : ClientState) → phase' m ≡ phase m → call' m ≡ call m → Heard config call phase m c → Heard config call' phase' m c
heard_other config call call' phase phase' m c same_phase same_call x = record {
  lane = x.lane;
  nodes = x.nodes;
  left = x.left;
  none = λ e. same_phase ∙ x.none e;
  some = λ current e. let y = x.some current e in ((λ z. y.0 (sym same_phase ∙ z)), y.1 ∙ ap plain (sym same_call), y.2 ∙ ap (λ (z : CallRec). z.id.attempt) (sym same_call), subst (λ p. IsListed config.nodes p current.listing) (sym same_phase) y.3);
}

drop_one : {A : Type 0} (xs : List A) (k : ℕ) → slice_get (drop 1 xs) k ≡ slice_get xs (suc k)
drop_one [] k = refl
drop_one (x ∷ xs) k = refl

zero_more : (n : ℕ) → n ≡ n + 0
zero_more n = omega arith

one_more : (n k : ℕ) → n + 1 + suc k ≡ n + 1 + 1 + k
one_more n k = omega arith

-- a client that changes keeps its table
pub same_known : (clients : ℕ → ClientState) (l : ℕ) (c : ClientState) → c.table ≡ (clients l).table → ◌≡◌ {A = ℕ → Placement} (known_of (put clients l c)) (known_of clients)
same_known clients l c same = at_put (λ (y : ClientState). y.table) clients l c ∙ ap (put (known_of clients) l) same ∙ put_back (known_of clients) l

-- ---- nothing changes at a client

pub rests : (config : Config) (w : World) (l : ℕ) (h : Ghost) → Shows config w h → EndsClient config w l (unchanged (w.clients l))
unfolding posted
rests config w l h s =
    let later : Shows config (record w { events = w.events + 1 }) h = record { good = s.good; held = s.held; items = s.items; heard = s.heard; kept = s.kept; placed = s.placed; beside = s.beside } in
    (h, subst (λ u. Shows config u h) same later)
  where
    same : record w { events = w.events + 1 } ≡ posted config (record w { clients = put w.clients l (w.clients l) }) (Client l) [] []
    same = λ i. record {
      clients = sym (put_back w.clients l) i;
      nodes = w.nodes;
      coord = w.coord;
      events = w.events + 1;
      envelopes = sym (append-nil w.envelopes) i;
      entries = sym (append-nil w.entries) i;
      commits = sym (append-nil w.commits) i;
    }

-- ---- Send

-- the call as its record has it
abbrev record_of : ClientState → Call → CallRec
record_of c call = record { id = id_at c.lane (c.seq + 1) 1; cred = call.cred; version = c.table.version; op = call.op }

next_is : (config : Config) (w : World) (l : ℕ) (h : Ghost) (call : Call) → IsCluster config → Shows config w h → slice_get (w.clients l).left 0 ≡ Some call → (w.clients l).current ≡ None
    → IsNext config (view_of config w h) l (record_of (w.clients l) call)
next_is config w l h call cluster s left none =
    let c = w.clients l in
    let heard_l = s.heard l in
    let named : call_of config l (c.seq + 1) ≡ Some call = ap (call_of config l) (zero_more (c.seq + 1)) ∙ sym (heard_l.left 0) ∙ left in
    record {
      idle = heard_l.none none;
      named = named;
      lane = heard_l.lane;
      number = refl;
      hop = refl;
      version = refl;
    }

-- the next call is taken, and is sent or answered
heard_next : (config : Config) (call' : ℕ → CallRec) (phase phase' : ℕ → Phase) (call : ℕ → CallRec) (l : ℕ) (c : ClientState) (current : Option Current)
    → (current ≡ None → phase' l ≡ Idle)
    → ((x : Current) → current ≡ Some x → (phase' l ≢ Idle) × (x.call ≡ plain (call' l)) × (x.attempt ≡ (call' l).id.attempt) × IsListed config.nodes (phase' l) x.listing)
    → Heard config call phase l c → Heard config call' phase' l (record (taken c) { current = current })
heard_next config call' phase phase' call l c current none some x = record {
  lane = x.lane;
  nodes = x.nodes;
  left = λ k. drop_one c.left k ∙ x.left (suc k) ∙ ap (call_of config l) (one_more c.seq k);
  none = none;
  some = some;
}

-- the post of a client's record
one_post : (from : Actor) (event commits : ℕ) (to : Actor) (m : Message) → Fits m → post_of (envelope_of from event commits (output_of (letter_to to m))) ≡ post (seat to) commits m
unfolding output_of
one_post from event commits to m fits = λ i. record { to = seat to; point = sym (zero_more commits) i; message = ap result_ok (spelled_reads m fits) i }

-- the posts after a client's one record
pub posts_with : (w : World) (l n : ℕ) (to : Actor) (m : Message) → seat to ≡ Node n → Fits m
    → posts_of w.envelopes ++ post (Node n) (length w.commits) m ∷ [] ≡ posts_of (w.envelopes ++ envelope_of (Client l) w.events (length w.commits) (output_of (letter_to to m)) ∷ [])
posts_with w l n to m there fits =
    let count = length w.commits in
    sym (map-append (λ e. post_of e) w.envelopes (envelope_of (Client l) w.events count (output_of (letter_to to m)) ∷ [])
    ∙ ap (λ p. posts_of w.envelopes ++ p ∷ []) (one_post (Client l) w.events count to m fits ∙ ap (λ a. post a count m) there))

skips : (config : Config) (w : World) (l : ℕ) (h : Ghost) (call : Call) (fault : PathFault) → IsCluster config → Shows config w h → slice_get (w.clients l).left 0 ≡ Some call → (w.clients l).current ≡ None
    → bad_path call.op ≡ Some fault → EndsClient config w l (skipped (w.clients l) fault)
unfolding posted skipped
skips config w l h call fault cluster s left none bad =
    let c = w.clients l in
    let v : View = view_of config w h in
    let x = s.heard l in
    let count = length w.commits in
    let idle = x.none none in
    let called = record_of c call in
    let first = skipped_good config v l called fault (next_is config w l h call cluster s left none) bad s.good in
    let h' : Ghost = record h { call = put h.call l called; since = put h.since l count } in
    let after : World = posted config (record w { clients = put w.clients l (taken c) }) (Client l) []
    (note.Sent c.lane (c.seq + 1) ∷ note.Answered c.lane (c.seq + 1) (Here 0) (Fail (errno_of fault)) ∷ []) in
    let same : record v {
      entries = w.entries ++ entry.Sent l (c.seq + 1) ∷ entry.Answered l (c.seq + 1) count (Fail (errno_of fault)) ∷ [];
      seq = put v.seq l (c.seq + 1);
      call = h'.call;
      since = h'.since;
    } ≡ view_of config after h' = λ i. record v {
      posts = posts_of (sym (append-nil w.envelopes) i);
      entries = w.entries ++ entry.Sent (sym x.lane i) (c.seq + 1) ∷ entry.Answered (sym x.lane i) (c.seq + 1) (zero_more count i) (Fail (errno_of fault)) ∷ [];
      commits = sym (append-nil w.commits) i;
      seq = sym (at_put (λ (y : ClientState). y.seq) w.clients l (taken c)) i;
      call = h'.call;
      since = h'.since;
      map = record v.map { known = sym (same_known w.clients l (taken c) refl) i };
    } in (
      h',
      record {
        good = subst (Good config) same first;
        held = λ n. held_elsewhere h.call h'.call h.phase h.phase l (λ m at. subst (IsHeld m) idle at) (λ m ne. (refl, put_other h.call l called m ne)) n _ _ (s.held n);
        items = λ n. subst (λ es. AreSent (posts_of es) n (w.nodes n).items) (sym (append-nil w.envelopes)) (s.items n);
        heard = put_all (λ m y. Heard config h'.call h.phase m y) w.clients l (taken c)
            (heard_next config h'.call h.phase h.phase h.call l c None (λ _. idle) (λ y e. absurd (cc)) x)
            (λ m ne. heard_other config h.call h'.call h.phase h.phase m (w.clients m) refl (put_other h.call l called m ne) (s.heard m));
        kept = keeping_put w.commits w.clients l (taken c) (λ y e. absurd (cc)) s.kept;
        placed = s.placed;
        beside = beside_at_client config w.nodes w.coord h l h'.call h'.since h.phase s.good.operation.running (λ at. subst (IsHeld 255) idle at) (λ e. let wrong : Idle ≡ Runs = sym idle ∙ e in absurd (cc))
            (λ i p e. let wrong : Idle ≡ Plans i p = sym idle ∙ e in absurd (cc)) (λ m ne. (refl, put_other h.call l called m ne)) s.beside;
      },
    )

begins : (config : Config) (w : World) (l : ℕ) (h : Ghost) (call : Call) → IsCluster config → Shows config w h → slice_get (w.clients l).left 0 ≡ Some call → (w.clients l).current ≡ None
    → bad_path call.op ≡ None → All (λ s. Fits s.message) (begun (w.clients l) call).sent → EndsClient config w l (begun (w.clients l) call)
unfolding posted begun
begins config w l h call cluster s left none good fit =
    let c = w.clients l in
    let v : View = view_of config w h in
    let x = s.heard l in
    let count = length w.commits in
    let idle = x.none none in
    let called = record_of c call in
    let next = next_is config w l h call cluster s left none in
    let to = seated_at c.table call.op in
    let n = to.0 in
    let sent = letter_to (addressee c.table call.op) (message.Call called) in
    let fits = (call_is config l (c.seq + 1) call cluster next.named).fits good in
    let few = cluster.few_nodes in
    let routed = λ (m : ℕ) (below : m < config.nodes) (is : n ≡ m).
    node_seat (addressee c.table call.op) m (λ own. absurd (omega arith)) (to.1 ∙ ap Node is) in
    let first = asked_good config v l n called next fits.1 routed s.good in
    let h' : Ghost = record h { call = put h.call l called; since = put h.since l count; phase = put h.phase l (Asked n) } in
    let v1 : View = record v { entries = w.entries ++ entry.Sent l (c.seq + 1) ∷ []; seq = put v.seq l (c.seq + 1); call = h'.call; since = h'.since; phase = h'.phase } in
    let second = posted_good config v1 (Node n) count (message.Call called)
    (record { asking = tt; records = (n, refl, inl (sym (ap h'.call x.lane ∙ put_same h.call l called), ap h'.phase x.lane ∙ put_same h.phase l (Asked n))); operation = tt; bars = tt; knowing = tt; listings = tt })
    first in
    let new : ClientState = record (taken c) { current = Some (first_try call) } in
    let after : World = posted config (record w { clients = put w.clients l new }) (Client l) (output_of sent ∷ []) (note.Sent c.lane (c.seq + 1) ∷ []) in
    let posts : posts_of w.envelopes ++ post (Node n) count (message.Call called) ∷ [] ≡ posts_of after.envelopes =
    posts_with w l n (addressee c.table call.op) (message.Call called) to.1 (fit 0 sent (omega arith)) in
    let same : record v1 { posts = v1.posts ++ post (Node n) count (message.Call called) ∷ [] } ≡ view_of config after h' = λ i. record v {
      posts = posts i;
      entries = w.entries ++ entry.Sent (sym x.lane i) (c.seq + 1) ∷ [];
      commits = sym (append-nil w.commits) i;
      seq = sym (at_put (λ (y : ClientState). y.seq) w.clients l new) i;
      call = h'.call;
      since = h'.since;
      phase = h'.phase;
      map = record v.map { known = sym (same_known w.clients l new refl) i };
    } in (
      h',
      record {
        good = subst (Good config) same second;
        held = λ m. held_elsewhere h.call h'.call h.phase h'.phase l (λ m at. subst (IsHeld m) idle at) (λ m ne. (put_other h.phase l (Asked n) m ne, put_other h.call l called m ne)) m _ _ (s.held m);
        items = λ m. subst (λ ps. AreSent ps m (w.nodes m).items) posts (sent_more (posts_of w.envelopes) (post (Node n) count (message.Call called) ∷ []) m (w.nodes m).items (s.items m));
        heard = put_all (λ m y. Heard config h'.call h'.phase m y) w.clients l new
            (heard_next config h'.call h.phase h'.phase h.call l c (Some (first_try call)) (λ e. absurd (cc))
            (λ y e. let is = same_Some (first_try call) y e in let asked = put_same h.phase l (Asked n) in (
              (λ z. absurd (cc)),
              ap (λ (t : Current). t.call) (sym is) ∙ ap plain (sym (put_same h.call l called)),
              ap (λ (t : Current). t.attempt) (sym is) ∙ ap (λ (z : CallRec). z.id.attempt) (sym (put_same h.call l called)),
              subst (λ (t : Current). IsListed config.nodes (h'.phase l) t.listing) is (λ k dir e. let wrong : Asked n ≡ Tells (Lists k dir) = sym asked ∙ e in absurd (cc)),
            ))
            x)
            (λ m ne. heard_other config h.call h'.call h.phase h'.phase m (w.clients m) (put_other h.phase l (Asked n) m ne) (put_other h.call l called m ne) (s.heard m));
        kept = keeping_put w.commits w.clients l new (λ y e. subst (λ (t : Current). AreKept c.table w.commits t.listing) (same_Some (first_try call) y e) tt) s.kept;
        placed = s.placed;
        beside = beside_at_client config w.nodes w.coord h l h'.call h'.since h'.phase s.good.operation.running (λ at. subst (IsHeld 255) idle at) (λ e. let wrong : Idle ≡ Runs = sym idle ∙ e in absurd (cc))
            (λ i p e. let wrong : Asked n ≡ Plans i p = sym (put_same h.phase l (Asked n)) ∙ e in absurd (cc)) (λ m ne. (put_other h.phase l (Asked n) m ne, put_other h.call l called m ne)) s.beside;
      },
    )

starts : (config : Config) (w : World) (l : ℕ) (h : Ghost) (call : Call) (bad : Option PathFault) → IsCluster config → Shows config w h → slice_get (w.clients l).left 0 ≡ Some call → (w.clients l).current ≡ None
    → bad_path call.op ≡ bad → All (λ s. Fits s.message) (started (w.clients l) call bad).sent → EndsClient config w l (started (w.clients l) call bad)
unfolding started
starts config w l h call None cluster s left none is fit = begins config w l h call cluster s left none is fit
starts config w l h call (Some fault) cluster s left none is fit = skips config w l h call fault cluster s left none is

sends : (config : Config) (w : World) (l : ℕ) (h : Ghost) (m : ClientWork) (current : Option Current) (next : Option Call) → IsCluster config → Shows config w h → (w.clients l).current ≡ current
    → slice_get (w.clients l).left 0 ≡ next → sent_next (w.clients l) current next ≡ Some m → All (λ s. Fits s.message) m.sent → EndsClient config w l m
unfolding sent_next
sends config w l h m None None cluster s none left is fit = absurd (cc)
sends config w l h m (Some current) next cluster s none left is fit = absurd (cc)
sends config w l h m None (Some call) cluster s none left is fit =
    let same : started (w.clients l) call (bad_path call.op) ≡ m = same_Some _ _ is in
    subst (EndsClient config w l) same (starts config w l h call (bad_path call.op) cluster s left none refl (subst (λ (y : ClientWork). All (λ s. Fits s.message) y.sent) (sym same) fit))

pub send_event : (config : Config) (w : World) (l : ℕ) (h : Ghost) (m : ClientWork) → IsCluster config → IsTrue (is_lane config l) → Shows config w h → client_step (w.clients l) client.Send ≡ Some m
    → All (λ s. Fits s.message) m.sent → EndsClient config w l m
unfolding client_step
send_event config w l h m cluster lane s is fit = sends config w l h m (w.clients l).current (slice_get (w.clients l).left 0) cluster s refl refl is fit
