-- A node's step under way: how it begins and how it ends.
use Rattle.std.proofs.Common.{◌≡◌, ◌≢◌, ℕ, List, [], ◌∷◌, ◌++◌, length, Option, refl, sym, ap, subst, ◌∙◌, append-nil}
use Rattle.std.specs.Prelude.{map}
use Rattle.std.specs.List.{All, AllByRecursion}
use Rattle.std.specs.Result.{result_ok}
use Rattle.std.proofs.lemmas.List.{map-append}
use Rattle.std.proofs.lemmas.List.Elements.{recursion_from_All}
use Rattle.fal_base.specs.declared.call.Config.{Config}
use Rattle.fal_base.specs.declared.event.Actor.{Actor}
use Rattle.fal_base.specs.declared.event.Actor.TheVariants.{Node}
use Rattle.fal_base.specs.declared.event.Envelope.{Envelope}
use Rattle.fal_base.specs.Transcript.{commits_of}
use Rattle.fal_run.specs.declared.call.BatchCall.{BatchCall}
use Rattle.fal_wire.specs.declared.letter.Letter.{Letter}
use Rattle.fal_node.specs.Letters.{Work, begun}
use Rattle.fal_node.specs.State.{NodeState}
use Rattle.fal_node.specs.declared.item.Item.{Item}
use Rattle.fal_wait.specs.declared.waiting_call.WaitingCall.{WaitingCall}
use Rattle.fal_wire.specs.declared.message.Message.{Message}
use Rattle.fal_wire.specs.Messages.{Fits}
use Rattle.fal_wire.proofs.ReadingLaws.{spelled_reads}
use Rattle.fal_wire.specs.Letters.{output_of}
use Rattle.fal_story.proofs.Events.Doing.{awaited}
use Rattle.fal_story.proofs.Events.Shows.{operating, replicas_of, fetches_of, opened_of, taken_of, shut_of, last_of, mapped, Ghost, Shows, Beside, Held, Heard, IsKeeping, IsPlaced, AreSent, view_of, post_of, posts_of, askings_of, calls_in, tables_of, barred_of, barred_in}
use Rattle.fal_story.proofs.Listing.Keeping.{keeping_more}
use Rattle.fal_story.proofs.Good.{Good}
use Rattle.fal_story.proofs.Lists.Each.{each_weaker}
use Rattle.fal_story.proofs.Lists.Grown.{put_all, put_other, put_swap, at_put, put_back, slice_get_front}
use Rattle.fal_story.proofs.View.{View, Post, post, seat}
use Rattle.fal_story.specs.World.{World, put, posted, point_of, entries_of, envelope_of, envelopes_of}

-- a letter of an event that begins after so many commits
abbrev pub letter_post : ℕ → Letter → Post
letter_post commits letter = post (seat letter.to) (point_of commits letter.point) letter.message

abbrev pub letter_posts : ℕ → List Letter → List Post
letter_posts commits letters = map (λ letter. letter_post commits letter) letters

-- the view of a world in which a node's step is under way
abbrev pub view_in : Config → World → ℕ → Work → Ghost → View
view_in config w n k h = record {
  rows = put (λ m. (w.nodes m).rows) n k.node.rows;
  replica = put (replicas_of w.nodes w.coord) n k.node.replica;
  fetches = put (fetches_of w.nodes w.coord) n (askings_of k.node.waiting.fetches);
  opened = put (opened_of w.nodes w.coord) n k.node.waiting.opened;
  taken = put (taken_of w.nodes w.coord) n k.node.waiting.last;
  drawn = put (λ m. (w.nodes m).drawn) n k.node.drawn;
  posts = posts_of w.envelopes ++ letter_posts (length w.commits) k.sent;
  entries = w.entries ++ entries_of (length w.commits) k.notes;
  commits = w.commits ++ commits_of config (entries_of (length w.commits) k.notes);
  seq = λ l. (w.clients l).seq;
  call = h.call;
  since = h.since;
  phase = h.phase;
  op = operating config (put (shut_of w.nodes) n k.node.locks.shut) (put (last_of w.nodes) n k.node.last_operation) w.coord h;
  map = mapped (put (tables_of w.nodes) n k.node.table) (put (barred_in w.nodes) n (barred_of k.node.blocked)) w.clients w.coord h;
}

-- node n is at work k, with these calls kept
pub record InStep (config : Config) (w : World) (n : ℕ) (k : Work) (h : Ghost) (ws : List WaitingCall) (ps : List BatchCall) : Type 0 where
  pub good : Good config (view_in config w n k h)
  pub here : Held h.call h.phase n ws ps
  pub others : (m : ℕ) → m ≢ n → Held h.call h.phase m (w.nodes m).waiting.calls (calls_in (w.nodes m).batches)
  pub items : AreSent (posts_of w.envelopes ++ letter_posts (length w.commits) k.sent) n k.node.items
  pub others_items : (m : ℕ) → m ≢ n → AreSent (posts_of w.envelopes) m (w.nodes m).items
  pub heard : (l : ℕ) → Heard config h.call h.phase l (w.clients l)
  pub kept : (l : ℕ) → IsKeeping w.commits (w.clients l)
  pub placed : IsPlaced config n k.node
  pub others_placed : (m : ℕ) → m ≢ n → IsPlaced config m (w.nodes m)

-- what was sent stays so
pub sent_more : (posts more : List Post) (n : ℕ) (items : List Item) → AreSent posts n items → AreSent (posts ++ more) n items
sent_more posts more n items s = each_weaker _ _ items (λ item x. (x.0, (x.1.0, slice_get_front posts more x.0 (post (Node n) x.1.0 item.message) x.1.1))) s

-- what a node other than the coordinator's seat has is at its place
pub at_seat : {A : Type 0} (f : ℕ → A) (own : A) (n : ℕ) → n ≢ 255 → put f 255 own n ≡ f n
at_seat f own n other = put_other f 255 own n other

-- nothing has changed there yet
seat_back : {A : Type 0} (f : ℕ → A) (own : A) (n : ℕ) → n ≢ 255 → ◌≡◌ {A = ℕ → A} (put f 255 own) (put (put f 255 own) n (f n))
seat_back f own n other = sym (put_back (put f 255 own) n) ∙ ap (put (put f 255 own) n) (at_seat f own n other)

-- a node's change, beside the coordinator's seat
pub seat_put : {A : Type 0} (g : NodeState → A) (nodes : ℕ → NodeState) (own : A) (n : ℕ) (x : NodeState) → n ≢ 255
    → ◌≡◌ {A = ℕ → A} (put (put (λ m. g (nodes m)) 255 own) n (g x)) (put (λ m. g (put nodes n x m)) 255 own)
seat_put g nodes own n x other = sym (ap (λ (f : ℕ → _). put f 255 own) (at_put g nodes n x) ∙ put_swap (λ m. g (nodes m)) n 255 (g x) own other)

-- the view at the beginning
pub view_begun : (config : Config) (w : World) (n : ℕ) (h : Ghost) → n ≢ 255 → view_of config w h ≡ view_in config w n (begun (w.nodes n)) h
view_begun config w n h other = λ i. record {
  rows = sym (put_back (λ m. (w.nodes m).rows) n) i;
  replica = seat_back (λ m. (w.nodes m).replica) w.coord.replica n other i;
  fetches = seat_back (λ m. askings_of (w.nodes m).waiting.fetches) (awaited w.coord.stage) n other i;
  opened = seat_back (λ m. (w.nodes m).waiting.opened) w.coord.asked n other i;
  taken = seat_back (λ m. (w.nodes m).waiting.last) w.coord.last n other i;
  drawn = sym (put_back (λ m. (w.nodes m).drawn) n) i;
  posts = sym (append-nil (posts_of w.envelopes)) i;
  entries = sym (append-nil w.entries) i;
  commits = sym (append-nil w.commits) i;
  seq = λ l. (w.clients l).seq;
  call = h.call;
  since = h.since;
  phase = h.phase;
  op = operating config (sym (put_back (shut_of w.nodes) n) i) (sym (put_back (last_of w.nodes) n) i) w.coord h;
  map = mapped (sym (put_back (tables_of w.nodes) n) i) (sym (put_back (barred_in w.nodes) n) i) w.clients w.coord h;
}

pub begins : (config : Config) (w : World) (n : ℕ) (h : Ghost) → n ≢ 255 → Shows config w h → InStep config w n (begun (w.nodes n)) h (w.nodes n).waiting.calls (calls_in (w.nodes n).batches)
begins config w n h other s =
    record {
      good = subst (Good config) (view_begun config w n h other) s.good;
      here = s.held n;
      others = λ m _. s.held m;
      items = sent_more (posts_of w.envelopes) [] n (w.nodes n).items (s.items n);
      others_items = λ m _. s.items m;
      heard = s.heard;
      kept = s.kept;
      placed = s.placed n;
      others_placed = λ m _. s.placed m;
    }

-- a record that fits is read as it was spelled
letter_read : (from : Actor) (event commits : ℕ) (letter : Letter) → Fits letter.message → post_of (envelope_of from event commits (output_of letter)) ≡ letter_post commits letter
unfolding output_of
letter_read from event commits letter fits = ap (λ (m : Option Message). record { to = seat letter.to; point = point_of commits letter.point; message = m }) (ap result_ok (spelled_reads letter.message fits))

letters_read : (from : Actor) (event commits : ℕ) (letters : List Letter) → AllByRecursion (λ letter. Fits letter.message) letters
    → posts_of (envelopes_of from event commits (map output_of letters)) ≡ letter_posts commits letters
letters_read from event commits [] fit = refl
letters_read from event commits (letter ∷ letters) fit = λ i. letter_read from event commits letter fit.0 i ∷ letters_read from event commits letters fit.1 i

pub posts_sent : (from : Actor) (event commits : ℕ) (envelopes : List Envelope) (letters : List Letter) → All (λ letter. Fits letter.message) letters
    → posts_of (envelopes ++ envelopes_of from event commits (map output_of letters)) ≡ posts_of envelopes ++ letter_posts commits letters
posts_sent from event commits envelopes letters fit =
    map-append post_of envelopes (envelopes_of from event commits (map output_of letters))
    ∙ ap (λ posts. posts_of envelopes ++ posts) (letters_read from event commits letters (recursion_from_All _ letters fit))

-- the records of the letters are sent, each of which can be read
pub ends : (config : Config) (w : World) (n : ℕ) (k : Work) (h : Ghost) → n ≢ 255 → All (λ letter. Fits letter.message) k.sent → Beside config (put w.nodes n k.node) w.coord h
    → InStep config w n k h k.node.waiting.calls (calls_in k.node.batches) → Shows config (posted config (record w { nodes = put w.nodes n k.node }) (Node n) (map output_of k.sent) k.notes) h
unfolding posted
ends config w n k h other fit beside s =
    record {
      good = subst (Good config) same s.good;
      held = put_all (λ m x. Held h.call h.phase m x.waiting.calls (calls_in x.batches)) w.nodes n k.node s.here s.others;
      items = put_all (λ m x. AreSent (posts_of (w.envelopes ++ envelopes_of (Node n) w.events (length w.commits) (map output_of k.sent))) m x.items) w.nodes n k.node
          (subst (λ posts. AreSent posts n k.node.items) (sym sent) s.items)
          (λ m apart. subst (λ posts. AreSent posts m (w.nodes m).items) (sym sent) (sent_more (posts_of w.envelopes) (letter_posts (length w.commits) k.sent) m (w.nodes m).items (s.others_items m apart)));
      heard = s.heard;
      kept = λ l. keeping_more w.commits (commits_of config (entries_of (length w.commits) k.notes)) (w.clients l) (s.kept l);
      placed = put_all (λ m x. IsPlaced config m x) w.nodes n k.node s.placed s.others_placed;
      beside = beside;
    }
  where
    sent : posts_of (w.envelopes ++ envelopes_of (Node n) w.events (length w.commits) (map output_of k.sent)) ≡ posts_of w.envelopes ++ letter_posts (length w.commits) k.sent
    sent = posts_sent (Node n) w.events (length w.commits) w.envelopes k.sent fit

    same : view_in config w n k h ≡ view_of config (posted config (record w { nodes = put w.nodes n k.node }) (Node n) (map output_of k.sent) k.notes) h
    same = λ i. record {
      rows = sym (at_put (λ x. x.rows) w.nodes n k.node) i;
      replica = seat_put (λ x. x.replica) w.nodes w.coord.replica n k.node other i;
      fetches = seat_put (λ x. askings_of x.waiting.fetches) w.nodes (awaited w.coord.stage) n k.node other i;
      opened = seat_put (λ x. x.waiting.opened) w.nodes w.coord.asked n k.node other i;
      taken = seat_put (λ x. x.waiting.last) w.nodes w.coord.last n k.node other i;
      drawn = sym (at_put (λ x. x.drawn) w.nodes n k.node) i;
      posts = sym sent i;
      entries = w.entries ++ entries_of (length w.commits) k.notes;
      commits = w.commits ++ commits_of config (entries_of (length w.commits) k.notes);
      seq = λ l. (w.clients l).seq;
      call = h.call;
      since = h.since;
      phase = h.phase;
      op = operating config (sym (at_put (λ x. x.locks.shut) w.nodes n k.node) i) (sym (at_put (λ x. x.last_operation) w.nodes n k.node) i) w.coord h;
      map = mapped (sym (at_put (λ x. x.table) w.nodes n k.node) i) (sym (at_put (λ x. barred_of x.blocked) w.nodes n k.node) i) w.clients w.coord h;
    }

-- the world after the event shows what there is
abbrev pub Ends : Config → World → ℕ → Work → Type 0
Ends config w n k = (h : Ghost) × Shows config (posted config (record w { nodes = put w.nodes n k.node }) (Node n) (map output_of k.sent) k.notes) h
