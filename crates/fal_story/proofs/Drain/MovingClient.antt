-- A cluster goes on when a client sends and when it hears.
use Rattle.std.proofs.Common.{◌≡◌, ℕ, ◌+◌, Bool, true, List, [], length, map, Some, None, refl, sym, ap, subst, ◌∙◌, arith}
use Rattle.std.specs.Prelude.{slice_get}
use Rattle.fal_base.specs.declared.call.Call.{Call}
use Rattle.fal_base.specs.declared.call.CallId.{CallId}
use Rattle.fal_base.specs.declared.call.Config.{Config}
use Rattle.fal_base.specs.declared.event.Actor.{Actor}
use Rattle.fal_base.specs.declared.event.Actor.TheVariants.{Client, Node}
use Rattle.fal_base.specs.declared.event.Envelope.{Envelope}
use Rattle.fal_base.specs.declared.rule.RuleChange.{RuleChange}
use Rattle.fal_base.specs.Transcript.{call_of}
use Rattle.fal_wire.specs.Letters.{output_of}
use Rattle.fal_client.specs.declared.current.Current.{Current}
use Rattle.fal_client.specs.declared.event.ClientEvent.TheVariants as client
use Rattle.fal_client.specs.Paths.{addressee}
use Rattle.fal_client.specs.State.{ClientState, Work as ClientWork, unchanged}
use Rattle.fal_client.specs.Step.{client_step, begun, skipped, answered, retried, opened, opened_by, kept, listed, part_of, next_try, asks, asks_for, dir_of, id_at}
use Rattle.fal_place.specs.Placement.{table_after, with_changes}
use Rattle.fal_wire.specs.declared.message.Message.TheVariants as message
use Rattle.fal_story.proofs.Drain.Actors.{IsActor, letters_go}
use Rattle.fal_story.proofs.Drain.ClientGoes.{goes_there}
use Rattle.fal_story.proofs.Drain.Moving.{IsMoving, items_in, client_moves}
use Rattle.fal_story.proofs.Drain.MovingCoord.{each_go}
use Rattle.fal_story.proofs.Drain.MovingDeliver.{post_at, came_past}
use Rattle.fal_story.proofs.Drain.Fresh.{IsFresh, fresh_comes}
use Rattle.fal_story.proofs.Drain.OnWay.{IsOnWay, way_comes}
use Rattle.fal_story.proofs.Drain.Renewed.{next_table}
use Rattle.fal_story.proofs.Drain.Staged.{AreFreshStill, still_here}
use Rattle.fal_story.proofs.Events.ClientEvent.{sent_to}
use Rattle.fal_story.proofs.Events.EnabledClient.{IsTaking, trial, sends, gets, gets_own}
use Rattle.fal_story.proofs.Events.Rules.{known_route}
use Rattle.fal_story.proofs.Events.Shows.{Ghost, Shows, post_of, posts_of}
use Rattle.fal_story.proofs.Events.Within.{reached_route}
use Rattle.fal_story.proofs.Lists.Each.{Each}
use Rattle.fal_story.proofs.View.{Post, seat}
use Rattle.fal_story.specs.Clusters.{IsCluster}
use Rattle.fal_story.specs.World.{World, put, posted, envelopes_of}

abbrev pub AfterClient : Config → World → ℕ → ClientWork → World
AfterClient config w l m = posted config (record w { clients = put w.clients l m.client }) (Client l) (map output_of m.sent) m.notes

-- the next call of a client
pub next_call : (config : Config) (w : World) (l : ℕ) (h : Ghost) (call : Call) → Shows config w h → slice_get (w.clients l).left 0 ≡ Some call → call_of config l ((w.clients l).seq + 1) ≡ Some call
next_call config w l h call s left = ap (call_of config l) (nothing_more ((w.clients l).seq + 1)) ∙ sym ((s.heard l).left 0) ∙ left
  where
    nothing_more : (n : ℕ) → n ≡ n + 0
    nothing_more n = omega arith

pub send_moves : (config : Config) (w : World) (came : ℕ → Bool) (l : ℕ) (h : Ghost) (m : ClientWork) → IsCluster config → Shows config w h → IsMoving config w came → client_step (w.clients l) client.Send ≡ Some m
    → IsMoving config (AfterClient config w l m) came
unfolding begun skipped output_of
send_moves config w came l h m cluster s moving is =
    let c = w.clients l in
    sends c m (λ y. IsMoving config (AfterClient config w l y) came)
    (λ call none left good.
    client_moves config w came came l (begun c call).client (Client l) (map output_of (begun c call).sent) (begun c call).notes moving moving.past
    (goes_there config c.table (known_route config w h s l) call.op, tt) (λ n f o. o) (λ n. still_here (posts_of w.envelopes) came n))
    (λ call fault none left bad. client_moves config w came came l (skipped c fault).client (Client l) [] (skipped c fault).notes moving moving.past tt (λ n f o. o) (λ n. still_here (posts_of w.envelopes) came n))
    is

-- a call that is sent again goes to an actor that is there
again_goes : (config : Config) (w : World) (l number : ℕ) (h : Ghost) (x : Envelope) (id : CallId) (old new : ℕ) (changes : List RuleChange) (call : Call) (attempt : ℕ) → Shows config w h → slice_get w.envelopes number ≡ Some x
    → x.to ≡ Client l → IsTaking w l x id old new changes call attempt → IsActor config (addressee (with_changes (w.clients l).table new changes) call.op)
again_goes config w l number h x id old new changes call attempt s at to taking =
    let current : Current = trial call attempt None in
    let posted = sent_to w l number x (message.Stale id old new changes) at to taking.read in
    let table = next_table config w h l number x.point id old new changes current s posted taking.busy taking.seq taking.attempt in
    subst (λ t. IsActor config (addressee t call.op)) (sym table) (goes_there config (table_after config.nodes h.placings new) (reached_route config w h s new) call.op)

-- what asks for parts goes to nodes that are there
asks_go : (config : Config) (from : Actor) (event commits : ℕ) (c : ClientState) (current : Current) (dir : ℕ) → c.nodes ≡ config.nodes → dir_of current.listing ≡ Some dir
    → Each (λ (e : Envelope). IsActor config e.to) (envelopes_of from event commits (map output_of (asks c current)))
asks_go config from event commits c current dir same is =
    let id = id_at c.lane c.seq current.attempt in
    subst (λ o. Each (λ (e : Envelope). IsActor config e.to) (envelopes_of from event commits (map output_of (asks_for id c.table c.nodes current.call o)))) (sym is)
    (letters_go config from event commits (asks_for id c.table c.nodes current.call (Some dir)) (each_go config c.nodes (λ _. message.ListAsk id c.table.version dir) same))

pub get_moves : (config : Config) (w : World) (came : ℕ → Bool) (l number : ℕ) (h : Ghost) (x : Envelope) (m : ClientWork) → Shows config w h → IsMoving config w came → slice_get w.envelopes number ≡ Some x
    → client_step (w.clients l) (client.Get x) ≡ Some m → IsMoving config (AfterClient config w l m) (put came number true)
unfolding answered retried opened kept listed output_of
get_moves config w came l number h x m s moving at is =
    let c = w.clients l in
    let own = gets_own c x m is in
    let ways = λ (n f : ℕ) (o : IsOnWay (posts_of w.envelopes) came (items_in w) n f).
    way_comes (posts_of w.envelopes) came (items_in w) number (post_of x) n f (IsOnWay (posts_of w.envelopes) (put came number true) (items_in w) n f) (post_at w.envelopes number x at)
    (λ still. still)
    (λ p to key e. let wrong : Client c.lane ≡ Node to = sym (ap seat own) ∙ ap (λ (z : Post). z.to) e in absurd (cc))
    (λ p key what e. let wrong : Client c.lane ≡ Node n = sym (ap seat own) ∙ ap (λ (z : Post). z.to) e in absurd (cc))
    o in
    let past = came_past w.envelopes number x came at moving.past in
    let fresh : (n : ℕ) → AreFreshStill (posts_of w.envelopes) (posts_of w.envelopes) came (put came number true) n = λ n. record {
      to = λ m is f. fresh_comes (posts_of w.envelopes) came number (post_of x) (Node n) m (IsFresh (posts_of w.envelopes) (put came number true) (Node n) m) (post_at w.envelopes number x at) (λ still. still)
          (λ p e. let wrong : Client c.lane ≡ Node n = sym (ap seat own) ∙ ap (λ (z : Post). z.to) e in absurd (cc)) f;
      back = λ m is f. fresh_comes (posts_of w.envelopes) came number (post_of x) (Node 255) m (IsFresh (posts_of w.envelopes) (put came number true) (Node 255) m) (post_at w.envelopes number x at) (λ still. still)
          (λ p e. let wrong : Client c.lane ≡ Node 255 = sym (ap seat own) ∙ ap (λ (z : Post). z.to) e in absurd (cc)) f;
    } in
    let nodes = (s.heard l).nodes in
    let moves = λ (k : ClientWork) (go : Each (λ (e : Envelope). IsActor config e.to) (envelopes_of (Client l) w.events (length w.commits) (map output_of k.sent))).
    client_moves config w came (put came number true) l k.client (Client l) (map output_of k.sent) k.notes moving past go ways fresh in
    gets config w l number h x m (λ y. IsMoving config (AfterClient config w l y) (put came number true)) s at
    (λ _. moves (unchanged c) tt)
    (record {
      hears = λ id reply current a. moves (answered c x.point reply) tt;
      takes = λ id old new changes call attempt taking. moves (retried c (trial call attempt None) old new changes) (again_goes config w l number h x id old new changes call attempt s at (own ∙ ap Client (s.heard l).lane) taking, tt);
      restarts = λ id old new changes call attempt listing a. moves (retried c (trial call attempt (Some listing)) old new changes)
          (asks_go config (Client l) w.events (length w.commits) (record c { table = with_changes c.table new changes }) (next_try c.nodes (trial call attempt (Some listing))) listing.dir nodes refl);
      opens = λ id dir call attempt a. moves (opened c (trial call attempt None) dir x.point) (asks_go config (Client l) w.events (length w.commits) c (opened_by c.nodes (trial call attempt None) dir x.point) dir nodes refl);
      keeps = λ id node names call attempt listing a missing more. moves (kept c (trial call attempt (Some listing)) node (part_of x.point names)) tt;
      lasts = λ id node names call attempt listing a missing one. moves (listed c listing (part_of x.point names)) tt;
    })
    is
