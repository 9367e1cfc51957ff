-- The parts that clients ask for stay on the way through the events of clients.
use Rattle.std.proofs.Common.{◌≡◌, ◌≢◌, ℕ, ◌+◌, ◌<◌, Bool, true, false, List, [], ◌++◌, length, Option, Some, None, Result, Ok, Err, refl, sym, ap, subst, ◌∙◌, true≢false}
use Rattle.std.specs.Prelude.{slice_get}
use Rattle.std.specs.List.{All}
use Rattle.std.specs.Result.{result_ok}
use Rattle.std.proofs.lemmas.Option.{same_Some}
use Rattle.fal_base.specs.declared.call.Call.{Call}
use Rattle.fal_base.specs.declared.call.CallId.{CallId}
use Rattle.fal_base.specs.declared.call.Config.{Config}
use Rattle.fal_base.specs.declared.event.Actor.TheVariants.{Client, Node}
use Rattle.fal_base.specs.declared.event.Envelope.{Envelope}
use Rattle.fal_base.specs.declared.rule.RuleChange.{RuleChange}
use Rattle.fal_client.specs.declared.current.Current.{Current}
use Rattle.fal_client.specs.declared.current.Listing.{Listing}
use Rattle.fal_client.specs.declared.event.ClientEvent.TheVariants as client
use Rattle.fal_client.specs.Parts.{is_missing, no_parts}
use Rattle.fal_client.specs.State.{ClientState, Work as ClientWork, unchanged}
use Rattle.fal_client.specs.Step.{answered, asks, asks_for, begun, client_step, dir_of, first_try, id_at, kept, letter_to, listed, next_try, opened, opened_by, part_of, restarted, retried, skipped, with_part}
use Rattle.fal_node.specs.declared.item.Item.{Item}
use Rattle.fal_place.specs.Placement.{with_changes}
use Rattle.fal_wire.specs.declared.fault.WireFault.{WireFault}
use Rattle.fal_wire.specs.declared.letter.Letter.{Letter}
use Rattle.fal_wire.specs.declared.message.Message.{Message}
use Rattle.fal_wire.specs.declared.message.Message.TheVariants as message
use Rattle.fal_wire.specs.Messages.{Fits, reading}
use Rattle.fal_story.proofs.Drain.Moving.{IsMoving, IsPast, items_in}
use Rattle.fal_story.proofs.Drain.MovingClient.{AfterClient}
use Rattle.fal_story.proofs.Drain.MovingCoord.{each_told}
use Rattle.fal_story.proofs.Drain.MovingDeliver.{came_past, post_at}
use Rattle.fal_story.proofs.Listing.Parts.{IsPartOnWay, Asks, ArePartsOnWay, AreAsked, missing_other, part_comes, part_more}
use Rattle.fal_story.proofs.Drain.Sent.{letter_fresh}
use Rattle.fal_story.proofs.Events.ClientEvent.{sent_to}
use Rattle.fal_story.proofs.Events.EnabledClient.{IsOfCurrent, IsUnheard, gets, gets_own, sends, trial}
use Rattle.fal_story.proofs.Events.InStep.{letter_posts, posts_sent}
use Rattle.fal_story.proofs.Events.Shows.{Ghost, Shows, post_of, posts_of}
use Rattle.fal_story.proofs.Events.Within.{stale_within}
use Rattle.fal_story.proofs.Lists.Grown.{put_all}
use Rattle.fal_story.proofs.Lists.Members.{IsIn}
use Rattle.fal_story.proofs.View.{Post, seat}
use Rattle.fal_story.specs.World.{World, put, posted}

-- ---- a client's own parts

-- of a client that lists it is enough that the parts of this listing are on the way
lists_on_way : (nodes : ℕ) (posts : List Post) (came : ℕ → Bool) (items : ℕ → List Item) (l : ℕ) (c : ClientState) (current : Current) (listing : Listing) → c.current ≡ Some current → current.listing ≡ Some listing
    → ((n : ℕ) → n < nodes → is_missing listing.parts n ≡ true → IsPartOnWay posts came items (id_at l c.seq current.attempt) n) → ArePartsOnWay nodes posts came items l c
lists_on_way nodes posts came items l c current listing busy has ways other its n at its_is there missing =
    let same : current ≡ other = same_Some current other (sym busy ∙ at) in
    let one : listing ≡ its = same_Some listing its (sym has ∙ ap (λ (z : Current). z.listing) same ∙ its_is) in
    subst (λ (z : Current). IsPartOnWay posts came items (id_at l c.seq z.attempt) n) same (ways n there (subst (λ (z : Listing). is_missing z.parts n ≡ true) (sym one) missing))

-- a client with no call asks for none
none_on_way : (nodes : ℕ) (posts : List Post) (came : ℕ → Bool) (items : ℕ → List Item) (l : ℕ) (c : ClientState) → c.current ≡ None → ArePartsOnWay nodes posts came items l c
none_on_way nodes posts came items l c none current listing n at its_is there missing = let wrong : ◌≡◌ {A = Option Current} None (Some current) = sym none ∙ at in absurd (cc)

-- nor does one whose call does not list
unlisted_on_way : (nodes : ℕ) (posts : List Post) (came : ℕ → Bool) (items : ℕ → List Item) (l : ℕ) (c : ClientState) (current : Current) → c.current ≡ Some current → current.listing ≡ None → ArePartsOnWay nodes posts came items l c
unlisted_on_way nodes posts came items l c current busy unlisted other listing n at its_is there missing =
    let same : current ≡ other = same_Some current other (sym busy ∙ at) in
    let wrong : ◌≡◌ {A = Option Listing} None (Some listing) = sym unlisted ∙ ap (λ (z : Current). z.listing) same ∙ its_is in
    absurd (cc)

-- each node is asked
asked_anew : (w : World) (came : ℕ → Bool) (items : ℕ → List Item) (nodes l dir n : ℕ) (c : ClientState) (current : Current) → IsPast (length w.envelopes) came → c.nodes ≡ nodes → c.lane ≡ l → dir_of current.listing ≡ Some dir → n < nodes
    → IsPartOnWay (posts_of w.envelopes ++ letter_posts (length w.commits) (asks c current)) came items (id_at l c.seq current.attempt) n
asked_anew w came items nodes l dir n c current past same lane is there =
    let id = id_at c.lane c.seq current.attempt in
    let ask = message.ListAsk id c.table.version dir in
    let here : n < c.nodes = subst (λ i. n < i) (sym same) there in
    let among : IsIn (letter_to (Node n) ask) (asks c current) =
    subst (λ o. IsIn (letter_to (Node n) ask) (asks_for id c.table c.nodes current.call o)) (sym is) (each_told c.nodes n (λ _. ask) here) in
    let fresh = letter_fresh w.envelopes came (length w.commits) (asks c current) (letter_to (Node n) ask) past among in
    subst (λ i. IsPartOnWay (posts_of w.envelopes ++ letter_posts (length w.commits) (asks c current)) came items (id_at i c.seq current.attempt) n) lane
    (Asks fresh.0 fresh.1.0 c.table.version dir fresh.1.1.0 fresh.1.1.1)

-- ---- a client's event

-- the parts that it asks for are on the way, and those of others stay so
client_asked : (config : Config) (w : World) (came later : ℕ → Bool) (l : ℕ) (m : ClientWork) → All (λ (y : Letter). Fits y.message) m.sent → AreAsked config w came
    → ArePartsOnWay config.nodes (posts_of w.envelopes ++ letter_posts (length w.commits) m.sent) later (items_in w) l m.client
    → ((id : CallId) (n : ℕ) → id.client ≢ l → IsPartOnWay (posts_of w.envelopes) came (items_in w) id n → IsPartOnWay (posts_of w.envelopes) later (items_in w) id n) → AreAsked config (AfterClient config w l m) later
unfolding posted
client_asked config w came later l m fit asked own others =
    let more = letter_posts (length w.commits) m.sent in
    subst (λ ps. (i : ℕ) → ArePartsOnWay config.nodes ps later (items_in w) i (put w.clients l m.client i)) (sym (posts_sent (Client l) w.events (length w.commits) w.envelopes m.sent fit))
    (put_all (λ i x. ArePartsOnWay config.nodes (posts_of w.envelopes ++ more) later (items_in w) i x) w.clients l m.client own
    (λ i ne current listing n busy has there missing.
    let id = id_at i (w.clients i).seq current.attempt in
    part_more (posts_of w.envelopes) more later (items_in w) (items_in w) id n (λ item at. at) (others id n ne (asked i current listing n busy has there missing))))

-- a call that is sent does not list yet
pub send_asked : (config : Config) (w : World) (came : ℕ → Bool) (l : ℕ) (m : ClientWork) → client_step (w.clients l) client.Send ≡ Some m → All (λ (y : Letter). Fits y.message) m.sent → AreAsked config w came
    → AreAsked config (AfterClient config w l m) came
unfolding begun skipped
send_asked config w came l m is fit asked =
    let c = w.clients l in
    sends c m (λ y. All (λ (z : Letter). Fits z.message) y.sent → AreAsked config (AfterClient config w l y) came)
    (λ call none left good fit. client_asked config w came came l (begun c call) fit asked (unlisted_on_way config.nodes _ came (items_in w) l (begun c call).client (first_try call) refl refl) (λ id n ne on_way. on_way))
    (λ call fault none left bad fit. client_asked config w came came l (skipped c fault) fit asked (none_on_way config.nodes _ came (items_in w) l (skipped c fault).client refl) (λ id n ne on_way. on_way))
    is fit

-- ---- Get

read_is : (r : Result Message WireFault) (m : Message) → result_ok r ≡ Some m → r ≡ Ok m
read_is (Ok n) m e = cc
read_is (Err fault) m e = absurd (cc)

module _ (config : Config) (w : World) (came : ℕ → Bool) (l number : ℕ) (h : Ghost) (x : Envelope) (s : Shows config w h) (m : IsMoving config w came) (asked : AreAsked config w came) (at : slice_get w.envelopes number ≡ Some x)
    (to : x.to ≡ Client l) where
  abbrev later : ℕ → Bool
  later = put came number true

  abbrev old : List Post
  old = posts_of w.envelopes

  -- to another client nothing came
  others_still : (id : CallId) (n : ℕ) → id.client ≢ l → IsPartOnWay old came (items_in w) id n → IsPartOnWay old later (items_in w) id n
  others_still id n ne on_way =
      part_comes old came (items_in w) number (post_of x) id n (IsPartOnWay old later (items_in w) id n) (post_at w.envelopes number x at)
      (λ still. still)
      (λ p version dir is. let wrong : Client l ≡ Node n = sym (ap seat to) ∙ ap (λ (z : Post). z.to) is in absurd (cc))
      (λ p names is. absurd (ne (same_lane l id.client (sym (ap seat to) ∙ ap (λ (z : Post). z.to) is))))
      (λ p first next changes is. absurd (ne (same_lane l id.client (sym (ap seat to) ∙ ap (λ (z : Post). z.to) is))))
      on_way
    where
      same_lane : (a b : ℕ) → Client a ≡ Client b → b ≡ a
      same_lane a b e = cc

  -- to this client neither this part came nor a later table
  own_still : (id : CallId) (n : ℕ) → ((names : List (List ℕ)) → reading x.bytes ≡ Ok (message.ListPart id n names) → ⊥) → ((first next : ℕ) (changes : List RuleChange) → reading x.bytes ≡ Ok (message.Stale id first next changes) → ⊥)
      → IsPartOnWay old came (items_in w) id n → IsPartOnWay old later (items_in w) id n
  own_still id n untold unrenewed on_way =
      part_comes old came (items_in w) number (post_of x) id n (IsPartOnWay old later (items_in w) id n) (post_at w.envelopes number x at)
      (λ still. still)
      (λ p version dir is. let wrong : Client l ≡ Node n = sym (ap seat to) ∙ ap (λ (z : Post). z.to) is in absurd (cc))
      (λ p names is. absurd (untold names (read_is (reading x.bytes) _ (ap (λ (z : Post). z.message) is))))
      (λ p first next changes is. absurd (unrenewed first next changes (read_is (reading x.bytes) _ (ap (λ (z : Post). z.message) is))))
      on_way

  abbrev Asked : ClientWork → Type 0
  Asked y = All (λ (z : Letter). Fits z.message) y.sent → AreAsked config (AfterClient config w l y) later

  -- what came changes nothing
  rests_asked : IsUnheard w l x → Asked (unchanged (w.clients l))
  rests_asked unheard fit =
      client_asked config w came later l (unchanged (w.clients l)) fit asked
      (λ current listing n busy has there missing.
      let id = id_at l (w.clients l).seq current.attempt in
      part_more old [] later (items_in w) (items_in w) id n (λ item there. there)
      (own_still id n
      (λ names read. let none = unheard (message.ListPart id n names) read current listing busy refl refl has in absurd (cc))
      (λ first next changes read. true≢false (sym (stale_within config w h s l number x.point id first next changes (sent_to w l number x (message.Stale id first next changes) at to read)) ∙ unheard (message.Stale id first next changes) read current busy refl refl))
      (asked l current listing n busy has there missing)))
      others_still

  -- all parts are asked anew
  anew_asked : (k : ClientWork) (c : ClientState) (current : Current) (listing : Listing) → k.client.current ≡ Some current → current.listing ≡ Some listing → k.client.seq ≡ c.seq → k.sent ≡ asks c current → c.nodes ≡ config.nodes → c.lane ≡ l → Asked k
  anew_asked k c current listing busy has seq sent nodes lane fit =
      client_asked config w came later l k fit asked
      (lists_on_way config.nodes _ later (items_in w) l k.client current listing busy has
      (λ n there _.
      subst (λ ls. IsPartOnWay (old ++ letter_posts (length w.commits) ls) later (items_in w) (id_at l k.client.seq current.attempt) n) (sym sent)
      (subst (λ i. IsPartOnWay (old ++ letter_posts (length w.commits) (asks c current)) later (items_in w) (id_at l i current.attempt) n) (sym seq)
      (asked_anew w later (items_in w) config.nodes l listing.dir n c current (came_past w.envelopes number x came at m.past) nodes lane (ap (λ o. dir_of o) has) there))))
      others_still

  -- a part is kept, and others are missing still
  kept_asked : (id : CallId) (node : ℕ) (names : List (List ℕ)) (call : Call) (attempt : ℕ) (listing : Listing) → IsOfCurrent w l x (message.ListPart id node names) id call attempt (Some listing) → is_missing listing.parts node ≡ true
      → Asked (kept (w.clients l) (trial call attempt (Some listing)) node (part_of x.point names))
  unfolding kept
  kept_asked id node names call attempt listing of missing fit =
      let c = w.clients l in
      let mine = id_at l c.seq attempt in
      client_asked config w came later l (kept c (trial call attempt (Some listing)) node (part_of x.point names)) fit asked
      (lists_on_way config.nodes _ later (items_in w) l (kept c (trial call attempt (Some listing)) node (part_of x.point names)).client
      (trial call attempt (Some (with_part listing node (part_of x.point names)))) (with_part listing node (part_of x.point names)) refl refl
      (λ n there lacks.
      let y = missing_other listing.parts node n (part_of x.point names) lacks missing in
      part_more old [] later (items_in w) (items_in w) mine n (λ item there. there)
      (own_still mine n
      (λ other read. y.0 (same_node id mine node n names other (sym of.read ∙ read)))
      (λ first next changes read. let wrong : ◌≡◌ {A = Result Message WireFault} (Ok (message.ListPart id node names)) (Ok (message.Stale mine first next changes)) = sym of.read ∙ read in absurd (cc))
      (asked l (trial call attempt (Some listing)) listing n of.busy refl there y.1))))
      others_still
    where
      same_node : (a b : CallId) (i j : ℕ) (xs ys : List (List ℕ)) → ◌≡◌ {A = Result Message WireFault} (Ok (message.ListPart a i xs)) (Ok (message.ListPart b j ys)) → j ≡ i
      same_node a b i j xs ys e = cc

-- of each record that comes
pub get_asked : (config : Config) (w : World) (came : ℕ → Bool) (l number : ℕ) (h : Ghost) (x : Envelope) (m : ClientWork) → Shows config w h → IsMoving config w came → slice_get w.envelopes number ≡ Some x
    → client_step (w.clients l) (client.Get x) ≡ Some m → All (λ (y : Letter). Fits y.message) m.sent → AreAsked config w came → AreAsked config (AfterClient config w l m) (put came number true)
unfolding answered opened listed retried
get_asked config w came l number h x m s moving at is fit asked =
    let c = w.clients l in
    let lane = (s.heard l).lane in
    let nodes = (s.heard l).nodes in
    let to = gets_own c x m is ∙ ap Client lane in
    let later : ℕ → Bool = put came number true in
    let none = λ (k : ClientWork) (is_none : k.client.current ≡ None) (fit : All (λ (y : Letter). Fits y.message) k.sent).
    client_asked config w came later l k fit asked (none_on_way config.nodes _ later (items_in w) l k.client is_none) (others_still config w came l number h x s moving asked at to) in
    gets config w l number h x m (λ y. All (λ (z : Letter). Fits z.message) y.sent → AreAsked config (AfterClient config w l y) later) s at
    (λ unheard. rests_asked config w came l number h x s moving asked at to unheard)
    (record {
      hears = λ id reply current a. none (answered c x.point reply) refl;
      takes = λ id old new changes call attempt taking fit.
          let k = retried c (trial call attempt None) old new changes in
          client_asked config w came later l k fit asked (unlisted_on_way config.nodes _ later (items_in w) l k.client (trial call (attempt + 1) None) refl refl) (others_still config w came l number h x s moving asked at to);
      restarts = λ id old new changes call attempt listing of. anew_asked config w came l number h x s moving asked at to (retried c (trial call attempt (Some listing)) old new changes)
          (record c { table = with_changes c.table new changes }) (next_try c.nodes (trial call attempt (Some listing))) (restarted c.nodes listing) refl refl refl refl nodes lane;
      opens = λ id dir call attempt of. anew_asked config w came l number h x s moving asked at to (opened c (trial call attempt None) dir x.point) c
          (opened_by c.nodes (trial call attempt None) dir x.point) (record { dir = dir; opened = x.point; parts = no_parts c.nodes }) refl refl refl refl nodes lane;
      keeps = λ id node names call attempt listing of missing more. kept_asked config w came l number h x s moving asked at to id node names call attempt listing of missing;
      lasts = λ id node names call attempt listing of missing one. none (listed c listing (part_of x.point names)) refl;
    })
    is fit
